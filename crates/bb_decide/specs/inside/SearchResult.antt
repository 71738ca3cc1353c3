-- The results of searches, for the functions of this crate. No public contract cites them.
use Rattle.std.specs.Prelude.{◌≡◌, ℕ, ◌+◌, ◌≤◌, ◌⊎◌, max, Bool, true, false, IfOk, IfSome, OnErr}
use Rattle.std.specs.Prelude.{Option, Some, None}
use Rattle.std.specs.Prelude.{Result, ℤ}
use Rattle.bb_tape.specs.Content.{Content, blank}
use Rattle.bb_tape.specs.TapeView.{TapeView}
use Rattle.bb_tape.specs.declared.tape.Memory.{Memory}
use Rattle.bb_cert.specs.verdict.Extent.{TellsExtent}
use Rattle.bb_machine.specs.Limits.{Bounds}
use Rattle.bb_machine.specs.Machine.{Table}
use Rattle.bb_machine.specs.declared.plan.Plan.{Plan}
use Rattle.bb_sim.specs.declared.meter.Meter.{Meter}
use Rattle.bb_sim.specs.declared.simulation.Outcome.{Outcome}
use Rattle.bb_sim.specs.declared.simulation.Outcome.TheVariants as outcomes
use Rattle.bb_sim.specs.Meter.{CountsPart, CountsRun, CountsTo, IsWithinRun}
use Rattle.bb_sim.specs.Outcome.{IsOutcome}
use Rattle.bb_sim.specs.Run.{Never}
use Rattle.bb_sim.specs.Span.{span}
use Rattle.bb_registers.specs.Registers.{FitsRegisters}
use Rattle.bb_cert.specs.declared.verdict.Verdict.{Verdict}
use Rattle.bb_cert.specs.declared.verdict.Verdict.TheVariants.{Halt, Cycler, Translated, Undecided}
use Rattle.bb_cert.specs.declared.verdict.Why.TheVariants as why
use Rattle.bb_decide.specs.Bench.{BenchHasCells}
use Rattle.bb_decide.specs.declared.bench.Bench.{Bench}
use Rattle.bb_decide.specs.declared.search_result.SearchResult.{SearchResult}
use Rattle.bb_decide.specs.declared.search_result.SearchResult.TheVariants.{Found, Ran}
use Rattle.bb_decide.specs.Cycle.{CountsSearch, HasNoCycle, IsFirstCycle}
use Rattle.bb_decide.specs.Fingerprint.{AgreesByChance, CostsWhatItNames, most_steps, named_step}
use Rattle.bb_decide.specs.SinglePassCost.{IsStoppedAt, LeavesRegisters, MakesRuns}
use Rattle.bb_decide.specs.Translation.{FindsTranslation, HasNoTranslation, IsFirstTranslation}
use Rattle.bb_decide.specs.inside.Search.{IsPromised, SearchesFind}

-- what a search has found, if anything
abbrev pub found_of : SearchResult → Option Verdict
found_of (Found verdict) = Some verdict
found_of (Ran outcome) = None

-- the result of the single-pass run; none if it was stopped
abbrev pub found_in_single_pass : Option SearchResult → Option Verdict
found_in_single_pass None = None
found_in_single_pass (Some search_result) = found_of search_result

-- something was found, or the machine halts
abbrev pub is_settled : SearchResult → Bool
is_settled (Found verdict) = true
is_settled (Ran (outcomes.Halt steps score)) = true
is_settled (Ran outcome) = false

-- a search that found nothing has run as a simulation does
abbrev pub RanAs : Table → Bounds → SearchResult → Type 0
RanAs table bounds (Ran outcome) = IsOutcome table bounds outcome
RanAs table bounds (Found verdict) = Unit {0}

-- the result and the counts of the single-pass run; none if it was stopped
abbrev pub MakesSinglePass : Table → Bounds → (ℤ → ℕ) → Meter → Meter → Option SearchResult → Type 0
MakesSinglePass table bounds key old new None =
    (n : ℕ) × IsStoppedAt key table bounds n × CountsTo table n old new
MakesSinglePass table bounds key old new (Some (Found (Cycler first second))) =
    IsFirstCycle table bounds first second × CountsTo table second old new
    × ((n : ℕ) → IsStoppedAt key table bounds n → ⊥) × FitsRegisters table second
MakesSinglePass table bounds key old new (Some (Found verdict)) =
    FindsTranslation table bounds (Some verdict) × CountsSearch table bounds old new (Some verdict)
    × ((n : ℕ) → IsStoppedAt key table bounds n → ⊥)
MakesSinglePass table bounds key old new (Some (Ran outcome)) =
    HasNoTranslation table bounds × CountsRun table bounds old new × IsOutcome table bounds outcome
    × HasNoCycle table bounds × ((n : ℕ) → IsStoppedAt key table bounds n → ⊥)

-- the single-pass run was refused memory: after it left the registers, if it was ever there, with its
-- configuration on the tape; or to put that on a tape, after steps in registers, which were counted; then the
-- tape is blank
abbrev pub CutsSinglePass : Table → Bounds → Content → Meter → Meter → Type 0
CutsSinglePass table bounds tape old new =
    ((part : CountsPart table bounds tape old new) × (FitsRegisters table (part.at + 1) → ⊥))
    ⊎ ((n : ℕ) × LeavesRegisters table bounds n × CountsTo table n old new × (tape ≡ blank))

-- the promise of a search, for cycles or for agreeing records: its find, by `Finds`, or the outcome of its
-- run; its counts; and the bench unchanged, but for the contents of its tapes
pub record Seeks {T : Type 0} (Finds : Option Verdict → Type 0) (grows : Bool) (view : T → TapeView)
    (table : Table) (bounds : Bounds) (bench_old bench_new : Bench T) (old new : Meter)
    (result : Result SearchResult Memory) : Type 0 where
  pub found : IfOk result (λ search_result. Finds (found_of search_result))
  pub ran : IfOk result (RanAs table bounds)
  pub counted : IfOk result (λ search_result. CountsSearch table bounds old new (found_of search_result))
  pub cut : OnErr result (CountsPart table bounds (view bench_new.run).content old new)
  pub within : IsWithinRun bounds old new
  pub never : IfOk result (λ search_result. IfSome (found_of search_result) (λ verdict. Never table))
  pub promised : IsPromised found_of table grows result
  pub tapes : BenchHasCells view bounds.cells bench_new
  pub path : bench_new.path ≡ bench_old.path

-- the same of the single-pass run
pub record RunsSinglePass {T : Type 0} (grows : Bool) (view : T → TapeView) (table : Table) (bounds : Bounds)
    (key : ℤ → ℕ) (bench_old bench_new : Bench T) (old new : Meter)
    (result : Result (Option SearchResult) Memory) : Type 0 where
  pub single_pass : IfOk result (MakesSinglePass table bounds key old new)
  pub cut : OnErr result (CutsSinglePass table bounds (view bench_new.run).content old new)
  pub within : IsWithinRun bounds old new
  pub promised : IsPromised found_in_single_pass table grows result
  pub tapes : BenchHasCells view bounds.cells bench_new
  pub path : bench_new.path ≡ bench_old.path

-- the find of the searches in use, or else the outcome of the last one
abbrev pub EndsSearches : Table → Bounds → Plan → SearchResult → Type 0
EndsSearches table bounds plan (Found verdict) = SearchesFind table bounds plan (Some verdict)
EndsSearches table bounds plan (Ran outcome) =
    IsOutcome table bounds outcome × SearchesFind table bounds plan None

-- the same where both searches are on
abbrev pub EndsBoth : Table → Bounds → SearchResult → Type 0
EndsBoth table bounds (Found (Cycler first second)) = IsFirstCycle table bounds first second
EndsBoth table bounds (Found (Translated side first second extent)) =
    HasNoCycle table bounds × IsFirstTranslation table bounds side first second
    × TellsExtent table side first second extent
EndsBoth table bounds (Found verdict) = ⊥
EndsBoth table bounds (Ran outcome) =
    IsOutcome table bounds outcome × HasNoCycle table bounds × HasNoTranslation table bounds

-- the runs that are made with these searches on were counted: their steps, and the span at the last step of
-- any
pub record AddsRuns (key : ℤ → ℕ) (table : Table) (bounds : Bounds) (cyclers translated : Bool)
    (old new : Meter) : Type 0 where
  pub count : ℕ
  pub latest : ℕ
  pub runs : MakesRuns key table bounds cyclers translated count latest
  pub steps : new.steps ≡ old.steps + count
  pub most_cells : new.most_cells ≡ max old.most_cells (span table latest)

-- the verdict for an outcome, if no decider finds anything
abbrev pub verdict_of_outcome : Outcome → Verdict
verdict_of_outcome (outcomes.Halt steps score) = Halt steps score
verdict_of_outcome outcomes.NoSteps = Undecided why.Steps
verdict_of_outcome outcomes.NoCells = Undecided why.Cells

-- the verdict that an ending is, trees aside
abbrev pub verdict_of : SearchResult → Verdict
verdict_of (Found verdict) = verdict
verdict_of (Ran outcome) = verdict_of_outcome outcome

-- a search alone costs what its verdict names
abbrev pub CostsAlone : Bounds → ℕ → SearchResult → Type 0
CostsAlone bounds steps search_result = steps ≤ most_steps bounds (verdict_of search_result)

-- so do both, unless configurations up to the step that it names agree by chance
abbrev pub ResultCosts : (ℤ → ℕ) → Table → Bounds → ℕ → SearchResult → Type 0
ResultCosts key table bounds steps search_result =
    (AgreesByChance key table bounds (named_step bounds (verdict_of search_result)) → ⊥)
    → CostsAlone bounds steps search_result

-- so do those that are on
abbrev pub PlanCosts : (ℤ → ℕ) → Table → Bounds → Plan → ℕ → SearchResult → Type 0
PlanCosts key table bounds plan steps search_result =
    CostsWhatItNames key table bounds plan steps (verdict_of search_result)
