-- The results of the deciders in use, for the functions of this crate. No public contract cites them.
use Rattle.std.specs.Prelude.{◌≡◌, ℕ, ◌+◌, ◌*◌, ◌≤◌, max, Bool, IfOk, IfSome, IsTrue, OnErr, Option, Some}
use Rattle.std.specs.Prelude.{None, Result}
use Rattle.bb_machine.specs.Limits.{Bounds}
use Rattle.bb_machine.specs.Machine.{Table}
use Rattle.bb_tape.specs.declared.tape.Memory.{Memory}
use Rattle.bb_sim.specs.declared.meter.Meter.{Meter}
use Rattle.bb_sim.specs.Span.{span, IsLastInside}
use Rattle.bb_cert.specs.declared.verdict.Verdict.{Verdict}
use Rattle.bb_cert.specs.declared.verdict.Verdict.TheVariants.{Cycler, Translated, Backward}
use Rattle.bb_cert.specs.claims.Claim.{Claim}
use Rattle.bb_cert.specs.verdict.Extent.{TellsExtent}
use Rattle.bb_cert.specs.verdict.Verdict.{HasNumbers}
use Rattle.bb_tree.specs.Tree.{Back}
use Rattle.bb_machine.specs.declared.plan.Plan.{Plan}
use Rattle.bb_decide.specs.Cycle.{IsFirstCycle}
use Rattle.bb_decide.specs.Translation.{IsFirstTranslation}
use Rattle.bb_decide.specs.Verdict.{PassesAll, PassesCycles, PassesTranslations}
use Rattle.bb_decide.specs.Cost.{CountsWalk, CycleSteps, StepsIfMade, TranslationSteps}

-- the promise of each search on its result: its claim is true and has numbers that fit a line, and it fails
-- only for memory, on tapes that may grow
pub record IsPromised {A : Type 0} (found_in : A → Option Verdict) (table : Table) (grows : Bool)
    (result : Result A Memory) : Type 0 where
  pub claim : IfOk result (λ answer. IfSome (found_in answer) (Claim table))
  pub numbers : IfOk result (λ answer. IfSome (found_in answer) HasNumbers)
  pub memory : OnErr result (IsTrue grows)

-- the result of the two searches, for cycles first
abbrev pub SearchesFind : Table → Bounds → Plan → Option Verdict → Type 0
SearchesFind table bounds plan None = PassesCycles table bounds plan × PassesTranslations table bounds plan
SearchesFind table bounds plan (Some (Cycler first second)) =
    IsTrue plan.cyclers × IsFirstCycle table bounds first second
SearchesFind table bounds plan (Some (Translated side first second extent)) =
    PassesCycles table bounds plan × IsTrue plan.translated
    × IsFirstTranslation table bounds side first second × TellsExtent table side first second extent
SearchesFind table bounds plan (Some verdict) = ⊥

-- so many steps were counted, and no window beyond that of a run within bounds
pub record Adds (table : Table) (bounds : Bounds) (count : ℕ) (old new : Meter) : Type 0 where
  pub steps : new.steps ≡ old.steps + count
  pub cells_kept : old.most_cells ≤ new.most_cells
  pub cells : (last : ℕ) → IsLastInside table bounds last
      → new.most_cells ≤ max old.most_cells (span table last)
  pub nodes : new.nodes ≡ old.nodes
  pub most_levels : new.most_levels ≡ old.most_levels

-- what the two searches count
pub record SearchesCount (table : Table) (bounds : Bounds) (plan : Plan) (old new : Meter) : Type 0 where
  pub cycles : ℕ
  pub is_cycles : StepsIfMade (IsTrue plan.cyclers) (CycleSteps table bounds) cycles
  pub translations : ℕ
  pub is_translations : StepsIfMade (PassesCycles table bounds plan × IsTrue plan.translated)
      (TranslationSteps table bounds) translations
  pub adds : Adds table bounds (cycles + translations) old new

-- no more than so many runs within bounds
pub record IsWithinRuns (count : ℕ) (bounds : Bounds) (old new : Meter) : Type 0 where
  pub steps : new.steps ≤ old.steps + count * bounds.steps
  pub most_cells : new.most_cells ≤ max old.most_cells bounds.cells
  pub nodes : new.nodes ≡ old.nodes
  pub most_levels : new.most_levels ≡ old.most_levels

-- the result of the deciders in use, in their order
abbrev pub DecidersFind : Table → Bounds → Plan → Option Verdict → Type 0
DecidersFind table bounds plan None = PassesAll table bounds plan
DecidersFind table bounds plan (Some (Backward levels nodes)) =
    PassesCycles table bounds plan × PassesTranslations table bounds plan × IsTrue plan.backward
    × Back table bounds levels nodes
DecidersFind table bounds plan (Some verdict) = SearchesFind table bounds plan (Some verdict)

-- backward reasoning is on, and the searches that are on found nothing
abbrev pub ReachesWalk : Table → Bounds → Plan → Type 0
ReachesWalk table bounds plan =
    PassesCycles table bounds plan × PassesTranslations table bounds plan × IsTrue plan.backward

-- what they count: the two searches first, then the walk
pub record DecidersCount (table : Table) (bounds : Bounds) (plan : Plan) (old new : Meter) : Type 0 where
  pub searched : Meter
  pub searches : SearchesCount table bounds plan old searched
  pub steps : new.steps ≡ searched.steps
  pub most_cells : new.most_cells ≡ searched.most_cells
  pub walk : CountsWalk (ReachesWalk table bounds plan) table bounds new

-- no more than two runs and a walk within bounds
pub record IsWithinDeciders (bounds : Bounds) (old new : Meter) : Type 0 where
  pub steps : new.steps ≤ old.steps + 2 * bounds.steps
  pub most_cells : new.most_cells ≤ max old.most_cells bounds.cells
  pub nodes : new.nodes ≤ max old.nodes bounds.nodes
  pub most_levels : new.most_levels ≤ max old.most_levels bounds.depth
