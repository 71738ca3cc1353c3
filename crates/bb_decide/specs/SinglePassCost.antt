-- What deciding a machine in a single pass costs, to the step: this project's own.
use Rattle.std.specs.Prelude.{◌≡◌, ℕ, ◌+◌, ◌<◌, ◌≤◌, ◌⊎◌, Bool, true, false, max, ℤ}
use Rattle.bb_machine.specs.Limits.{Bounds}
use Rattle.bb_machine.specs.Machine.{Table}
use Rattle.bb_machine.specs.declared.plan.Plan.{Plan}
use Rattle.bb_tape.specs.Content.{Content}
use Rattle.bb_sim.specs.declared.meter.Meter.{Meter}
use Rattle.bb_sim.specs.Meter.{zero_meter}
use Rattle.bb_sim.specs.Outcome.{HaltsNowhere}
use Rattle.bb_sim.specs.Span.{span, Inside, IsLastInside}
use Rattle.bb_registers.specs.Registers.{FitsRegisters}
use Rattle.bb_cert.specs.declared.verdict.Side.{Side}
use Rattle.bb_decide.specs.Cost.{CycleSteps, StepsIfMade, TranslationSteps}
use Rattle.bb_decide.specs.Cycle.{HasNoCycle, IsCycle, IsFirstCycle}
use Rattle.bb_decide.specs.Fingerprint.{MatchesPartner}
use Rattle.bb_decide.specs.Translation.{IsTranslation}

-- step s has its partner's fingerprint, and its run has left the registers, in which configurations are
-- compared exactly
abbrev pub LooksAgain : (ℤ → ℕ) → Table → ℕ → ℕ → Type 0
LooksAgain key table p s = MatchesPartner key table p s × (FitsRegisters table s → ⊥)

-- the single-pass run is stopped at step s: the first that looks as its partner, if it is inside and no cycle
-- and no record that agrees with its partner comes before it
pub record IsStoppedAt (key : ℤ → ℕ) (table : Table) (bounds : Bounds) (s : ℕ) : Type 0 where
  pub partner : ℕ
  pub alike : MatchesPartner key table partner s
  pub wide : FitsRegisters table s → ⊥
  pub inside : Inside table bounds s
  pub first : (p t : ℕ) → LooksAgain key table p t → s ≤ t
  pub no_cycle : (a t : ℕ) → t < s → IsCycle table bounds a t → ⊥
  pub no_record : (side : Side) (a b : ℕ) → b < s → IsTranslation table bounds side a b → ⊥

-- the first cycle comes at step s, in registers
pub record RepeatsInRegisters (table : Table) (bounds : Bounds) (s : ℕ) : Type 0 where
  pub partner : ℕ
  pub first : IsFirstCycle table bounds partner s
  pub fits : FitsRegisters table s

-- the last step of the single-pass run that isn't stopped: that of a cycle in registers; else that of the
-- first record that agrees with its partner, or of the whole run
abbrev pub SinglePassSteps : Table → Bounds → ℕ → Type 0
SinglePassSteps table bounds steps = RepeatsInRegisters table bounds steps
    ⊎ (((s : ℕ) → RepeatsInRegisters table bounds s → ⊥) × TranslationSteps table bounds steps)

-- if it isn't stopped, it is the only run
abbrev pub RunsOnce : (ℤ → ℕ) → Table → Bounds → ℕ → ℕ → Type 0
RunsOnce key table bounds steps latest = ((s : ℕ) → IsStoppedAt key table bounds s → ⊥)
    × SinglePassSteps table bounds steps × (latest ≡ steps)

-- if it is stopped, the search for cycles comes after it, and the search for agreeing records only if no
-- cycle was found and the machine doesn't halt
pub record RunsAgain (key : ℤ → ℕ) (table : Table) (bounds : Bounds) (steps latest : ℕ) : Type 0 where
  pub stop : ℕ
  pub is_stop : IsStoppedAt key table bounds stop
  pub cycles : ℕ
  pub is_cycles : CycleSteps table bounds cycles
  pub translations : ℕ
  pub is_translations : StepsIfMade (HaltsNowhere table bounds × HasNoCycle table bounds)
      (TranslationSteps table bounds) translations
  pub sum : steps ≡ stop + (cycles + translations)
  pub is_latest : latest ≡ max stop (max cycles translations)

-- so many steps are made in all, the last of any run being `latest`, with the search for cycles in use or
-- not, and that for agreeing records in use or not: with neither a whole run, with one the steps of that
-- search; only with both do fingerprints count
abbrev pub MakesRuns : (ℤ → ℕ) → Table → Bounds → (cyclers translated : Bool) → ℕ → ℕ → Type 0
MakesRuns key table bounds false false steps latest = IsLastInside table bounds steps × (latest ≡ steps)
MakesRuns key table bounds true false steps latest = CycleSteps table bounds steps × (latest ≡ steps)
MakesRuns key table bounds false true steps latest = TranslationSteps table bounds steps × (latest ≡ steps)
MakesRuns key table bounds true true steps latest =
    RunsOnce key table bounds steps latest ⊎ RunsAgain key table bounds steps latest

-- deciding a machine in a single pass has counted the steps of the runs that it made, and as its widest window the
-- span at the last step of any of them
pub record CountsRuns (key : ℤ → ℕ) (table : Table) (bounds : Bounds) (plan : Plan) (meter : Meter) : Type 0
  where
    pub latest : ℕ
    pub runs : MakesRuns key table bounds plan.cyclers plan.translated meter.steps latest
    pub most_cells : meter.most_cells ≡ span table latest

-- step s is inside, and the last in registers
pub record LeavesRegisters (table : Table) (bounds : Bounds) (s : ℕ) : Type 0 where
  pub inside : Inside table bounds s
  pub fits : FitsRegisters table s
  pub leaves : FitsRegisters table (s + 1) → ⊥

-- so many steps were made before the run that was refused memory after `part` steps of its own, with both
-- searches in use, the last of any run being `latest`: none, if it is the single-pass run, which has left the
-- registers; those in registers, if there was no memory to put its configuration on a tape; those up to its
-- stop, if it is the search for cycles; and those of that search too, without a find, if it is the one for
-- records
abbrev pub StepsBefore : (ℤ → ℕ) → Table → Bounds → ℕ → ℕ → ℕ → Type 0
StepsBefore key table bounds before latest part =
    ((before ≡ 0) × (latest ≡ 0) × (FitsRegisters table (part + 1) → ⊥))
    ⊎ (LeavesRegisters table bounds before × (latest ≡ before) × (part ≡ 0))
    ⊎ (IsStoppedAt key table bounds before × (latest ≡ before))
    ⊎ ((stop cycles : ℕ) × IsStoppedAt key table bounds stop × HaltsNowhere table bounds
    × HasNoCycle table bounds
    × CycleSteps table bounds cycles × (before ≡ stop + cycles) × (latest ≡ max stop cycles))

-- the same with these searches on: a run of one search alone is the first
abbrev pub RunsBefore : (ℤ → ℕ) → Table → Bounds → (cyclers translated : Bool) → ℕ → ℕ → ℕ → Type 0
RunsBefore key table bounds true true before latest part = StepsBefore key table bounds before latest part
RunsBefore key table bounds cyclers translated before latest part = (before ≡ 0) × (latest ≡ 0)

-- a run was refused memory: the tape has the cells of a configuration inside; the steps of the runs before it
-- were counted, and its own up to there; the widest window that was counted is that of these runs, which may
-- have taken in the cell of the refused step
pub record BreaksOff (key : ℤ → ℕ) (table : Table) (bounds : Bounds) (cyclers translated : Bool)
    (tape : Content) (old new : Meter) : Type 0 where
  pub before : ℕ
  pub latest : ℕ
  pub part : ℕ
  pub runs : RunsBefore key table bounds cyclers translated before latest part
  pub inside : Inside table bounds part
  pub on_tape : tape ≡ inside.here.tape
  pub steps : new.steps ≡ old.steps + (before + part)
  pub cells : max old.most_cells (max (span table latest) (span table part)) ≤ new.most_cells
  pub few_cells : new.most_cells ≤ max old.most_cells (max (span table latest) (span table (part + 1)))

-- deciding was refused memory: in a run, before any node was entered; or in the tree, after all runs
abbrev pub CountsRefused : (ℤ → ℕ) → Table → Bounds → Plan → Content → Meter → Type 0
CountsRefused key table bounds plan tape meter =
    (BreaksOff key table bounds plan.cyclers plan.translated tape zero_meter meter
    × (meter.nodes ≡ 0) × (meter.most_levels ≡ 0))
    ⊎ CountsRuns key table bounds plan meter
