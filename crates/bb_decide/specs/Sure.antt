-- Patterns always found within reach of the limits, and verdicts kept under larger limits. These promises are
-- this project's own.
use Rattle.std.specs.Prelude.{◌≡◌, ℕ, ◌+◌, ◌^◌, ◌<◌, ◌≤◌, ◌⊎◌, Option, Some}
use Rattle.bb_machine.specs.Limits.{Bounds}
use Rattle.bb_machine.specs.Machine.{Table}
use Rattle.bb_sim.specs.Span.{Inside}
use Rattle.bb_cert.specs.declared.verdict.Side.{Side}
use Rattle.bb_cert.specs.declared.verdict.Verdict.{Verdict}
use Rattle.bb_cert.specs.declared.verdict.Verdict.TheVariants.{Halt, Cycler, Translated, Backward, Undecided}
use Rattle.bb_cert.specs.records.Agree.{Agree}
use Rattle.bb_cert.specs.records.Record.{IsRecord}
use Rattle.bb_cert.specs.claims.Repeat.{Same}
use Rattle.bb_machine.specs.declared.plan.Plan.{Plan}
use Rattle.bb_decide.specs.Verdict.{IsVerdict}

-- the least power of two that is at least both of two numbers
pub record IsLeastPower (power first second : ℕ) : Type 0 where
  pub exponent : ℕ
  pub is_power : power ≡ 2 ^ exponent
  pub not_below_first : first ≤ power
  pub not_below_second : second ≤ power
  pub least : (other : ℕ) → first ≤ 2 ^ other → second ≤ 2 ^ other → power ≤ 2 ^ other

-- a pair is found, and its second step is no later than this
abbrev pub IsFoundBy : ℕ → Option Verdict → Type 0
IsFoundBy latest (Some (Cycler first second)) = second ≤ latest
IsFoundBy latest (Some (Translated side first second extent)) = second ≤ latest
IsFoundBy latest found = ⊥

-- where the configuration of step a comes again p steps later, and step `power + p` is inside, a pair is
-- found, no later than there
abbrev pub FindsRepeats : Table → Bounds → Option Verdict → Type 0
FindsRepeats table bounds found = (a p power : ℕ) → 0 < p → Same table a (a + p) → IsLeastPower power a p
    → Inside table bounds (power + p) → IsFoundBy (power + p) found

-- where records i and i + r of a side agree, and the step n of its record `power + r` is inside, a pair is
-- found, no later than there
abbrev pub FindsAgreeingRecords : Table → Bounds → Option Verdict → Type 0
FindsAgreeingRecords table bounds found = (side : Side) (i r a b power n : ℕ) → 0 < r
    → IsRecord table side i a → IsRecord table side (i + r) b → Agree table side a b → IsLeastPower power i r
    → IsRecord table side (power + r) n → Inside table bounds n → IsFoundBy n found

-- none of the limits is smaller
pub record NoneIsSmaller (lower upper : Bounds) : Type 0 where
  pub steps : lower.steps ≤ upper.steps
  pub cells : lower.cells ≤ upper.cells
  pub depth : lower.depth ≤ upper.depth
  pub nodes : lower.nodes ≤ upper.nodes

-- a pair of any kind
abbrev pub IsPair : Verdict → Type 0
IsPair (Cycler first second) = Unit {0}
IsPair (Translated side first second extent) = Unit {0}
IsPair verdict = ⊥

-- what a verdict is later: the same, if it is a halt or a pair; a tree may become a pair, and anything may
-- come of an undecided one
abbrev pub StaysAs : Verdict → Verdict → Type 0
StaysAs (Backward levels nodes) later = (later ≡ Backward levels nodes) ⊎ IsPair later
StaysAs (Undecided why) later = Unit {0}
StaysAs earlier later = later ≡ earlier

-- a verdict is what those by the same plan within limits none of which is greater become
abbrev pub KeepsEarlier : Table → Bounds → Plan → Verdict → Type 0
KeepsEarlier table bounds plan verdict = (lower : Bounds) (earlier : Verdict) → NoneIsSmaller lower bounds
    → IsVerdict table lower plan earlier → StaysAs earlier verdict

-- a run finds it: a halt or a pair
abbrev pub IsFoundByRun : Verdict → Type 0
IsFoundByRun (Halt steps score) = Unit {0}
IsFoundByRun (Cycler first second) = Unit {0}
IsFoundByRun (Translated side first second extent) = Unit {0}
IsFoundByRun verdict = ⊥
