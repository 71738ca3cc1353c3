-- Completions of a machine, and which verdicts they keep: the machines below one in tree normal form. These
-- notions are this project's own.
use Rattle.std.specs.Prelude.{◌≡◌, ◌≢◌, ℕ, Some}
use Rattle.bb_machine.specs.declared.entry.Entry.TheVariants.{Undefined}
use Rattle.bb_machine.specs.declared.entry.Next.TheVariants as next
use Rattle.bb_machine.specs.declared.plan.Plan.{Plan}
use Rattle.bb_machine.specs.Limits.{Bounds}
use Rattle.bb_machine.specs.Machine.{Table, entry_of}
use Rattle.bb_sim.specs.Configuration.{Configuration}
use Rattle.bb_sim.specs.Run.{conf, Never}
use Rattle.bb_cert.specs.declared.checker.answer.Answer.TheVariants.{Ok}
use Rattle.bb_cert.specs.declared.verdict.Verdict.{Verdict}
use Rattle.bb_cert.specs.declared.verdict.Verdict.TheVariants.{Halt, Cycler, Translated, Backward, Undecided}
use Rattle.bb_cert.specs.checker.Answer.{IsAnswer}
use Rattle.bb_cert.specs.claims.Claim.{Claim}
use Rattle.bb_decide.specs.Verdict.{IsVerdict}

-- the second machine has each entry of the first one that isn't `---`; each `---` may be filled, in any way.
-- It may have more states and symbols too: outside its table a machine's entry counts as `---`, and a run
-- that keeps to the first one's entries comes to nothing of what was added
pub record IsCompletion (table filled : Table) : Type 0 where
  pub kept : (state symbol : ℕ) → entry_of table state symbol ≢ Undefined
      → entry_of filled state symbol ≡ entry_of table state symbol

-- configuration n exists and is in Z
pub record IsInZ (table : Table) (n : ℕ) : Type 0 where
  pub here : Configuration
  pub exists : conf table n ≡ Some here
  pub in_z : here.state ≡ next.Halt

-- no `---` has a part in the verdict: a halt by a step into Z, or a pair. A machine that halts on a `---`
-- goes on once that is filled, and a tree has a node for each `---`
abbrev pub MeetsNoUndefined : Table → Verdict → Type 0
MeetsNoUndefined table (Halt steps score) = IsInZ table steps
MeetsNoUndefined table (Cycler first second) = Unit {0}
MeetsNoUndefined table (Translated side first second extent) = Unit {0}
MeetsNoUndefined table (Backward levels nodes) = ⊥
MeetsNoUndefined table (Undecided why) = ⊥

-- such a verdict is that of each completion, within the same bounds, by the same plan, in all its numbers
abbrev pub CompletionsKeepVerdicts : Type 0
CompletionsKeepVerdicts = (table filled : Table) (bounds : Bounds) (plan : Plan) (verdict : Verdict)
    → IsCompletion table filled → MeetsNoUndefined table verdict → IsVerdict table bounds plan verdict
    → IsVerdict filled bounds plan verdict

-- what such a verdict claims, however it was found, holds of each completion
abbrev pub CompletionsKeepClaims : Type 0
CompletionsKeepClaims = (table filled : Table) (verdict : Verdict) → IsCompletion table filled
    → MeetsNoUndefined table verdict → Claim table verdict → Claim filled verdict

-- and the checker answers ok to it there, within the same bounds
abbrev pub CompletionsKeepAnswers : Type 0
CompletionsKeepAnswers = (table filled : Table) (bounds : Bounds) (verdict : Verdict)
    → IsCompletion table filled → MeetsNoUndefined table verdict → IsAnswer table bounds verdict Ok
    → IsAnswer filled bounds verdict Ok

-- a machine that never halts meets no `---`, so its completions never halt either, for any verdict
abbrev pub CompletionsNeverHalt : Type 0
CompletionsNeverHalt = (table filled : Table) → IsCompletion table filled → Never table → Never filled
