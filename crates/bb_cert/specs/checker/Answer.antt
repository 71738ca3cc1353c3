-- What is answered to a verdict: this project's own. The rules know nothing of how a verdict was found.
use Rattle.std.specs.Prelude.{◌≡◌, ℕ, ◌<◌, ◌≤◌, ◌⊎◌, Bool, true, false, List, codes}
use Rattle.bb_machine.specs.Limits.{Bounds}
use Rattle.bb_machine.specs.Machine.{Table}
use Rattle.bb_sim.specs.Span.{span}
use Rattle.bb_cert.specs.declared.checker.answer.Answer.{Answer}
use Rattle.bb_cert.specs.declared.checker.answer.Answer.TheVariants as answer
use Rattle.bb_cert.specs.declared.verdict.Verdict.{Verdict}
use Rattle.bb_cert.specs.declared.verdict.Verdict.TheVariants.{Halt, Cycler, Translated, Backward, Undecided}
use Rattle.bb_cert.specs.claims.Claim.{Claim}

-- nothing is claimed
abbrev pub IsUndecided : Verdict → Type 0
IsUndecided (Halt steps score) = ⊥
IsUndecided (Cycler first second) = ⊥
IsUndecided (Translated side first second extent) = ⊥
IsUndecided (Backward levels nodes) = ⊥
IsUndecided (Undecided why) = Unit {0}

-- more steps, levels or nodes are named than the bounds have
abbrev pub NamesTooMuch : Bounds → Verdict → Type 0
NamesTooMuch bounds (Halt steps score) = bounds.steps < steps
NamesTooMuch bounds (Cycler first second) = (bounds.steps < first) ⊎ (bounds.steps < second)
NamesTooMuch bounds (Translated side first second extent) = (bounds.steps < first) ⊎ (bounds.steps < second)
NamesTooMuch bounds (Backward levels nodes) = (bounds.depth < levels) ⊎ (bounds.nodes < nodes)
NamesTooMuch bounds (Undecided why) = ⊥

-- the first step of a pair isn't below its second
abbrev pub IsOutOfOrder : Verdict → Type 0
IsOutOfOrder (Halt steps score) = ⊥
IsOutOfOrder (Cycler first second) = second ≤ first
IsOutOfOrder (Translated side first second extent) = second ≤ first
IsOutOfOrder (Backward levels nodes) = ⊥
IsOutOfOrder (Undecided why) = ⊥

-- the run up to the last step that is named needs more cells than the bounds have
abbrev pub NeedsTooMuch : Table → Bounds → Verdict → Type 0
NeedsTooMuch table bounds (Halt steps score) = bounds.cells < span table steps
NeedsTooMuch table bounds (Cycler first second) = bounds.cells < span table second
NeedsTooMuch table bounds (Translated side first second extent) = bounds.cells < span table second
NeedsTooMuch table bounds (Backward levels nodes) = ⊥
NeedsTooMuch table bounds (Undecided why) = ⊥

-- the rules by which a verdict is answered
pub data Rule : Type 0 where
  undecided : Rule
  too_much_named : Rule
  out_of_order : Rule
  too_much_needed : Rule
  claim_holds : Rule
  all_else : Rule

-- in this order
abbrev pub rank : Rule → ℕ
rank undecided = 1
rank too_much_named = 2
rank out_of_order = 3
rank too_much_needed = 4
rank claim_holds = 5
rank all_else = 6

-- what each answers
abbrev pub answer_by : Rule → Answer
answer_by undecided = answer.Open
answer_by too_much_named = answer.Over
answer_by out_of_order = answer.Bad
answer_by too_much_needed = answer.Over
answer_by claim_holds = answer.Ok
answer_by all_else = answer.Bad

-- the condition of each rule, apart from the others
abbrev pub Applies : Table → Bounds → Verdict → Rule → Type 0
Applies table bounds verdict undecided = IsUndecided verdict
Applies table bounds verdict too_much_named = NamesTooMuch bounds verdict
Applies table bounds verdict out_of_order = IsOutOfOrder verdict
Applies table bounds verdict too_much_needed = NeedsTooMuch table bounds verdict
Applies table bounds verdict claim_holds = Claim table verdict
Applies table bounds verdict all_else = Unit {0}

-- the answer is that of the first rule that applies
pub record IsAnswer (table : Table) (bounds : Bounds) (verdict : Verdict) (given : Answer) : Type 0 where
  pub rule : Rule
  pub is : given ≡ answer_by rule
  pub applies : Applies table bounds verdict rule
  pub first : (other : Rule) → Applies table bounds verdict other → rank rule ≤ rank other

-- a rule applies for which nothing has to be run
abbrev pub IsSettled : Bounds → Verdict → Type 0
IsSettled bounds verdict = IsUndecided verdict ⊎ (NamesTooMuch bounds verdict ⊎ IsOutOfOrder verdict)

-- the word for an answer
abbrev pub answer_text : Answer → List ℕ
answer_text answer.Ok = codes "ok"
answer_text answer.Bad = codes "bad"
answer_text answer.Over = codes "over"
answer_text answer.Open = codes "open"

-- the answers that leave a run clean
abbrev pub is_fine : Answer → Bool
is_fine answer.Ok = true
is_fine answer.Bad = false
is_fine answer.Over = false
is_fine answer.Open = true
