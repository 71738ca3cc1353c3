-- The line of a machine: the machine of a list in normal form whose verdict settles it. These notions are
-- this project's own.
use Rattle.std.specs.Prelude.{◌≡◌, ◌≢◌, ℕ, ◌<◌, ◌≤◌, List, length, Contains}
use Rattle.bb_machine.specs.declared.entry.Dir.{Dir}
use Rattle.bb_machine.specs.declared.entry.Dir.TheVariants as dir
use Rattle.bb_machine.specs.declared.entry.Entry.TheVariants.{Go}
use Rattle.bb_machine.specs.declared.entry.Next.TheVariants as next
use Rattle.bb_machine.specs.declared.plan.Plan.{Plan}
use Rattle.bb_machine.specs.Limits.{Bounds}
use Rattle.bb_machine.specs.Machine.{Table, IsMachine, entry_of, symbols_of}
use Rattle.bb_sim.specs.Run.{HaltsAt, Never}
use Rattle.bb_sim.specs.Span.{Inside}
use Rattle.bb_cert.specs.declared.checker.answer.Answer.TheVariants.{Ok}
use Rattle.bb_cert.specs.declared.verdict.Verdict.{Verdict}
use Rattle.bb_cert.specs.declared.verdict.Verdict.TheVariants.{Halt, Cycler, Translated, Backward, Undecided}
use Rattle.bb_cert.specs.checker.Answer.{IsAnswer}
use Rattle.bb_cert.specs.claims.Claim.{Claim}
use Rattle.bb_decide.specs.Verdict.{IsVerdict}
use Rattle.laws_of_verdicts.specs.Change.{Change, IsChanged, changed_verdict}
use Rattle.laws_of_verdicts.specs.Closed.{FromUndefined, VerdictLine, blank_table, with_entry}
use Rattle.laws_of_verdicts.specs.Completion.{IsCompletion}
use Rattle.laws_of_verdicts.specs.NormalForm.{IsEmpty, IsInNormalForm, Lists}
use Rattle.laws_of_verdicts.specs.UndefinedEntry.{HaltsOnUndefined, HasOtherUndefined}
use Rattle.laws_of_verdicts.specs.Walk.{Uses}

-- the second machine completes the first one after a change
pub record CompletesChanged (change : Change) (table machine : Table) : Type 0 where
  pub changed : Table
  pub is_machine : IsMachine changed
  pub is_changed : IsChanged change table changed
  pub completes : IsCompletion changed machine

-- the list has the halt of each of its machines that halts inside the bounds
pub record ListsHalts (bounds : Bounds) (lines : List VerdictLine) : Type 0 where
  pub has : (line : VerdictLine) (steps : ℕ) → Contains lines line → HaltsAt line.table steps
      → Inside line.table bounds steps → (score : ℕ) × (line.verdict ≡ Halt steps score)

-- each list of the machine's size in normal form that has the halts inside the bounds has this machine
abbrev pub IsAlwaysListed : Bounds → Table → Type 0
IsAlwaysListed bounds table = (lines : List VerdictLine)
    → IsInNormalForm lines (length table) (symbols_of table) → ListsHalts bounds lines → Lists lines table

-- the first machine halts inside the bounds on one of several `---`, and the second one has there an entry that
-- leads to a state: it names at most the first unused state and symbol, and is the first entry only if it moves
-- to the right
pub record IsChild (bounds : Bounds) (table child : Table) : Type 0 where
  pub steps : ℕ
  pub state : ℕ
  pub symbol : ℕ
  pub undefined : HaltsOnUndefined table steps state symbol
  pub inside : Inside table bounds steps
  pub other : HasOtherUndefined table state symbol
  pub states : ℕ
  pub symbols : ℕ
  pub uses : Uses table states symbols
  pub write : ℕ
  pub to : ℕ
  pub move : Dir
  pub has_symbol : write < symbols_of table
  pub has_state : to < length table
  pub few_symbols : write ≤ symbols
  pub few_states : to ≤ states
  pub right : move ≡ dir.L → IsEmpty table → ⊥
  pub is_child : child ≡ with_entry table state symbol (Go write move (next.State to))

-- the walk leads to this machine from another one, through children
pub data IsBelow (bounds : Bounds) (table : Table) : Table → Type 0 where
  Itself : IsBelow bounds table table
  Through : (from child : Table) → IsChild bounds from child → IsBelow bounds table child
      → IsBelow bounds table from

-- the walk through the machines of its size comes to this one
abbrev pub IsInWalk : Bounds → Table → Type 0
IsInWalk bounds table = IsBelow bounds table (blank_table (length table) (symbols_of table))

-- the first machine is in the walk and in each such list, has no entry into Z, and the second completes it after
-- this change
pub record IsOnWay (change : Change) (bounds : Bounds) (table machine : Table) : Type 0 where
  pub is_machine : IsMachine table
  pub states : length table ≡ length machine
  pub symbols : symbols_of table ≡ symbols_of machine
  pub completed : CompletesChanged change table machine
  pub no_Z : (q s write : ℕ) (dir : Dir) → entry_of table q s ≢ Go write dir next.Halt
  pub listed : IsAlwaysListed bounds table
  pub walked : IsInWalk bounds table

-- and no list need go on to another one that the second completes: where the first halts inside the bounds on
-- one of several `---`, the second has no entry there that leads to a state
pub record IsLineOf (change : Change) (bounds : Bounds) (table machine : Table) : Type 0 where
  pub on_way : IsOnWay change bounds table machine
  pub last : (steps q s write to : ℕ) (dir : Dir) → HaltsOnUndefined table steps q s
      → Inside table bounds steps → HasOtherUndefined table q s
      → entry_of machine (change.states.new q) (change.symbols.new s) ≢ Go write dir (next.State to)

-- the machine's behaviour by its own entry for the `---` on which its line's machine halts: it halts there,
-- or a step later by an entry into Z, or never
pub record HaltsThrough (change : Change) (table machine : Table) (steps score : ℕ) : Type 0 where
  pub state : ℕ
  pub symbol : ℕ
  pub undefined : HaltsOnUndefined table steps state symbol
  pub does : FromUndefined machine steps score (change.symbols.new symbol)
      (entry_of machine (change.states.new state) (change.symbols.new symbol))

-- the consequence of the verdict on a machine's line for the machine; of a halt only if it is inside the
-- bounds
abbrev pub Follows : Change → Bounds → Table → Table → Verdict → Type 0
Follows change bounds table machine (Halt steps score) =
    Inside table bounds steps → HaltsThrough change table machine steps score
Follows change bounds table machine (Cycler first second) = Claim machine (Cycler first second)
Follows change bounds table machine (Translated side first second extent) =
    Claim machine (changed_verdict change (Translated side first second extent))
Follows change bounds table machine (Backward levels nodes) = Never machine
Follows change bounds table machine (Undecided why) = Unit {0}

-- so a true verdict on a machine's line settles the machine
abbrev pub LinesSettle : Type 0
LinesSettle = (change : Change) (bounds : Bounds) (table machine : Table) (verdict : Verdict)
    → IsMachine machine → IsLineOf change bounds table machine → Claim table verdict
    → Follows change bounds table machine verdict

-- a pair: a cycler, or a translated cycler
abbrev pub IsPair : Verdict → Type 0
IsPair (Cycler first second) = Unit {0}
IsPair (Translated side first second extent) = Unit {0}
IsPair (Halt steps score) = ⊥
IsPair (Backward levels nodes) = ⊥
IsPair (Undecided why) = ⊥

-- a pair is the machine's own verdict, but for the side, within any bounds, by any plan
abbrev pub LinesKeepPairs : Type 0
LinesKeepPairs = (change : Change) (table machine : Table) (bounds : Bounds) (plan : Plan) (verdict : Verdict)
    → IsMachine table → CompletesChanged change table machine → IsPair verdict
    → IsVerdict table bounds plan verdict → IsVerdict machine bounds plan (changed_verdict change verdict)

-- and where the checker answers ok to it, it does to the machine's
abbrev pub LinesKeepAnswers : Type 0
LinesKeepAnswers = (change : Change) (table machine : Table) (bounds : Bounds) (verdict : Verdict)
    → IsMachine table → CompletesChanged change table machine → IsPair verdict
    → IsAnswer table bounds verdict Ok → IsAnswer machine bounds (changed_verdict change verdict) Ok

-- a machine has one line
abbrev pub LinesAreUnique : Type 0
LinesAreUnique = (first second : Change) (bounds : Bounds) (table other machine : Table)
    → IsLineOf first bounds table machine → IsLineOf second bounds other machine → table ≡ other
