-- Changes of a machine that preserve its behaviour: left and right swapped, its states renamed, its symbols
-- renamed. These notions are this project's own.
use Rattle.std.specs.Prelude.{◌≡◌, ℕ, ◌<◌, ◌↔◌, Bool, true, false, cond, length, nat_eq, ℤ, neg_ℤ}
use Rattle.bb_machine.specs.declared.entry.Dir.{Dir}
use Rattle.bb_machine.specs.declared.entry.Dir.TheVariants as dir
use Rattle.bb_machine.specs.declared.entry.Entry.{Entry}
use Rattle.bb_machine.specs.declared.entry.Entry.TheVariants.{Undefined, Go}
use Rattle.bb_machine.specs.declared.entry.Next.{Next}
use Rattle.bb_machine.specs.declared.entry.Next.TheVariants as next
use Rattle.bb_machine.specs.declared.plan.Plan.{Plan}
use Rattle.bb_machine.specs.Limits.{Bounds}
use Rattle.bb_machine.specs.Machine.{Table, IsMachine, entry_of, symbols_of}
use Rattle.bb_cert.specs.declared.checker.answer.Answer.{Answer}
use Rattle.bb_cert.specs.declared.verdict.Side.{Side}
use Rattle.bb_cert.specs.declared.verdict.Side.TheVariants as side
use Rattle.bb_cert.specs.declared.verdict.Verdict.{Verdict}
use Rattle.bb_cert.specs.declared.verdict.Verdict.TheVariants.{Halt, Cycler, Translated, Backward, Undecided}
use Rattle.bb_cert.specs.checker.Answer.{IsAnswer}
use Rattle.bb_cert.specs.claims.Claim.{Claim}
use Rattle.bb_decide.specs.Verdict.{IsVerdict}

-- each number has a new name, no two the same, and each is the new name of one
pub record Renaming : Type 0 where
  pub new : ℕ → ℕ
  pub old : ℕ → ℕ
  pub old_of_new : (n : ℕ) → old (new n) ≡ n
  pub new_of_old : (n : ℕ) → new (old n) ≡ n

-- two names swapped, all others kept
abbrev pub swapped : ℕ → ℕ → ℕ → ℕ
swapped a b x = cond (nat_eq x a) b (cond (nat_eq x b) a x)

-- left and right swapped or not, the states renamed, the symbols renamed; A stays A, 0 stays 0, Z stays Z
pub record Change : Type 0 where
  pub mirrored : Bool
  pub states : Renaming
  pub symbols : Renaming
  pub keeps_A : states.new 0 ≡ 0
  pub keeps_0 : symbols.new 0 ≡ 0

-- the other direction, where left and right are swapped
abbrev pub turned : Bool → Dir → Dir
turned false to = to
turned true dir.L = dir.R
turned true dir.R = dir.L

-- the other side, where left and right are swapped
abbrev pub turned_side : Bool → Side → Side
turned_side false on = on
turned_side true side.L = side.R
turned_side true side.R = side.L

-- a position, or a distance, where left and right are swapped
abbrev pub placed : Bool → ℤ → ℤ
placed false p = p
placed true p = neg_ℤ p

-- whether just one of two is true
abbrev pub either : Bool → Bool → Bool
either false other = other
either true false = true
either true true = false

abbrev pub changed_next : Change → Next → Next
changed_next change (next.State q) = next.State (change.states.new q)
changed_next change next.Halt = next.Halt

abbrev pub changed_entry : Change → Entry → Entry
changed_entry change Undefined = Undefined
changed_entry change (Go write to then) =
    Go (change.symbols.new write) (turned change.mirrored to) (changed_next change then)

-- the second machine is the first one changed: it has as many states and symbols, and its entry for new names
-- of a state and a symbol is the entry for their old names, changed
pub record IsChanged (change : Change) (table changed : Table) : Type 0 where
  pub states : length changed ≡ length table
  pub symbols : symbols_of changed ≡ symbols_of table
  pub states_named : (q : ℕ) → (q < length table) ↔ (change.states.new q < length table)
  pub symbols_named : (s : ℕ) → (s < symbols_of table) ↔ (change.symbols.new s < symbols_of table)
  pub entries : (q s : ℕ) → entry_of changed (change.states.new q) (change.symbols.new s)
      ≡ changed_entry change (entry_of table q s)

-- a translated cycler has the other side where left and right are swapped; all else stays
abbrev pub changed_verdict : Change → Verdict → Verdict
changed_verdict change (Halt steps score) = Halt steps score
changed_verdict change (Cycler first second) = Cycler first second
changed_verdict change (Translated on first second extent) =
    Translated (turned_side change.mirrored on) first second extent
changed_verdict change (Backward levels nodes) = Backward levels nodes
changed_verdict change (Undecided why) = Undecided why

-- the changed machine has the changed verdict, within the same bounds, by the same plan, in all its numbers
abbrev pub ChangesKeepVerdicts : Type 0
ChangesKeepVerdicts = (change : Change) (table changed : Table) (bounds : Bounds) (plan : Plan)
    (verdict : Verdict) → IsMachine table → IsMachine changed → IsChanged change table changed
    → IsVerdict table bounds plan verdict → IsVerdict changed bounds plan (changed_verdict change verdict)

-- what a verdict claims of the machine, however it was found, the changed one claims of the changed machine
abbrev pub ChangesKeepClaims : Type 0
ChangesKeepClaims = (change : Change) (table changed : Table) (verdict : Verdict) → IsMachine table
    → IsMachine changed → IsChanged change table changed → Claim table verdict
    → Claim changed (changed_verdict change verdict)

-- and the checker answers both alike, within the same bounds
abbrev pub ChangesKeepAnswers : Type 0
ChangesKeepAnswers = (change : Change) (table changed : Table) (bounds : Bounds) (verdict : Verdict)
    (answer : Answer) → IsMachine table → IsMachine changed → IsChanged change table changed
    → IsAnswer table bounds verdict answer → IsAnswer changed bounds (changed_verdict change verdict) answer
