-- Lists in the order of a walk in depth, as lists in tree normal form are made: first the machine with no
-- entry, and after each machine those that it leads to, each with all that come of it. Which order this is
-- among a machine's own is this project's choice.
use Rattle.std.specs.Prelude.{◌≡◌, ℕ, zero, suc, ◌+◌, ◌≤◌, min, ◌↔◌, Bool, cond, IsTrue, List, [], ◌∷◌, ◌++◌}
use Rattle.std.specs.Prelude.{map, length, Contains}
use Rattle.bb_machine.specs.declared.entry.Dir.{Dir}
use Rattle.bb_machine.specs.declared.entry.Dir.TheVariants as dir
use Rattle.bb_machine.specs.declared.entry.Entry.{Entry}
use Rattle.bb_machine.specs.declared.entry.Entry.TheVariants.{Go}
use Rattle.bb_machine.specs.declared.entry.Next.TheVariants as next
use Rattle.bb_machine.specs.Machine.{Table, IsMachine, symbols_of}
use Rattle.bb_cert.specs.declared.verdict.Verdict.TheVariants.{Halt}
use Rattle.bb_cert.specs.claims.Claim.{Claim}
use Rattle.laws_of_verdicts.specs.Closed.{VerdictLine, blank_table, with_entry}
use Rattle.laws_of_verdicts.specs.UndefinedEntry.{HaltsOnUndefined, HasOtherUndefined}
use Rattle.laws_of_verdicts.specs.NormalForm.{IsEmpty, IsInNormalForm, UsesFirst}

-- the machine uses the first so many states and symbols, and not fewer
pub record Uses (table : Table) (states symbols : ℕ) : Type 0 where
  pub first : UsesFirst table states symbols
  pub least : (n k : ℕ) → UsesFirst table n k → (states ≤ n) × (symbols ≤ k)

-- the entries that write this symbol, move there and lead to one of the first so many states, in their order
abbrev pub entries_to : ℕ → Dir → ℕ → List Entry
entries_to write move zero = []
entries_to write move (suc to) = entries_to write move to ++ Go write move (next.State to) ∷ []

-- those that write this symbol: first to the right, then, but from the machine with no entry, to the left
abbrev pub entries_with : Bool → ℕ → ℕ → List Entry
entries_with is_root states write =
    entries_to write dir.R states ++ cond is_root [] (entries_to write dir.L states)

-- those that write one of the first so many symbols, in their order
abbrev pub entries_of : Bool → ℕ → ℕ → List Entry
entries_of is_root states zero = []
entries_of is_root states (suc write) =
    entries_of is_root states write ++ entries_with is_root states write

-- the machines with this undefined entry filled by entries that name at most the first unused state and
-- symbol
pub record FillsUndefinedBy (table : Table) (state symbol : ℕ) (more : List Table) : Type 0 where
  pub states : ℕ
  pub symbols : ℕ
  pub uses : Uses table states symbols
  pub is_root : Bool
  pub root : IsTrue is_root ↔ IsEmpty table
  pub machines : more ≡ map (with_entry table state symbol)
      (entries_of is_root (min (length table) (states + 1)) (min (symbols_of table) (symbols + 1)))

-- the line says that its machine halts, and it does so on one of several `---`
pub record HaltsOnOneOf (line : VerdictLine) (state symbol : ℕ) : Type 0 where
  pub steps : ℕ
  pub score : ℕ
  pub says : line.verdict ≡ Halt steps score
  pub undefined : HaltsOnUndefined line.table steps state symbol
  pub other : HasOtherUndefined line.table state symbol

-- the machines to which a line leads: those with this undefined entry filled; none from any other line
pub record LeadsTo (line : VerdictLine) (more : List Table) : Type 0 where
  pub filled : (state symbol : ℕ) → HaltsOnOneOf line state symbol
      → FillsUndefinedBy line.table state symbol more
  pub none : ((state symbol : ℕ) → HaltsOnOneOf line state symbol → ⊥) → more ≡ []

-- the lines are those of a walk in depth that has still to visit these machines, in this order
abbrev pub IsWalk : List Table → List VerdictLine → Type 0
IsWalk [] [] = Unit {0}
IsWalk [] (line ∷ lines) = ⊥
IsWalk (table ∷ tables) [] = ⊥
IsWalk (table ∷ tables) (line ∷ lines) = (line.table ≡ table)
    × ((more : List Table) × LeadsTo line more × IsWalk (more ++ tables) lines)

-- true lines in the order of the walk that begins at the machine with no entry
pub record AreWalked (lines : List VerdictLine) (states symbols : ℕ) : Type 0 where
  pub walk : IsWalk (blank_table states symbols ∷ []) lines
  pub machines : (line : VerdictLine) → Contains lines line → IsMachine line.table
  pub claims : (line : VerdictLine) → Contains lines line → Claim line.table line.verdict

-- are a list in normal form
abbrev pub WalksAreInNormalForm : Type 0
WalksAreInNormalForm = (lines : List VerdictLine) (states symbols : ℕ) → AreWalked lines states symbols
    → IsInNormalForm lines states symbols

-- the lines of a walk through the first machines, and then those of one through the second
pub record AreTwoWalks (first second : List Table) (lines : List VerdictLine) : Type 0 where
  pub before : List VerdictLine
  pub after : List VerdictLine
  pub joined : lines ≡ before ++ after
  pub walk_before : IsWalk first before
  pub walk_after : IsWalk second after

-- walks compose: a walk that has still to visit the machines of two lists is one through those of the first,
-- and then one through those of the second
abbrev pub WalksCompose : Type 0
WalksCompose = (first second : List Table) (lines : List VerdictLine)
    → IsWalk (first ++ second) lines ↔ AreTwoWalks first second lines
