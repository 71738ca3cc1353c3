-- The parts of a table in its order, and the last uses of a list of parts.
use Rattle.std.specs.Prelude.{ℕ, zero, suc, List, [], ◌∷◌, ◌++◌}
use Rattle.bb_machine.specs.Machine.{Table}
use Rattle.laws_of_recurrence.specs.Uses.{TablePart, of_state}
use Rattle.bb_recurrence.specs.declared.uses.LastUse.{LastUse}
use Rattle.bb_recurrence.specs.LastUses.{IsUse, of_entry}

-- the first states, from A on
abbrev pub states_before : ℕ → List TablePart
states_before zero = []
states_before (suc state) = states_before state ++ of_state state ∷ []

-- the first entries of a state, from symbol 0 on
abbrev pub row_before : ℕ → ℕ → List TablePart
row_before state zero = []
row_before state (suc symbol) = row_before state symbol ++ of_entry state symbol ∷ []

-- the entries of the first states, of so many symbols each
abbrev pub entries_before : ℕ → ℕ → List TablePart
entries_before symbols zero = []
entries_before symbols (suc state) = entries_before symbols state ++ row_before state symbols

-- each part is used for the last time as this list says
abbrev pub AreUses : Table → List TablePart → List LastUse → Type 0
AreUses table [] [] = Unit {0}
AreUses table [] (last ∷ uses) = ⊥
AreUses table (part ∷ parts) [] = ⊥
AreUses table (part ∷ parts) (last ∷ uses) = IsUse table part last × AreUses table parts uses
