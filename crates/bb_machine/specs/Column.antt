-- The column of the first error in a line without a machine. The column of a refused line is this project's
-- own notion.
use Rattle.std.specs.Prelude.{◌≡◌, ℕ, ◌+◌, ◌≤◌, List, ◌++◌, length, take}
use Rattle.bb_machine.specs.declared.machine.TheConstants.{MAX_STATES, MAX_SYMBOLS}
use Rattle.bb_machine.specs.Machine.{Table, IsMachineWithin, text}

-- `whole` is `prefix` and then something or nothing
abbrev pub BeginsWith : List ℕ → List ℕ → Type 0
BeginsWith whole prefix = (rest : List ℕ) × (whole ≡ prefix ++ rest)

-- bytes with which the text of some machine begins
abbrev pub IsViableWithin : ℕ → ℕ → List ℕ → Type 0
IsViableWithin most_states most_symbols prefix =
    (gs : Table) × IsMachineWithin most_states most_symbols gs × BeginsWith (text gs) prefix

abbrev pub IsViable : List ℕ → Type 0
IsViable prefix = IsViableWithin MAX_STATES MAX_SYMBOLS prefix

-- of the prefixes of `xs` for which P holds, the longest has `n` elements
pub record IsLongestPrefix (P : List ℕ → Type 0) (xs : List ℕ) (n : ℕ) : Type 0 where
  pub within : n ≤ length xs
  pub holds : P (take n xs)
  pub longest : (m : ℕ) → m ≤ length xs → P (take m xs) → m ≤ n

-- the column of a line: 1 plus the length of its longest prefix that begins some machine's text
abbrev pub IsColumn : List ℕ → ℕ → Type 0
IsColumn line column = (n : ℕ) × (column ≡ n + 1) × IsLongestPrefix IsViable line n
