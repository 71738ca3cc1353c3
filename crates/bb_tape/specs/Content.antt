-- What a tape has in its cells.
-- A tape has a symbol for every whole number, 0 at all but finitely many positions (as in Radó's busy
-- beaver problem).
use Rattle.std.specs.Prelude.{ℕ, zero, suc, ◌+◌, ◌≤◌, ℤ, Option, Some, None}
use Rattle.std.specs.Ordering.{int_cmp}
use Rattle.std.specs.FinMap.{FinMap, empty, get, insert, remove, len}
use Rattle.bb_tape.specs.declared.tape.TheConstants.{MAX_SYMBOL}

-- The finite map of the positions that aren't 0. The number k in it stands for the symbol k + 1,
-- so that no position of the map has 0, and two tapes with the same cells are one map.
abbrev pub Content : Type 0
Content = FinMap int_cmp ℕ

-- the tape with 0 everywhere
unfoldable pub blank : Content
blank = empty

-- the symbol that an entry of the map stands for, where there is one
abbrev pub symbol_of : Option ℕ → ℕ
symbol_of None = 0
symbol_of (Some k) = k + 1

-- the symbol at a position
unfoldable pub cell : Content → ℤ → ℕ
cell c p = symbol_of (get c p)

-- the same tape with another symbol at one position
unfoldable pub with_cell : Content → ℤ → ℕ → Content
with_cell c p zero = remove c p
with_cell c p (suc k) = insert c p k

-- each cell has one of the symbols 0 to MAX_SYMBOL
abbrev pub HasSymbols : Content → Type 0
HasSymbols c = (p : ℤ) → cell c p ≤ MAX_SYMBOL

-- how many cells aren't 0: the score of a busy beaver (Lin and Radó 1965), where the machine halts
unfoldable pub score : Content → ℕ
score c = len c
