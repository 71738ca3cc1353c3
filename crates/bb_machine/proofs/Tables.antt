-- A table that stands row by row in a flat list.
use Rattle.std.proofs.Common.{◌≡◌, ℕ, zero, suc, ◌+◌, ◌*◌, ◌<◌, ◌≤◌, List, [], ◌∷◌, ◌++◌, length, take, drop}
use Rattle.std.proofs.Common.{get_or, set, refl, sym, ◌∙◌, ap, subst, zero-mul, arith}
use Rattle.std.proofs.lemmas.List.{length-drop, take-set-le, drop-set-add, drop-drop, take_more_set}
use Rattle.std.proofs.lemmas.List.{get_or-take, get_or-drop, get_or_default}
use Rattle.std.specs.Prelude.{map}
use Rattle.std.proofs.lemmas.List.Elements.{All-from_recursion}
use Rattle.bb_machine.specs.declared.machine.TheConstants.{STRIDE}
use Rattle.bb_machine.specs.declared.machine.Slot.{Slot}
use Rattle.bb_machine.specs.declared.entry.Entry.{Entry}
use Rattle.bb_machine.specs.declared.entry.Entry.TheVariants.{Undefined}
use Rattle.bb_machine.specs.Entry.{IsEntryOf}
use Rattle.bb_machine.specs.Machine.{symbols_of, entry_of, IsGroup, IsMachineWithin}
use Rattle.bb_machine.specs.Rows.{rows, entry_in, entries_in, table_in, IsTable}

module _ {X : Type 0} where
  -- a write past the rows
  pub rows-set : (stride count width : ℕ) (xs : List X) (j : ℕ) (v : X) → width ≤ stride
      → rows stride count width (set xs (count * stride + j) v) ≡ rows stride count width xs
  rows-set stride zero width xs j v le = refl
  rows-set stride (suc count) width xs j v le =
      let offset : suc count * stride + j ≡ stride + (count * stride + j) = omega arith in
      let first : take width (set xs (stride + (count * stride + j)) v) ≡ take width xs =
      take-set-le width xs (stride + (count * stride + j)) v (omega arith) in
      let rest : drop stride (set xs (stride + (count * stride + j)) v)
      ≡ set (drop stride xs) (count * stride + j) v = drop-set-add stride xs (count * stride + j) v in
      rw (
        offset,
        first,
        rest,
      ) (ap (λ z. take width xs ∷ z) (rows-set stride count width (drop stride xs) j v le))

  -- one more row
  pub rows-more : (stride count width : ℕ) (xs : List X)
      → rows stride (count + 1) width xs
      ≡ rows stride count width xs ++ take width (drop (count * stride) xs) ∷ []
  rows-more stride zero width xs = simp zero-mul
  rows-more stride (suc count) width xs =
      let offset : suc count * stride ≡ stride + count * stride = omega arith in
      let next : suc count + 1 ≡ suc (count + 1) = omega arith in
      rw (offset, next, ← drop-drop (count * stride) stride xs)
      (ap (λ z. take width xs ∷ z) (rows-more stride count width (drop stride xs)))

  pub get_or-rows : (stride count width : ℕ) (xs : List X) (q : ℕ) → q < count
      → get_or (rows stride count width xs) q [] ≡ take width (drop (q * stride) xs)
  get_or-rows stride zero width xs q below = absurd (omega arith)
  get_or-rows stride (suc count) width xs zero below = simp zero-mul
  get_or-rows stride (suc count) width xs (suc q) below =
      let offset : suc q * stride ≡ stride + q * stride = omega arith in
      rw (offset, ← drop-drop (q * stride) stride xs)
      (get_or-rows stride count width (drop stride xs) q (omega arith))

  -- one more element of a row
  pub row-more : (from filled : ℕ) (xs : List X) (v : X) → from + filled < length xs
      → take (filled + 1) (drop from (set xs (from + filled) v)) ≡ take filled (drop from xs) ++ v ∷ []
  row-more from filled xs v inside =
      let inside_row : filled < length (drop from xs) = omega (arith, length-drop from xs) in
      rw (drop-set-add from xs filled v) (take_more_set (drop from xs) filled v inside_row)

  -- an element of a row
  pub row-get : (stride count width : ℕ) (xs : List X) (q i : ℕ) (d : X) → q < count → i < width
      → get_or (get_or (rows stride count width xs) q []) i d ≡ get_or xs (q * stride + i) d
  row-get stride count width xs q i d below inside =
      rw (
        get_or-rows stride count width xs q below,
        get_or-take width (drop (q * stride) xs) i d inside,
        get_or-drop (q * stride) xs i d,
      ) refl

get_or-map : {X Y : Type 0} (f : X → Y) (xs : List X) (i : ℕ) (d : X)
    → get_or (map f xs) i (f d) ≡ f (get_or xs i d)
get_or-map f [] i d = refl
get_or-map f (x ∷ xs) zero d = refl
get_or-map f (x ∷ xs) (suc i) d = get_or-map f xs i d

-- the entry of a table, where it stands
pub entry_of-table_in : (n k : ℕ) (ps : List Slot) (gs : List (List Entry)) (q i : ℕ) (d : Slot)
    → table_in n k ps ≡ gs → IsTable n k (table_in n k ps) → q < length gs → i < symbols_of gs
    → entry_in (get_or ps (q * STRIDE + i) d) ≡ entry_of gs q i
entry_of-table_in n k ps gs q i d is table below inside =
    let group : IsGroup (length gs) (symbols_of gs) (get_or gs q []) =
    All-from_recursion (IsGroup (length gs) (symbols_of gs)) gs (rw is at table.machine.groups) q [] below in
    let states : length gs ≡ n = subst (λ (x : List (List Entry)). length x ≡ n) is table.states_is in
    let symbols : symbols_of gs ≡ k =
    subst (λ (x : List (List Entry)). symbols_of x ≡ k) is table.symbols_is in
    let there : get_or (get_or (table_in n k ps) q []) i (entry_in d)
    ≡ get_or (entries_in ps) (q * STRIDE + i) (entry_in d) =
    row-get STRIDE n k (entries_in ps) q i (entry_in d) (omega arith) (omega arith) in
    let offset : get_or (entries_in ps) (q * STRIDE + i) (entry_in d)
    ≡ entry_in (get_or ps (q * STRIDE + i) d) = get_or-map entry_in ps (q * STRIDE + i) d in
    sym offset
    ∙ (sym there
    ∙ (ap (λ (x : List (List Entry)). get_or (get_or x q []) i (entry_in d)) is
    ∙ get_or_default (get_or gs q []) i (entry_in d) Undefined (omega (arith, group.full))))

-- each entry of a machine's table names its states and symbols
pub entry_named : (s k : ℕ) (gs : List (List Entry)) (q i : ℕ) → IsMachineWithin s k gs → q < length gs
    → i < symbols_of gs → IsEntryOf (length gs) (symbols_of gs) (entry_of gs q i)
entry_named s k gs q i machine below inside =
    let group : IsGroup (length gs) (symbols_of gs) (get_or gs q []) =
    All-from_recursion (IsGroup (length gs) (symbols_of gs)) gs machine.groups q [] below in
    All-from_recursion (IsEntryOf (length gs) (symbols_of gs)) (get_or gs q []) group.entries i Undefined
    (omega (arith, group.full))
