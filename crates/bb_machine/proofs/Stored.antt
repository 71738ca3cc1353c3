-- A table in the form in which it is stored.
use Rattle.std.proofs.Common.{◌≡◌, ℕ, ◌+◌, ◌*◌, ◌/◌, ◌-◌, ◌^◌, ◌<◌, ◌≤◌, List, length, get_or, take, drop, [], ◌∷◌}
use Rattle.std.proofs.Common.{refl, Bool, cond, true, false, IsTrue, ap, sym, subst, ◌∙◌, arith, rules, inl, inr}
use Rattle.std.proofs.lemmas.Bool.{cases_eq}
use Rattle.std.proofs.lemmas.List.{get_or-drop, take_rest}
use Rattle.std.proofs.lemmas.List.Elements.{All-from_recursion}
use Rattle.bb_machine.specs.declared.machine.TheConstants.{STRIDE}
use Rattle.bb_machine.specs.declared.machine.Slot.{Slot}
use Rattle.bb_machine.specs.declared.entry.Entry.{Entry}
use Rattle.bb_machine.specs.declared.entry.Entry.TheVariants.{Undefined, Go}
use Rattle.bb_machine.specs.declared.packed.PackedTable.{PackedTable}
use Rattle.bb_machine.specs.Column.{BeginsWith}
use Rattle.bb_machine.specs.Entry.{entry_text, IsEntryOf}
use Rattle.bb_machine.specs.Machine.{Table, IsGroup, entry_of, group_text, symbols_of, text}
use Rattle.bb_machine.specs.Packed.{IsTableOf, ArePackedFrom, entry_in_bits, unpacked}
use Rattle.bb_machine.specs.Rows.{entry_in, is_small, table_in, table_of, IsTable, IsStored}
use Rattle.bb_machine.proofs.Filled.{entry_stands, group_stands, table_groups}
use Rattle.bb_machine.proofs.Groups.{entry_weaker}
use Rattle.bb_machine.proofs.Lengths.{length-text}
use Rattle.bb_machine.proofs.Tables.{entry_of-table_in}
use Rattle.bb_machine.proofs.Unpacking.{ArePacked, get_or-unpacked, unpacked_is}

from_first : (gs : Table) (symbol n : ℕ) → ArePackedFrom gs symbol 0 n → ArePacked gs symbol n
from_first gs symbol n all q below =
    let first : 0 + q ≡ q = omega arith in
    rw first at (all q (omega (arith, below)))

-- two numbers that tell a table unpack to it
unpacks_to : (gs : Table) (states : ℕ) (packed : PackedTable) → IsTable states 2 gs → IsTableOf gs packed
    → unpacked states packed.zero packed.one ≡ gs
unpacks_to gs states packed table is =
    rw (← table.states_is)
    (unpacked_is states gs packed.zero packed.one (table_groups gs states 2 table)
    (from_first gs 0 packed.zero is.zero) (from_first gs 1 packed.one is.one))

-- a small table has two symbols
pub small_symbols : (states symbols : ℕ) → is_small states symbols ≡ true → symbols ≡ 2
small_symbols states symbols small = elim (cases_eq symbols 2) [
  | inl two ↦ two
  | inr other ↦ absurd (search (rules, other, small))
]

small_by : (states symbols : ℕ) → symbols ≡ 2 → states ≤ 7 → IsTrue (is_small states symbols)
small_by states symbols two few = search (rules, two, few)

module _ (states symbols : ℕ) (packed : PackedTable) (slots : List Slot) (gs : Table) where
  -- a small table as it is stored
  pub small_table : is_small states symbols ≡ true → table_of states symbols packed slots
      ≡ unpacked states packed.zero packed.one
  small_table small =
      ap (λ (b : Bool). cond b (unpacked states packed.zero packed.one) (table_in states symbols slots)) small

  pub large_table : is_small states symbols ≡ false → table_of states symbols packed slots
      ≡ table_in states symbols slots
  large_table large =
      ap (λ (b : Bool). cond b (unpacked states packed.zero packed.one) (table_in states symbols slots)) large

  pub small_is : is_small states symbols ≡ true → IsTable states symbols gs → IsTableOf gs packed
      → table_of states symbols packed slots ≡ gs
  small_is small table is =
      small_table small
      ∙ unpacks_to gs states packed (subst (λ (k : ℕ). IsTable states k gs) (small_symbols states symbols small) table) is

  -- a table is stored if it is a machine's, and a small one if the two numbers tell it
  pub is_stored : table_of states symbols packed slots ≡ gs → IsTable states symbols gs
      → (is_small states symbols ≡ true → IsTableOf gs packed)
      → IsStored states symbols packed (table_of states symbols packed slots)
  is_stored is table small =
      rw is (record { table = table; small = λ yes. small (search (rules, yes)) })

  module _ (is : table_of states symbols packed slots ≡ gs)
      (stored : IsStored states symbols packed (table_of states symbols packed slots)) where
    table_now : IsTable states symbols gs
    table_now = rw is at stored.table

    -- what is told of an entry of a small table
    pub small_entry : is_small states symbols ≡ true → {X : Type 0} (f : Entry → X) (q i : ℕ) (x : X) → q < length gs
        → i < symbols_of gs → (i ≡ 0 → x ≡ f (entry_in_bits 0 (packed.zero / 2 ^ (9 * q))))
        → (i ≡ 1 → x ≡ f (entry_in_bits 1 (packed.one / 2 ^ (9 * q)))) → x ≡ f (entry_of gs q i)
    small_entry small f q i x below inside zero one =
        let two = small_symbols states symbols small in
        let there : get_or gs q []
        ≡ entry_in_bits 0 (packed.zero / 2 ^ (9 * q)) ∷ entry_in_bits 1 (packed.one / 2 ^ (9 * q)) ∷ [] =
        ap (λ (x : Table). get_or x q []) (sym is ∙ small_table small)
        ∙ get_or-unpacked states packed.zero packed.one q (omega (arith, below, table_now.states_is)) in
        elim (cases_eq i 0) [
          | inl first ↦
              (zero first ∙ sym (ap (λ (g : List Entry). f (get_or g 0 Undefined)) there))
              ∙ ap (λ (k : ℕ). f (entry_of gs q k)) (sym first)
          | inr other ↦
              let second : i ≡ 1 = omega (arith, inside, other, two, table_now.symbols_is) in
              (one second ∙ sym (ap (λ (g : List Entry). f (get_or g 1 Undefined)) there))
              ∙ ap (λ (k : ℕ). f (entry_of gs q k)) (sym second)
        ]

    -- an entry of another table
    pub large_entry : is_small states symbols ≡ false → (q i : ℕ) (d : Slot) → q < length gs → i < symbols_of gs
        → entry_in (get_or slots (q * STRIDE + i) d) ≡ entry_of gs q i
    large_entry large q i d below inside =
        entry_of-table_in states symbols slots gs q i d (sym (large_table large) ∙ is)
        (rw (large_table large) at stored.table) below inside

    pub packed_now : symbols_of gs ≡ 2 → length gs ≤ 7 → IsTableOf gs packed
    packed_now two few =
        let small = small_by states symbols (sym table_now.symbols_is ∙ two) (omega (arith, few, table_now.states_is)) in
        rw is at (stored.small small)

-- the letters of an entry at the start of some bytes
letters : (e : Entry) (bytes : List ℕ) → BeginsWith bytes (entry_text e)
    → entry_text e ≡ get_or bytes 0 0 ∷ get_or bytes 1 0 ∷ get_or bytes 2 0 ∷ []
letters Undefined bytes begins = rw begins.1 refl
letters (Go write dir next) bytes begins = rw begins.1 refl

letters_after : (n : ℕ) (xs : List ℕ) → get_or (drop n xs) 0 0 ∷ get_or (drop n xs) 1 0 ∷ get_or (drop n xs) 2 0 ∷ []
    ≡ get_or xs n 0 ∷ get_or xs (n + 1) 0 ∷ get_or xs (n + 2) 0 ∷ []
letters_after n xs =
    let same : n + 0 ≡ n = omega arith in
    rw (get_or-drop n xs 0 0, get_or-drop n xs 1 0, get_or-drop n xs 2 0, same) refl

module _ (gs : Table) (line : List ℕ) (states : ℕ) (table : IsTable states 2 gs) (is : text gs ≡ line)
    (q : ℕ) (below : q < states) where
  -- a row begins and ends inside the text
  pub row_inside : 7 * q + 6 ≤ length line
  row_inside =
      omega (
        arith,
        below,
        table.states_is,
        ap length is,
        length-text states 2 gs table.machine.some_state (table_groups gs states 2 table),
      )

  -- an entry of a small table, as it is read where its row stands
  pub small_read : states ≤ 7 → (i : ℕ) → i < 2 → IsEntryOf 7 2 (entry_of gs q i)
      × (entry_text (entry_of gs q i)
      ≡ get_or (take (length line - 7 * q) (drop (7 * q) line)) (3 * i) 0
      ∷ get_or (take (length line - 7 * q) (drop (7 * q) line)) (3 * i + 1) 0
      ∷ get_or (take (length line - 7 * q) (drop (7 * q) line)) (3 * i + 2) 0 ∷ [])
  small_read few i two =
      let groups = table_groups gs states 2 table in
      let group = All-from_recursion (IsGroup states 2) gs groups q [] (omega (arith, below, table.states_is)) in
      let inside : i < length (get_or gs q []) = omega (arith, two, group.full) in
      let named = All-from_recursion (IsEntryOf states 2) (get_or gs q []) group.entries i Undefined inside in
      let row = group_stands states 2 gs q (omega (arith, below, table.states_is)) groups in
      let from : q * (3 * 2 + 1) ≡ 7 * q = omega arith in
      let there : BeginsWith (drop (7 * q) line) (group_text (get_or gs q [])) = rw (← is, ← from) row in
      let entry = entry_stands (get_or gs q []) (drop (7 * q) line) i inside there in (
        entry_weaker states 7 2 2 few (omega arith) (entry_of gs q i) named,
        rw (take_rest line (7 * q)) (letters (entry_of gs q i) (drop (3 * i) (drop (7 * q) line)) entry
            ∙ letters_after (3 * i) (drop (7 * q) line)),
      )
