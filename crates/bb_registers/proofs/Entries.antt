-- What a packed entry says, where registers are at a configuration.
use Rattle.std.proofs.Common.{◌≡◌, ◌≢◌, ℕ, zero, suc, ◌+◌, ◌*◌, ◌/◌, ◌%◌, ◌^◌, ◌<◌, ◌≤◌, inl, inr, length}
use Rattle.std.proofs.Common.{refl, ap, sym, ◌∙◌, arith}
use Rattle.std.proofs.Common.{bit_and}
use Rattle.std.specs.Int.{bit_at}
use Rattle.std.proofs.lemmas.Int.{ints}
use Rattle.std.proofs.lemmas.Bool.{cases_eq, cases_lt}
use Rattle.std.proofs.lemmas.Nat.{pow_pos, pow-add}
use Rattle.std.proofs.lemmas.Nat.Bits.{bit_at-lt, bit_at_xor, bit_at-pow_same, bit_at-pow_other}
use Rattle.std.proofs.Math.Nat.{pow-le-pow_right}
use Rattle.bb_machine.specs.declared.entry.Dir.{Dir}
use Rattle.bb_machine.specs.declared.entry.Dir.TheVariants.{L, R}
use Rattle.bb_machine.specs.declared.entry.Next.TheVariants.{State, Halt}
use Rattle.bb_machine.specs.declared.entry.Entry.{Entry}
use Rattle.bb_machine.specs.declared.entry.Entry.TheVariants.{Undefined, Go}
use Rattle.bb_machine.specs.Limits.{Bounds}
use Rattle.bb_machine.specs.Machine.{Table, entry_of}
use Rattle.bb_tape.specs.Content.{cell, with_cell}
use Rattle.bb_tape.specs.TapeView.{TapeView}
use Rattle.bb_sim.specs.declared.runner.Runner.{Runner}
use Rattle.bb_sim.specs.Configuration.{beside, entry_at}
use Rattle.bb_sim.specs.Runner.{position_of, state_of}
use Rattle.bb_registers.specs.declared.registers.Registers.{Registers}
use Rattle.bb_registers.specs.declared.run.RegisterRun.{RegisterRun}
use Rattle.bb_machine.specs.declared.packed.PackedTable.{PackedTable}
use Rattle.bb_registers.specs.BitCells.{IsInWord, bits_content}
use Rattle.bb_machine.specs.Packed.{ArePackedFrom, IsPackedEntry, IsTableOf, right_bit}
use Rattle.bb_registers.specs.Registers.{IsRegisterRun, StepsTo, flipped_bits, moved_head}
use Rattle.bb_registers.proofs.Bits.{at_bit, bits_changed, cell-place}
use Rattle.bb_registers.proofs.OneBit.{bit_clear, bit_set}

-- an entry that goes to a state
pub record GoesTo (f symbol : ℕ) (e : Entry) : Type 0 where
  pub write : ℕ
  pub dir : Dir
  pub state : ℕ
  pub is : Go write dir (State state) ≡ e
  pub right : bit_at f 7 ≡ right_bit dir
  pub writes : write ≡ (symbol + bit_at f 6) % 2
  pub shift : f % 64 ≡ 9 * state

pub goes_to : (f symbol : ℕ) (e : Entry) → IsPackedEntry f symbol e → (bit_at f 8 ≡ 1 → ⊥) → GoesTo f symbol e
goes_to f symbol Undefined packed goes = absurd (goes packed.0)
goes_to f symbol (Go write dir Halt) packed goes = absurd (goes packed.0)
goes_to f symbol (Go write dir (State state)) packed goes = record {
  write = write;
  dir = dir;
  state = state;
  is = refl;
  right = packed.1;
  writes = packed.2;
  shift = packed.3;
}

-- an entry that goes to Z
pub record GoesToZ (f symbol : ℕ) (e : Entry) : Type 0 where
  pub write : ℕ
  pub dir : Dir
  pub is : Go write dir Halt ≡ e
  pub writes : write ≡ (symbol + bit_at f 6) % 2

pub goes_to_Z : (f symbol : ℕ) (e : Entry) → IsPackedEntry f symbol e → bit_at f 8 ≡ 1 → bit_at f 0 ≡ 1
    → GoesToZ f symbol e
goes_to_Z f symbol Undefined packed stops halts = absurd (omega (arith, packed.1, halts))
goes_to_Z f symbol (Go write dir Halt) packed stops halts = record { write = write; dir = dir; is = refl; writes = packed.2 }
goes_to_Z f symbol (Go write dir (State state)) packed stops halts = absurd (omega (arith, packed.0, stops))

pub is_undefined : (f symbol : ℕ) (e : Entry) → IsPackedEntry f symbol e → bit_at f 8 ≡ 1 → (bit_at f 0 ≡ 1 → ⊥)
    → Undefined ≡ e
is_undefined f symbol Undefined packed stops apart = refl
is_undefined f symbol (Go write dir Halt) packed stops apart = absurd (apart packed.3)
is_undefined f symbol (Go write dir (State state)) packed stops apart = absurd (omega (arith, packed.0, stops))

pub flipped_same : (bits head place flip : ℕ) → head ≡ 2 ^ place → flip < 2
    → bit_at (flipped_bits bits head flip) place ≡ (bit_at bits place + flip) % 2
flipped_same bits head place zero is h = omega (arith, bit_at-lt bits place)
flipped_same bits head place (suc zero) is h =
    rw is (bit_at_xor bits (2 ^ place) place ∙ ap (λ n. (bit_at bits place + n) % 2) (bit_at-pow_same place))
flipped_same bits head place (suc (suc flip)) is h = absurd (omega arith)

pub flipped_other : (bits head place flip i : ℕ) → head ≡ 2 ^ place → i ≢ place
    → bit_at (flipped_bits bits head flip) i ≡ bit_at bits i
flipped_other bits head place zero i is apart = refl
flipped_other bits head place (suc flip) i is apart =
    rw is (bit_at_xor bits (2 ^ place) i ∙ ap (λ n. (bit_at bits i + n) % 2) (bit_at-pow_other place i apart)
    ∙ omega (arith, bit_at-lt bits i))

half : (k : ℕ) → 2 ^ suc k / 2 ≡ 2 ^ k
half k = let more : suc k ≡ 1 + k = omega arith in rw (more, pow-add 2 1 k) (omega arith)

-- where a head's bit is after a move that doesn't leave the 64 cells
pub record MovesTo (place bit : ℕ) (dir : Dir) : Type 0 where
  pub to : ℕ
  pub within : to < 64
  pub is : bit ≡ 2 ^ to
  pub position : at_bit to ≡ beside dir (at_bit place)

moves_to : (place bit : ℕ) (dir : Dir) → place < 64 → bit ≡ moved_head (2 ^ place) (right_bit dir) → bit ≢ 0
    → MovesTo place bit dir
moves_to zero bit L within is some = absurd (some (is ∙ omega arith))
moves_to (suc place) bit L within is some = record {
  to = place;
  within = omega (arith, within);
  is = is ∙ half place;
  position = omega (arith, ints);
}
moves_to place bit R within is some = elim (cases_lt place 63) [
  | inl below ↦ record {
    to = place + 1;
    within = omega (arith, below);
    is = is ∙ twice place below;
    position = omega (arith, ints);
  }
  | inr last ↦ absurd (some (let top : place ≡ 63 = omega (arith, within, last) in is ∙ rw top refl))
] where
  twice : (k : ℕ) → k < 63 → 2 ^ k * 2 % 2 ^ 64 ≡ 2 ^ (k + 1)
  twice k h =
      let least : 2 ^ k ≤ 2 ^ 62 = pow-le-pow_right {n = 2} (omega arith) {i = k} {j = 62} (omega (arith, h)) in
      rw (pow-add 2 k 1) (omega (arith, least))

-- a move that leaves them
moves_out : (place : ℕ) (dir : Dir) → place < 64 → moved_head (2 ^ place) (right_bit dir) ≡ 0
    → IsInWord (beside dir (at_bit place)) → ⊥
moves_out zero L within none near = omega (arith, ints, near.0)
moves_out (suc place) L within none near = omega (arith, half place, none, pow_pos place)
moves_out place R within none near = elim (cases_lt place 63) [
  | inl below ↦
      let least : 2 ^ place ≤ 2 ^ 62 =
      pow-le-pow_right {n = 2} (omega arith) {i = place} {j = 62} (omega (arith, below)) in
      omega (arith, least, none, pow_pos place)
  | inr last ↦ omega (arith, ints, near.1, last)
]

packed_at : (table : Table) (symbol n q f s : ℕ) → ArePackedFrom table symbol 0 n → q < length table → s ≡ 9 * q
    → f ≡ n / 2 ^ s → IsPackedEntry f symbol (entry_of table q symbol)
packed_at table symbol n q f s all below shift is =
    let first : 0 + q ≡ q = omega arith in
    let there : IsPackedEntry (n / 2 ^ (9 * q)) symbol (entry_of table q symbol) =
    rw first at (all q (omega (arith, below))) in
    rw (is, shift) there

-- the head after a step
module _ {packed : PackedTable} {old new : Registers} (by : StepsTo packed old new) {symbol : ℕ} {e : Entry}
    (goes : GoesTo new.entry symbol e) (place : ℕ) (within : place < 64) (head : old.head ≡ 2 ^ place) where
  head_next : new.head ≡ moved_head (2 ^ place) (right_bit goes.dir)
  head_next = by.head ∙ ap (λ h. moved_head h (bit_at new.entry 7)) head ∙ ap (moved_head (2 ^ place)) goes.right

  pub goes_in : new.head ≢ 0 → MovesTo place new.head goes.dir
  goes_in some = moves_to place new.head goes.dir within head_next some

  pub goes_beyond : new.head ≡ 0 → IsInWord (beside goes.dir (at_bit place)) → ⊥
  goes_beyond none = moves_out place goes.dir within (sym head_next ∙ none)

-- the entry that a table tells for a state and the symbol at a place
pub packed_entry : {table : Table} {packed : PackedTable} {old new : Registers} → IsTableOf table packed
    → StepsTo packed old new → (place state symbol : ℕ) → old.head ≡ 2 ^ place → symbol ≡ bit_at old.bits place
    → state < length table → old.entry % 64 ≡ 9 * state → IsPackedEntry new.entry symbol (entry_of table state symbol)
packed_entry {table} {packed} {old} {new} is_table by place state symbol head_is symbol_is below shift =
    elim (cases_eq (bit_and old.bits old.head) 0) [
      | inl none ↦
          let is : symbol ≡ 0 = symbol_is ∙ bit_clear old.bits place (rw head_is at none) in
          rw is (packed_at table 0 packed.zero state new.entry (old.entry % 64) is_table.zero below shift (by.zero none))
      | inr some ↦
          let is : symbol ≡ 1 = symbol_is ∙ bit_set old.bits place (rw head_is at some) in
          rw is (packed_at table 1 packed.one state new.entry (old.entry % 64) is_table.one below shift (by.one some))
    ]

abbrev pub symbol_at : Runner → TapeView → ℕ
symbol_at runner view = cell view.content (position_of runner)

abbrev pub applies : Table → Runner → TapeView → Entry
applies table runner view = entry_at table (state_of runner) (symbol_at runner view)

module _ {table : Table} {bounds : Bounds} {run : RegisterRun} (known : IsRegisterRun table bounds run) where
  symbol_is : symbol_at known.runner known.view ≡ bit_at run.registers.bits known.at.place
  symbol_is =
      ap (λ c. cell c (position_of known.runner)) known.at.content
      ∙ cell-place run.registers.bits known.at.place (position_of known.runner) known.at.within
      (omega (arith, ints, known.at.position))

  -- the symbol is read, and the entry is looked up
  pub entry_known : {packed : PackedTable} {next : Registers} → IsTableOf table packed
      → StepsTo packed run.registers next
      → IsPackedEntry next.entry (symbol_at known.runner known.view) (applies table known.runner known.view)
  entry_known is_table by =
      rw known.at.state_is
      (packed_entry is_table by known.at.place known.at.state _ known.at.head symbol_is
      (rw known.at.state_is at known.stands.state_named) known.at.entry)

  -- what the bits are after the write
  pub content_written : (flip write : ℕ) → flip < 2 → write ≡ (symbol_at known.runner known.view + flip) % 2
      → with_cell known.view.content (position_of known.runner) write
      ≡ bits_content (flipped_bits run.registers.bits run.registers.head flip)
  content_written flip write small writes =
      let bits = run.registers.bits in
      let at = known.at in
      rw at.content (sym (bits_changed bits (flipped_bits bits run.registers.head flip) at.place write
      (position_of known.runner) at.within (omega (arith, ints, at.position))
      (flipped_same bits run.registers.head at.place flip at.head small
      ∙ sym (writes ∙ ap (λ n. (n + flip) % 2) symbol_is))
      (λ i low apart. flipped_other bits run.registers.head at.place flip i at.head apart)))
