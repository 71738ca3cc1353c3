-- What the bits of a run in registers say of its window, its head and its cells.
use Rattle.std.proofs.Common.{◌≡◌, ℕ, ◌+◌, ◌<◌, ◌≤◌, ◌^◌, inl, inr, ℤ, pos, ◌+ℤ◌, ◌-ℤ◌, ◌≤ℤ◌, ap, sym}
use Rattle.std.proofs.Common.{◌∙◌, add-one, arith}
use Rattle.std.specs.Int.{bit_at}
use Rattle.std.proofs.lemmas.Bool.{cases_eq, cases_lt}
use Rattle.std.proofs.lemmas.Int.{ints}
use Rattle.std.proofs.lemmas.Nat.Bits.{bit_at-pow_other, bit_at-pow_same, bit_at-zero}
use Rattle.bb_machine.specs.Limits.{Bounds}
use Rattle.bb_machine.specs.Machine.{Table}
use Rattle.bb_tape.specs.Content.{Content, cell, with_cell}
use Rattle.bb_tape.specs.TapeView.{IsInside, TapeView, fresh}
use Rattle.bb_tape.proofs.Facts.{by_position, cell-with_cell-other, cell-with_cell-same, same_content}
use Rattle.bb_sim.specs.declared.runner.Runner.{Runner}
use Rattle.bb_sim.specs.Run.{conf}
use Rattle.bb_sim.specs.Runner.{Stands, high_of, low_of, position_of, state_of, steps_of}
use Rattle.bb_sim.specs.Span.{counted_head, greatest, least}
use Rattle.bb_sim.specs.Configuration.{Configuration, start}
use Rattle.bb_sim.proofs.Facts.{span_is_reached}
use Rattle.bb_registers.specs.declared.run.RegisterRun.{RegisterRun}
use Rattle.bb_registers.specs.BitCells.{IsInWord, IsLowest, bits_from}
use Rattle.bb_registers.specs.Registers.{IsRegisterRun}
use Rattle.bb_registers.proofs.Bits.{at_bit, bit_of, cell-in_word, from_outside}

-- views with the same fields are the same
pub same_views : (v w : TapeView) → v.content ≡ w.content → v.low ≡ w.low → v.high ≡ w.high → v.limit ≡ w.limit
    → v ≡ w
same_views v w c l h m = λ i. record { content = c i; low = l i; high = h i; limit = m i }

-- a runner stands where one stands that says the same
pub stands_as : {table : Table} {runner other : Runner} {view : TapeView} → Stands table runner view
    → state_of other ≡ state_of runner → position_of other ≡ position_of runner
    → steps_of other ≡ steps_of runner → low_of other ≡ low_of runner → high_of other ≡ high_of runner
    → Stands table other view
stands_as {table} stands state head steps low high = record {
  at = rw (steps, state, head) stands.at;
  low = low ∙ stands.low ∙ ap (λ n. least (counted_head table) n) (sym steps);
  high = high ∙ stands.high ∙ ap (λ n. greatest (counted_head table) n) (sym steps);
  window_low = stands.window_low ∙ sym low;
  window_high = stands.window_high ∙ sym high;
  state_named = rw state stands.state_named;
  symbols_named = stands.symbols_named;
}

-- to write what is there changes nothing
with_same : (c : Content) (p : ℤ) → with_cell c p (cell c p) ≡ c
with_same c p = same_content _ _ (λ q. by_position q p _
    (λ here. rw here (cell-with_cell-same c p (cell c p)))
    (λ there. cell-with_cell-other c p (cell c p) q there))

-- the next cell to be written is 0 yet
pub cell-next : (n k : ℕ) → cell (bits_from n k) (at_bit k) ≡ 0
cell-next n k = from_outside n k (at_bit k) (λ i h e. omega (arith, ints, e, h))

-- one bit more of a number is written
pub bit_written : (n k : ℕ) → bit_at n k ≡ 1 → with_cell (bits_from n k) (at_bit k) 1 ≡ bits_from n (k + 1)
bit_written n k set = rw add-one (ap (λ b. with_cell (bits_from n k) (at_bit k) b) (sym set))

-- or nothing is to be written
pub bit_passed : (n k : ℕ) → bit_at n k ≡ 0 → bits_from n k ≡ bits_from n (k + 1)
bit_passed n k clear =
    let same : with_cell (bits_from n k) (at_bit k) 0 ≡ bits_from n k =
    ap (λ v. with_cell (bits_from n k) (at_bit k) v) (sym (cell-next n k)) ∙ with_same (bits_from n k) (at_bit k) in
    rw add-one (sym same ∙ ap (λ b. with_cell (bits_from n k) (at_bit k) b) (sym clear))

-- the only bit of a head
pub lowest_is_head : (head place : ℕ) → head ≡ 2 ^ place → (p : ℤ) → IsLowest head p → p ≡ at_bit place
lowest_is_head head place is p lowest = elim (cases_eq lowest.place place) [
  | inl same ↦ omega (arith, ints, lowest.position, same)
  | inr apart ↦
      absurd (omega (
        arith,
        lowest.set,
        ap (λ n. bit_at n lowest.place) is,
        bit_at-pow_other place lowest.place apart,
      ))
]

module _ {table : Table} {bounds : Bounds} {run : RegisterRun} (known : IsRegisterRun table bounds run) where
  -- the bit of the window's lowest position is set
  low_bit : (at : ℕ) × (at < 64) × (pos at ≡ known.view.low +ℤ pos 32) × (bit_at run.window at ≡ 1)
  low_bit =
      let b = bit_of known.view.low known.window_is.low_in_word in
      let order : known.view.low ≤ℤ known.view.high =
      omega (arith, ints, known.sound.from_zero, known.sound.to_zero) in (
        b.0,
        b.1,
        b.2,
        (known.window_is.bits b.0 b.1).1 (omega (arith, ints, b.2), omega (arith, ints, b.2, order)),
      )

  pub window_some : 0 < run.window
  window_some = elim (cases_eq run.window 0) [
    | inl none ↦
        let b = low_bit in
        absurd (omega (arith, b.3, ap (λ n. bit_at n b.0) none, bit_at-zero b.0))
    | inr some ↦ omega (arith, some)
  ]

  pub lowest_is_low : (p : ℤ) → IsLowest run.window p → p ≡ known.view.low
  lowest_is_low p lowest =
      let b = low_bit in
      let from = (known.window_is.bits lowest.place lowest.within).0 lowest.set in
      elim (cases_lt b.0 lowest.place) [
        | inl below ↦ absurd (omega (arith, lowest.lowest b.0 below, b.3))
        | inr least ↦ omega (arith, ints, lowest.position, b.2, least, from.0)
      ]

  pub head_some : 0 < run.registers.head
  head_some = elim (cases_eq run.registers.head 0) [
    | inl none ↦
        absurd (omega (
          arith,
          ap (λ n. bit_at n known.at.place) (sym known.at.head ∙ none),
          bit_at-zero known.at.place,
          bit_at-pow_same known.at.place,
        ))
    | inr some ↦ omega (arith, some)
  ]

  -- its ends and its room
  pub window_ends : (((known.view.high -ℤ known.view.low) +ℤ pos 1) +ℤ pos run.room ≡ pos bounds.cells)
      × IsInWord known.view.low × IsInWord known.view.high
  window_ends =
      (known.window_is.room_is ∙ ap pos known.limit, known.window_is.low_in_word, known.window_is.high_in_word)

  -- the cells that aren't 0 are in the window
  pub bits_inside : (i : ℕ) → i < 64 → bit_at run.registers.bits i ≡ 1 → IsInside known.view (at_bit i)
  bits_inside i h set =
      known.sound.nothing_outside (at_bit i)
      (λ none.
      let is : cell known.view.content (at_bit i) ≡ 1 =
      ap (λ c. cell c (at_bit i)) known.at.content ∙ cell-in_word run.registers.bits i h ∙ set in
      omega (arith, none, is))

-- a run that has made no step has a blank tape
pub view_first : {table : Table} {bounds : Bounds} {run : RegisterRun} (known : IsRegisterRun table bounds run)
    → run.steps ≡ 0 → known.view ≡ fresh bounds.cells
unfolding conf counted_head
view_first {table} known none =
    let zero : steps_of known.runner ≡ 0 = sym known.steps_is ∙ none in
    let s = known.stands in
    let at = rw zero at s.at in
    let first : record { state = state_of known.runner; head = position_of known.runner; tape = known.view.content } ≡ start = cc in
    let low = rw zero at (s.window_low ∙ s.low) in
    let high = rw zero at (s.window_high ∙ s.high) in
    same_views _ _ (ap (λ (c : Configuration). c.tape) first) low high known.limit

-- the window of a later configuration has that of an earlier one in it
pub window_grows : {table : Table} {bounds : Bounds} {earlier run : RegisterRun}
    (a : IsRegisterRun table bounds earlier) (b : IsRegisterRun table bounds run) → earlier.steps ≤ run.steps
    → (b.view.low ≤ℤ a.view.low) × (a.view.high ≤ℤ b.view.high)
window_grows {table} a b order =
    let old = span_is_reached table (steps_of a.runner) in
    let new = span_is_reached table (steps_of b.runner) in
    let few : steps_of a.runner ≤ steps_of b.runner = omega (arith, order, a.steps_is, b.steps_is) in
    let low = new.between old.low_step _ (omega (arith, old.low_before, few)) old.low in
    let high = new.between old.high_step _ (omega (arith, old.high_before, few)) old.high in (
      omega (arith, ints, low.0, a.stands.low, a.stands.window_low, b.stands.low, b.stands.window_low),
      omega (arith, ints, high.1, a.stands.high, a.stands.window_high, b.stands.high, b.stands.window_high),
    )
