-- The cells of a block in a ring: they have neighbouring indices.
use Rattle.std.proofs.Common.{◌≡◌, ◌≢◌, ℕ, ◌+◌, ◌<◌, ◌≤◌, ◌⊎◌, inl, inr, ℤ, pos, ◌+ℤ◌, ◌-ℤ◌, ◌≤ℤ◌, ◌<ℤ◌, List}
use Rattle.std.proofs.Common.{get_or, refl, ap, sym, ◌∙◌, arith, bit_or, min, ◌*◌, ◌%◌, ◌^◌, w64, to_z, of_z}
use Rattle.std.specs.Int.{bit_at}
use Rattle.std.specs.Prelude.{unsigned_abs}
use Rattle.std.proofs.lemmas.Int.{ints, by_lt_z, to_z-of_z}
use Rattle.std.proofs.lemmas.Bool.{cases_eq, cases_lt}
use Rattle.std.proofs.lemmas.Nat.Bits.{bit_at-lt, bit_at_set_other, bit_at_set_same}
use mir.Val.{SFits}
use Rattle.bb_tape.specs.declared.window.Window.{Window}
use Rattle.bb_tape.specs.declared.tape.TheConstants.{MAX_SYMBOL}
use Rattle.bb_tape.specs.Block.{IsBlock, PutsBits}
use Rattle.bb_tape.specs.Content.{Content, cell}
use Rattle.bb_tape.specs.RingIndex.{ring_index}
use Rattle.bb_tape.specs.Ring.{IsClear, ring_content}
use Rattle.bb_tape.specs.TapeView.{IsInside, IsSound, TapeView, written}
use Rattle.bb_tape.specs.Windowed.{view_of}
use Rattle.bb_tape.proofs.Content.{cell-with_cell-other, cell-with_cell-same}
use Rattle.bb_tape.proofs.RingIndex.{index_in}
use Rattle.bb_tape.proofs.Rings.{by_window, cell-ring-above, cell-ring-below, cell-ring-inside, offset}
use Rattle.bb_tape.proofs.Sound.{sound_from}
use Rattle.bb_tape.proofs.WiderWindows.{narrow_fits}

-- the cell at a place of a block, as a number of 64 bits
module _ {s : TapeView} {from d : ℤ} {place : ℕ} (sound : IsSound s) (block : IsBlock s from)
    (fits : SFits w64 from) (few : place < 64) (e : d ≡ pos place) where
  abbrev position : ℤ
  position = to_z w64 (of_z w64 (to_z w64 (of_z w64 from) +ℤ to_z w64 (of_z w64 d)))

  pub position_is : position ≡ from +ℤ pos place
  position_is =
      let small = narrow_fits d (omega (arith, ints, e)) (omega (arith, ints, e, few)) in
      let wide = narrow_fits (from +ℤ pos place)
      (omega (arith, ints, block.low, sound.to_zero, sound.within, sound.limited))
      (omega (arith, ints, block.high, few, sound.from_zero, sound.within, sound.limited)) in
      ap (λ z. to_z w64 (of_z w64 z)) (λ i. to_z-of_z w64 from fits i +ℤ (to_z-of_z w64 d small ∙ e) i)
      ∙ to_z-of_z w64 _ wide

  pub position_inside : IsInside s position
  position_inside =
      (omega (arith, ints, position_is, block.low), omega (arith, ints, position_is, block.high, few))

wider_out : (p from : ℤ) (n : ℕ) → (p <ℤ from) ⊎ ((from +ℤ pos (n + 1)) ≤ℤ p) → (p <ℤ from) ⊎ ((from +ℤ pos n) ≤ℤ p)
wider_out p from n (inl under) = inl under
wider_out p from n (inr over) = inr (omega (arith, ints, over))

-- one more cell is written
pub put_more : (old mid : TapeView) (from : ℤ) (bits n v : ℕ) → PutsBits old mid from bits n → v ≡ bit_at bits n
    → PutsBits old (written mid (from +ℤ pos n) v) from bits (n + 1)
put_more old mid from bits n v puts is = record {
  here = λ k h. elim (cases_eq k n) [
    | inl same ↦ rw same (cell-with_cell-same mid.content (from +ℤ pos n) v ∙ is)
    | inr apart ↦
        cell-with_cell-other mid.content (from +ℤ pos n) v (from +ℤ pos k) (λ e. apart (omega (arith, ints, e)))
        ∙ puts.here k (omega (arith, h, apart))
  ];
  there = λ p out.
      cell-with_cell-other mid.content (from +ℤ pos n) v p (λ e. omega (arith, ints, e, out))
      ∙ puts.there p (wider_out p from n out);
  low = puts.low;
  high = puts.high;
  limit = puts.limit;
}

-- one more bit is read
module _ (c : Content) (from : ℤ) (bits n : ℕ) (few : n < 64)
    (read : (k : ℕ) → k < n → bit_at bits k ≡ min 1 (cell c (from +ℤ pos k)))
    (rest : (k : ℕ) → n ≤ k → bit_at bits k ≡ 0) where
  pub bits_set : cell c (from +ℤ pos n) ≢ 0 → (k : ℕ) → k < n + 1
      → bit_at (bit_or bits (1 * 2 ^ n % 2 ^ 64)) k ≡ min 1 (cell c (from +ℤ pos k))
  bits_set some k h = elim (cases_eq k n) [
    | inl same ↦ rw same (bit_at_set_same w64 bits n few ∙ omega (arith, some))
    | inr apart ↦ bit_at_set_other w64 bits n few k apart ∙ read k (omega (arith, h, apart))
  ]

  pub rest_set : (k : ℕ) → n + 1 ≤ k → bit_at (bit_or bits (1 * 2 ^ n % 2 ^ 64)) k ≡ 0
  rest_set k h = bit_at_set_other w64 bits n few k (λ e. omega (arith, e, h)) ∙ rest k (omega (arith, h))

  pub bits_clear : cell c (from +ℤ pos n) ≡ 0 → (k : ℕ) → k < n + 1 → bit_at bits k ≡ min 1 (cell c (from +ℤ pos k))
  bits_clear none k h = elim (cases_eq k n) [
    | inl same ↦ rw same (rest n (omega arith) ∙ omega (arith, none))
    | inr apart ↦ read k (omega (arith, h, apart))
  ]

module _ (w : Window) (from : ℤ) (low : w.low ≤ℤ from) (high : (from +ℤ pos 63) ≤ℤ w.high)
    (side : (pos 0 ≤ℤ from) ⊎ ((from +ℤ pos 64) ≤ℤ pos 0)) where
  abbrev first : ℕ
  first = ring_index w.limit from

  pub block_index : (k : ℕ) → k < 64 → ring_index w.limit (from +ℤ pos k) ≡ ring_index w.limit from + k
  block_index k h =
      let a = index_in w.low w.high w.limit w.valid from low (omega (arith, ints, high)) in
      let b = index_in w.low w.high w.limit w.valid (from +ℤ pos k) (omega (arith, ints, low)) (omega (arith, ints, high, h)) in
      omega (arith, ints, a, b, side, h)

  pub block_fits : ring_index w.limit from + 64 ≤ w.limit
  block_fits =
      let a = index_in w.low w.high w.limit w.valid from low (omega (arith, ints, high)) in
      omega (arith, ints, a, side, low, high, w.valid.from_zero, w.valid.to_zero, w.valid.within)

  pub block_cell : (cells : List ℕ) (k : ℕ) → k < 64
      → cell (ring_content cells w) (from +ℤ pos k) ≡ get_or cells (ring_index w.limit from + k) 0
  block_cell cells k h =
      cell-ring-inside cells w (from +ℤ pos k) (omega (arith, ints, low)) (omega (arith, ints, high, h))
      ∙ ap (λ i. get_or cells i 0) (block_index k h)

  other_index : (p : ℤ) → w.low ≤ℤ p → p ≤ℤ w.high → (p <ℤ from) ⊎ ((from +ℤ pos 64) ≤ℤ p)
      → (ring_index w.limit p < first) ⊎ (first + 64 ≤ ring_index w.limit p)
  other_index p a b out =
      let here = index_in w.low w.high w.limit w.valid from low (omega (arith, ints, high)) in
      let there = index_in w.low w.high w.limit w.valid p a b in
      elim (cases_lt (ring_index w.limit p) first) [
        | inl below ↦ inl below
        | inr from_first ↦ elim (cases_lt (ring_index w.limit p) (first + 64)) [
          | inl within ↦
              absurd (omega (arith, ints, here, there, side, out, from_first, within, a, b, low, high, w.valid.within))
          | inr above ↦ inr (omega (arith, above))
        ]
      ]

  -- with the bits of a number at the block's indices
  module _ (cells dells : List ℕ) (bits : ℕ)
      (here : (k : ℕ) → k < 64 → get_or dells (ring_index w.limit from + k) 0 ≡ bit_at bits k)
      (below : (k : ℕ) → k < ring_index w.limit from → get_or dells k 0 ≡ get_or cells k 0)
      (above : (k : ℕ) → ring_index w.limit from + 64 ≤ k → get_or dells k 0 ≡ get_or cells k 0) where
    unchanged : (k : ℕ) → (k < first) ⊎ (first + 64 ≤ k) → get_or dells k 0 ≡ get_or cells k 0
    unchanged k (inl under) = below k under
    unchanged k (inr over) = above k over

    same_there : (p : ℤ) → (p <ℤ from) ⊎ ((from +ℤ pos 64) ≤ℤ p)
        → cell (ring_content dells w) p ≡ cell (ring_content cells w) p
    same_there p out = by_window w p
        (λ a b.
        cell-ring-inside dells w p a b ∙ unchanged (ring_index w.limit p) (other_index p a b out)
        ∙ sym (cell-ring-inside cells w p a b))
        (λ under. cell-ring-below dells w p under ∙ sym (cell-ring-below cells w p under))
        (λ over. cell-ring-above dells w p over ∙ sym (cell-ring-above cells w p over))

    pub block_put : PutsBits (view_of (ring_content cells w) w) (view_of (ring_content dells w) w) from bits 64
    block_put = record {
      here = λ k h. block_cell dells k h ∙ here k h;
      there = same_there;
      low = refl;
      high = refl;
      limit = refl;
    }

    pub block_clear : IsClear cells w → IsClear dells w
    block_clear clear k over under =
        let a = index_in w.low w.high w.limit w.valid from low (omega (arith, ints, high)) in
        elim (cases_lt k first) [
          | inl lt ↦ below k lt ∙ clear k over under
          | inr ge ↦ elim (cases_lt k (first + 64)) [
            | inl within ↦
                absurd (omega (arith, ints, a, side, low, high, over, under, ge, within))
            | inr past ↦ above k (omega (arith, past)) ∙ clear k over under
          ]
        ]

    named : IsSound (view_of (ring_content cells w) w) → (p : ℤ) → cell (ring_content dells w) p ≤ MAX_SYMBOL
    named sound p =
        by_lt_z p from (λ lt. omega (arith, same_there p (inl lt), sound.symbols p))
        (λ ge. by_lt_z p (from +ℤ pos 64)
        (λ lt.
        let k = unsigned_abs (p -ℤ from) in
        let is : p ≡ from +ℤ pos k = offset from p ge in
        let near : k < 64 = omega (arith, ints, is, lt) in
        rw is (omega (arith, block_cell dells k near, here k near, bit_at-lt bits k)))
        (λ past. omega (arith, same_there p (inr past), sound.symbols p)))

    pub block_sound : IsSound (view_of (ring_content cells w) w) → IsSound (view_of (ring_content dells w) w)
    block_sound sound = sound_from (ring_content dells w) w
        (λ p some. by_window w p (λ a b. (a, b)) (λ under. absurd (some (cell-ring-below dells w p under)))
        (λ over. absurd (some (cell-ring-above dells w p over))))
        (named sound)
