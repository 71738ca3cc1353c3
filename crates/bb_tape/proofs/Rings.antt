-- The cells of a ring: those of the window at their indices, and 0 elsewhere.
use Rattle.std.proofs.Common.{◌≡◌, ℕ, ◌+◌, ◌<◌, ◌≤◌, ℤ, pos, negsuc, ◌+ℤ◌, ◌-ℤ◌, ◌≤ℤ◌, ◌<ℤ◌, List, map}
use Rattle.std.proofs.Common.{get_or, length, refl, sym, ap, ◌∙◌, arith}
use Rattle.std.proofs.lemmas.Int.{ints, by_lt_z}
use Rattle.std.proofs.lemmas.List.FromFn.{get_or-map-range_with_len, length-map-range_with_len}
use Rattle.std.proofs.lemmas.List.{get_or_past}
use Rattle.std.specs.Prelude.{unsigned_abs}
use Rattle.std.specs.List.{range_with_len}
use Rattle.bb_tape.specs.declared.window.Window.{Window}
use Rattle.bb_tape.specs.Content.{cell}
use Rattle.bb_tape.specs.RingIndex.{ring_index}
use Rattle.bb_tape.specs.Ring.{ring_content}
use Rattle.bb_tape.proofs.Laying.{cell-laid, cell-laid-below}

-- how many positions from a window's low end on
abbrev pub length_of : Window → ℕ
length_of w = unsigned_abs (w.high -ℤ w.low) + 1

abbrev pub symbols_of : List ℕ → Window → List ℕ
symbols_of cells w =
    map (λ k. get_or cells (ring_index w.limit (w.low +ℤ pos k)) 0) (range_with_len 0 (length_of w))

pub length-symbols_of : (cells : List ℕ) (w : Window) → length (symbols_of cells w) ≡ length_of w
length-symbols_of cells w = length-map-range_with_len _ 0 (length_of w)

pub symbols_of-at : (cells : List ℕ) (w : Window) (k : ℕ) → k < length_of w
    → get_or (symbols_of cells w) k 0 ≡ get_or cells (ring_index w.limit (w.low +ℤ pos k)) 0
symbols_of-at cells w k within =
    get_or-map-range_with_len (λ j. get_or cells (ring_index w.limit (w.low +ℤ pos j)) 0) 0 (length_of w) k k
    0 within (omega arith)

-- a position is in the window, below it or above it
pub by_window : (w : Window) (p : ℤ) {P : Type 0} → (w.low ≤ℤ p → p ≤ℤ w.high → P) → (p <ℤ w.low → P)
    → (w.high <ℤ p → P) → P
by_window w p inside below above =
    by_lt_z p w.low below (λ low. by_lt_z w.high p above (λ high. inside low high))

pub abs_is : (z : ℤ) → pos 0 ≤ℤ z → pos (unsigned_abs z) ≡ z
abs_is (pos n) h = refl
abs_is (negsuc n) h = absurd (omega (arith, ints))

pub offset : (low p : ℤ) → low ≤ℤ p → p ≡ low +ℤ pos (unsigned_abs (p -ℤ low))
offset low p le = omega (arith, ints, abs_is (p -ℤ low) (omega (arith, ints)))

pub wide : (w : Window) → pos (length_of w) ≡ (w.high -ℤ w.low) +ℤ pos 1
wide w = omega (arith, ints, abs_is (w.high -ℤ w.low) (omega (arith, ints)))

ends_within : (w : Window) (p : ℤ) → w.low ≤ℤ p → p ≤ℤ w.high → unsigned_abs (p -ℤ w.low) < length_of w
ends_within w p low high = omega (arith, ints, abs_is (p -ℤ w.low) (omega (arith, ints)), wide w)

ends_past : (w : Window) (p : ℤ) → w.high <ℤ p → length_of w ≤ unsigned_abs (p -ℤ w.low)
ends_past w p above = omega (arith, ints, abs_is (p -ℤ w.low) (omega (arith, ints)), wide w)

-- a cell of the window stands at its index
pub cell-ring-inside : (cells : List ℕ) (w : Window) (p : ℤ) → w.low ≤ℤ p → p ≤ℤ w.high
    → cell (ring_content cells w) p ≡ get_or cells (ring_index w.limit p) 0
unfolding ring_content
cell-ring-inside cells w p low high =
    let k = unsigned_abs (p -ℤ w.low) in
    let at : p ≡ w.low +ℤ pos k = offset w.low p low in
    cell-laid w.low (symbols_of cells w) k p at ∙ symbols_of-at cells w k (ends_within w p low high)
    ∙ ap (λ q. get_or cells (ring_index w.limit q) 0) (sym at)

pub cell-ring-below : (cells : List ℕ) (w : Window) (p : ℤ) → p <ℤ w.low → cell (ring_content cells w) p ≡ 0
unfolding ring_content
cell-ring-below cells w p below = cell-laid-below w.low (symbols_of cells w) p below

pub cell-ring-above : (cells : List ℕ) (w : Window) (p : ℤ) → w.high <ℤ p → cell (ring_content cells w) p ≡ 0
unfolding ring_content
cell-ring-above cells w p above =
    let k = unsigned_abs (p -ℤ w.low) in
    cell-laid w.low (symbols_of cells w) k p (offset w.low p (omega (arith, ints)))
    ∙ get_or_past (symbols_of cells w) k 0 (omega (arith, length-symbols_of cells w, ends_past w p above))
