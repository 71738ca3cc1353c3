-- A stretch of a ring in two pieces, and lists that stand in two pieces.
use Rattle.std.proofs.Common.{◌≡◌, ◌⊎◌, inl, inr, ℕ, ◌+◌, ◌-◌, ◌<◌, ◌≤◌, min, ℤ, pos, ◌+ℤ◌, ◌≤ℤ◌, List, ◌++◌}
use Rattle.std.proofs.Common.{get_or, take, drop, length, sym, ap, ◌∙◌, arith}
use Rattle.std.proofs.Math.Seq.{get_or-append_right}
use Rattle.std.proofs.Math.ListN.{get_or-append}
use Rattle.std.proofs.lemmas.Int.{ints}
use Rattle.std.proofs.lemmas.Bool.{cases_lt}
use Rattle.std.proofs.lemmas.Grind.{same_number_lists}
use Rattle.std.proofs.lemmas.List.{length-append, length-drop, length-take-le, get_or-take, get_or-drop}
use Rattle.std.proofs.lemmas.List.FromFn.{get_or-map-range_with_len, length-map-range_with_len}
use Rattle.bb_tape.specs.declared.window.Window.{Window}
use Rattle.bb_tape.specs.Content.{Content, cell}
use Rattle.bb_tape.specs.TapeView.{AgreesFrom}
use Rattle.bb_tape.specs.RingIndex.{ring_index}
use Rattle.bb_tape.specs.Ring.{ring_content, symbols}
use Rattle.bb_tape.proofs.RingIndex.{index_in, index_below}
use Rattle.bb_tape.proofs.Rings.{cell-ring-inside}

-- ---- the symbols of a stretch

pub length-symbols : (c : Content) (from : ℤ) (len : ℕ) → length (symbols c from len) ≡ len
length-symbols c from len = length-map-range_with_len (λ k. cell c (from +ℤ pos k)) 0 len

pub get_or-symbols : (c : Content) (from : ℤ) (len k : ℕ) → k < len
    → get_or (symbols c from len) k 0 ≡ cell c (from +ℤ pos k)
get_or-symbols c from len k h =
    get_or-map-range_with_len (λ j. cell c (from +ℤ pos j)) 0 len k k 0 h (omega arith)

-- stretches agree exactly where their symbols are the same
pub symbols_agree : (c d : Content) (from other_from : ℤ) (len : ℕ)
    → symbols c from len ≡ symbols d other_from len → AgreesFrom c from d other_from len
symbols_agree c d from other_from len e k h = sym (get_or-symbols c from len k h) ∙ ap (λ xs. get_or xs k 0) e
    ∙ get_or-symbols d other_from len k h

pub agree_symbols : (c d : Content) (from other_from : ℤ) (len : ℕ) → AgreesFrom c from d other_from len
    → symbols c from len ≡ symbols d other_from len
agree_symbols c d from other_from len agrees =
    same_number_lists _ _ (length-symbols c from len ∙ sym (length-symbols d other_from len)) (λ k h.
    let within : k < len = omega (arith, length-symbols c from len, h) in
    get_or-symbols c from len k within ∙ agrees k within ∙ sym (get_or-symbols d other_from len k within))

-- ---- a stretch of a ring

-- from the index of its first cell a stretch goes up to the ring's end, and on from its beginning
module _ (w : Window) (from : ℤ) (at : ℕ) (is : at ≡ ring_index w.limit from) where
  stretch_at : (k : ℕ) → w.low ≤ℤ from → from ≤ℤ w.high → w.low ≤ℤ (from +ℤ pos k) → (from +ℤ pos k) ≤ℤ w.high
      → ((at + k < w.limit) × (ring_index w.limit (from +ℤ pos k) ≡ at + k))
      ⊎ ((w.limit ≤ at + k) × (ring_index w.limit (from +ℤ pos k) + w.limit ≡ at + k))
  stretch_at k a b c d =
      elim (index_in w.low w.high w.limit w.valid from a b) [
        | inl f ↦ elim (index_in w.low w.high w.limit w.valid (from +ℤ pos k) c d) [
          | inl g ↦ inl (omega (arith, ints, is, f.1, g.1), omega (arith, ints, is, f.1, g.1))
          | inr g ↦ absurd (omega (arith, ints, f.0, g.0))
        ]
        | inr f ↦ elim (index_in w.low w.high w.limit w.valid (from +ℤ pos k) c d) [
          | inl g ↦ inr (omega (arith, ints, is, f.1, g.0), omega (arith, ints, is, f.1, g.1))
          | inr g ↦ inl (omega (arith, ints, is, f.1, g.0), omega (arith, ints, is, f.1, g.1))
        ]
      ]

  -- where the stretch is in the window
  module _ (len : ℕ) (within : (k : ℕ) → k < len
      → (w.low ≤ℤ (from +ℤ pos k)) × ((from +ℤ pos k) ≤ℤ w.high)) where
    first_in : 0 < len → (w.low ≤ℤ from) × (from ≤ℤ w.high)
    first_in some = let f = within 0 some in (omega (arith, ints, f.0), omega (arith, ints, f.1))

    at_each : (k : ℕ) → k < len → ((at + k < w.limit) × (ring_index w.limit (from +ℤ pos k) ≡ at + k))
        ⊎ ((w.limit ≤ at + k) × (ring_index w.limit (from +ℤ pos k) + w.limit ≡ at + k))
    at_each k h = let f = first_in (omega (arith, h)) in let g = within k h in stretch_at k f.0 f.1 g.0 g.1

    module _ (cells : List ℕ) (whole : length cells ≡ w.limit) (some : 0 < len) (room : at < w.limit)
        (first : ℕ) (cut : first ≡ min len (w.limit - at)) where
      rest_fits : len - first ≤ w.limit
      rest_fits =
          let g = within (len - 1) (omega arith) in
          omega (
            arith,
            at_each (len - 1) (omega arith),
            index_below w.low w.high w.limit w.valid (from +ℤ pos (len - 1)) g.0 g.1,
          )

      long_first : length (take first (drop at cells)) ≡ first
      long_first = length-take-le first (drop at cells) (omega (arith, length-drop at cells))

      pub long_rest : length (take (len - first) cells) ≡ len - first
      long_rest = length-take-le (len - first) cells (omega (arith, rest_fits))

      in_first : (k : ℕ) → k < len → k < first
          → get_or (take first (drop at cells) ++ take (len - first) cells) k 0
          ≡ get_or cells (ring_index w.limit (from +ℤ pos k)) 0
      in_first k h lt =
          get_or-append (take first (drop at cells)) (take (len - first) cells) 0 k
          (omega (arith, long_first))
          ∙ get_or-take first (drop at cells) k 0 lt ∙ get_or-drop at cells k 0
          ∙ (let e : at + k ≡ ring_index w.limit (from +ℤ pos k) = omega (arith, at_each k h) in
          ap (λ j. get_or cells j 0) e)

      in_rest : (k : ℕ) → k < len → first ≤ k
          → get_or (take first (drop at cells) ++ take (len - first) cells) k 0
          ≡ get_or cells (ring_index w.limit (from +ℤ pos k)) 0
      in_rest k h ge =
          get_or-append_right (take first (drop at cells)) (take (len - first) cells) k 0
          (omega (arith, long_first))
          ∙ ap (λ n. get_or (take (len - first) cells) (k - n) 0) long_first
          ∙ get_or-take (len - first) cells (k - first) 0 (omega arith)
          ∙ (let e : k - first ≡ ring_index w.limit (from +ℤ pos k) = omega (arith, at_each k h) in
          ap (λ j. get_or cells j 0) e)

      -- the cells up to the ring's end, and those from its beginning on
      pub pieces_are : take first (drop at cells) ++ take (len - first) cells
          ≡ symbols (ring_content cells w) from len
      pieces_are =
          same_number_lists _ _ (length-append (take first (drop at cells)) (take (len - first) cells)
          ∙ omega (arith, long_first, long_rest, length-symbols (ring_content cells w) from len)) (λ k h.
          let lt : k < len = omega (
            arith,
            h,
            long_first,
            long_rest,
            length-append (take first (drop at cells)) (take (len - first) cells),
          ) in
          let g = within k lt in
          elim (cases_lt k first) [
            | inl in' ↦ in_first k lt in'
            | inr past ↦ in_rest k lt (omega (arith, past))
          ]
          ∙ sym (get_or-symbols (ring_content cells w) from len k lt
          ∙ cell-ring-inside cells w (from +ℤ pos k) g.0 g.1))
