-- What the two pieces of a stretch tell of a tape: its score, which cells are 0, whether two tapes are the
-- same.
use Rattle.std.proofs.Common.{◌≡◌, ◌⊎◌, inl, inr, ℕ, zero, suc, ◌+◌, ◌<◌, cond, ℤ, pos, ◌+ℤ◌, ◌-ℤ◌, ◌<ℤ◌}
use Rattle.std.proofs.Common.{List, [], ◌∷◌, ◌++◌, get_or, take, drop, length, count_by, refl, sym, ap, ◌∙◌}
use Rattle.std.proofs.Common.{arith}
use Rattle.std.proofs.Math.Seq.{take-append_seam, drop-append_seam}
use Rattle.std.proofs.lemmas.Int.{ints, clamps, by_lt_z}
use Rattle.std.specs.Int.{int_min, int_max}
use Rattle.std.proofs.lemmas.Bool.{cases_lt}
use Rattle.std.proofs.lemmas.Grind.{same_number_lists}
use Rattle.std.proofs.lemmas.List.{get_or_past}
use Rattle.std.proofs.lemmas.List.Sums.{sum_by-append}
use Rattle.std.specs.Prelude.{unsigned_abs}
use Rattle.bb_tape.specs.declared.window.Window.{Window}
use Rattle.bb_tape.specs.Content.{Content, cell, score}
use Rattle.bb_tape.specs.Ring.{ring_content, symbols}
use Rattle.bb_tape.proofs.Content.{same_content}
use Rattle.bb_tape.proofs.Rings.{cell-ring-inside, cell-ring-below, cell-ring-above, by_window, symbols_of}
use Rattle.bb_tape.proofs.Rings.{length_of, abs_is, wide, length-symbols_of, symbols_of-at}
use Rattle.bb_tape.proofs.Laying.{score-laid, count_next}
use Rattle.bb_tape.proofs.Pieces.{length-symbols, get_or-symbols}
use Rattle.bb_tape.proofs.Slices.{nonzero}

-- ---- counting

pub count-append : (xs ys : List ℕ) → count_by nonzero (xs ++ ys) ≡ count_by nonzero xs + count_by nonzero ys
count-append xs ys = sum_by-append (λ x. cond (nonzero x) 1 0) xs ys

-- what is counted where nothing is found
pub none_counted : (xs : List ℕ) → count_by nonzero xs ≡ 0 → (k : ℕ) → get_or xs k 0 ≡ 0
none_counted [] e k = refl
none_counted (x ∷ xs) e zero = omega (arith, count_next x xs, e)
none_counted (x ∷ xs) e (suc k) = none_counted xs (omega (arith, count_next x xs, e)) k

pub all_zero : (xs : List ℕ) → ((k : ℕ) → get_or xs k 0 ≡ 0) → count_by nonzero xs ≡ 0
all_zero [] z = refl
all_zero (x ∷ xs) z =
    let first = z 0 in let rest = all_zero xs (λ k. z (suc k)) in count_next x xs ∙ omega (arith, first, rest)

window_symbols : (cells : List ℕ) (w : Window)
    → symbols_of cells w ≡ symbols (ring_content cells w) w.low (length_of w)
window_symbols cells w =
    same_number_lists
    _ _ (length-symbols_of cells w ∙ sym (length-symbols (ring_content cells w) w.low (length_of w))) (λ k h.
    let within : k < length_of w = omega (arith, h, length-symbols_of cells w) in
    symbols_of-at cells w k within
    ∙ sym (get_or-symbols (ring_content cells w) w.low (length_of w) k within
    ∙ cell-ring-inside cells w (w.low +ℤ pos k) (omega (arith, ints)) (omega (arith, ints, wide w, within))))

-- a window's symbols, in two pieces, tell the score
pub score_in_pieces : (cells : List ℕ) (w : Window) (len : ℕ) (xs ys : List ℕ)
    → pos len ≡ (w.high -ℤ w.low) +ℤ pos 1 → xs ++ ys ≡ symbols (ring_content cells w) w.low len
    → count_by nonzero xs + count_by nonzero ys ≡ score (ring_content cells w)
unfolding ring_content
score_in_pieces cells w len xs ys el e =
    let long : len ≡ length_of w = omega (arith, ints, wide w, el) in
    sym (count-append xs ys)
    ∙ ap (count_by nonzero) (e ∙ ap (symbols (ring_content cells w) w.low) long
    ∙ sym (window_symbols cells w)) ∙ sym (score-laid w.low (symbols_of cells w))

-- ---- lists that stand in two pieces

pub append_parts : (a b c d : List ℕ) → length a ≡ length c → a ++ b ≡ c ++ d → (a ≡ c) × (b ≡ d)
append_parts a b c d long e = (
  sym (take-append_seam a b) ∙ ap (take (length a)) e ∙ ap (λ n. take n (c ++ d)) long ∙ take-append_seam c d,
  sym (drop-append_seam a b) ∙ ap (drop (length a)) e ∙ ap (λ n. drop n (c ++ d)) long ∙ drop-append_seam c d,
)

-- ---- cells that are all 0

-- where a stretch, in two pieces, has only zeroes
pub zero_in_pieces : (c : Content) (from : ℤ) (len : ℕ) (xs ys : List ℕ) → xs ++ ys ≡ symbols c from len
    → count_by nonzero xs ≡ 0 → count_by nonzero ys ≡ 0 → (k : ℕ) → k < len → cell c (from +ℤ pos k) ≡ 0
zero_in_pieces c from len xs ys e ex ey k h =
    let none : count_by nonzero (symbols c from len) ≡ 0 = ap (count_by nonzero) (sym e) ∙ count-append xs ys
    ∙ omega (arith, ex, ey) in
    sym (get_or-symbols c from len k h) ∙ none_counted (symbols c from len) none k

pub pieces_of_zero : (c : Content) (from : ℤ) (len : ℕ) (xs ys : List ℕ) → xs ++ ys ≡ symbols c from len
    → ((k : ℕ) → k < len → cell c (from +ℤ pos k) ≡ 0) → count_by nonzero xs + count_by nonzero ys ≡ 0
pieces_of_zero c from len xs ys e z =
    sym (count-append xs ys) ∙ ap (count_by nonzero) e
    ∙ all_zero (symbols c from len) (λ k. elim (cases_lt k len) [
      | inl lt ↦ get_or-symbols c from len k lt ∙ z k lt
      | inr past ↦ get_or_past (symbols c from len) k 0 (omega (arith, length-symbols c from len, past))
    ])

-- a tape is 0 outside a part of its window, where the window's two ends are
pub zero_outside : (cells : List ℕ) (w : Window) (low high : ℤ) (below above : ℕ) (from next : ℤ)
    → from ≡ w.low → next ≡ high +ℤ pos 1 → pos below ≡ low -ℤ w.low → pos above ≡ w.high -ℤ high
    → ((k : ℕ) → k < below → cell (ring_content cells w) (from +ℤ pos k) ≡ 0)
    → ((k : ℕ) → k < above → cell (ring_content cells w) (next +ℤ pos k) ≡ 0)
    → (p : ℤ) → (p <ℤ low) ⊎ (high <ℤ p) → cell (ring_content cells w) p ≡ 0
zero_outside cells w low high below above from next ef en eb ea zb za p outside =
    by_window w p
    (λ a b. elim outside [
      | inl under ↦
          let e = abs_is (p -ℤ w.low) (omega (arith, ints)) in
          let at : p ≡ from +ℤ pos (unsigned_abs (p -ℤ w.low)) = omega (arith, ints, e, ef) in
          ap (cell (ring_content cells w)) at ∙ zb _ (omega (arith, ints, e, eb, under))
      | inr over ↦
          let e = abs_is (p -ℤ next) (omega (arith, ints, over, en)) in
          let at : p ≡ next +ℤ pos (unsigned_abs (p -ℤ next)) = omega (arith, ints, e) in
          ap (cell (ring_content cells w)) at ∙ za _ (omega (arith, ints, e, en, ea, over))
    ])
    (λ under. cell-ring-below cells w p under)
    (λ over. cell-ring-above cells w p over)

-- two tapes are the same where they agree from low to high and are 0 elsewhere
pub same_from_parts : (c d : Content) (low high from : ℤ) (len : ℕ) → from ≡ low
    → pos len ≡ (high -ℤ low) +ℤ pos 1 → ((k : ℕ) → k < len → cell c (from +ℤ pos k) ≡ cell d (from +ℤ pos k))
    → ((p : ℤ) → (p <ℤ low) ⊎ (high <ℤ p) → cell c p ≡ 0)
    → ((p : ℤ) → (p <ℤ low) ⊎ (high <ℤ p) → cell d p ≡ 0) → c ≡ d
same_from_parts c d low high from len ef el alike zc zd = same_content c d (λ p.
    by_lt_z p low
    (λ under. zc p (inl under) ∙ sym (zd p (inl under)))
    (λ a.
    by_lt_z high p
    (λ over. zc p (inr over) ∙ sym (zd p (inr over)))
    (λ b.
    let k = unsigned_abs (p -ℤ low) in
    let e : pos k ≡ p -ℤ low = abs_is (p -ℤ low) (omega (arith, ints)) in
    let at : p ≡ from +ℤ pos k = omega (arith, ints, e, ef) in
    ap (cell c) at ∙ alike k (omega (arith, ints, e, el)) ∙ sym (ap (cell d) at))))

-- two rings with the same cells are 0 wherever one of the two windows ends
pub zero_unshared : (cells dells : List ℕ) (w v : Window) (low high : ℤ) → low ≡ int_max w.low v.low
    → high ≡ int_min w.high v.high → ring_content cells w ≡ ring_content dells v → (p : ℤ)
    → (p <ℤ low) ⊎ (high <ℤ p) → cell (ring_content dells v) p ≡ 0
zero_unshared cells dells w v low high el eh e p outside =
    by_window v p
    (λ a b.
    by_window w p
    (λ c d.
    absurd (omega (arith, ints, clamps)))
    (λ under. sym (ap (λ x. cell x p) e) ∙ cell-ring-below cells w p under)
    (λ over. sym (ap (λ x. cell x p) e) ∙ cell-ring-above cells w p over))
    (λ under. cell-ring-below dells v p under)
    (λ over. cell-ring-above dells v p over)
