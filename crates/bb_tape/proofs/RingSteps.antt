-- What the calls on a ring do to its cells.
use Rattle.std.proofs.Common.{◌≡◌, ◌≢◌, ◌⊎◌, inl, inr, ℕ, ◌<◌, ◌≤◌, ℤ, pos, ◌+ℤ◌, ◌-ℤ◌, ◌≤ℤ◌, ◌<ℤ◌, List}
use Rattle.std.proofs.Common.{get_or, set, length, sym, ap, ◌∙◌, arith, get_or-set_same, get_or-set_other}
use Rattle.std.proofs.Common.{◌++◌, ◌-◌, replicate, refl, take, drop, w64, to_z, of_z}
use Rattle.std.proofs.Math.ListN.{get_or-append}
use Rattle.std.proofs.Math.Seq.{take-append_seam}
use Rattle.std.proofs.lemmas.Int.{ints, clamps, by_lt_z, to_z-of_z}
use Rattle.std.proofs.lemmas.Bool.{cases_lt}
use Rattle.std.proofs.lemmas.Grind.{same_number_lists}
use Rattle.std.proofs.lemmas.List.{get_or-append_right, get_or-drop, get_or-replicate, get_or-take}
use Rattle.std.proofs.lemmas.List.{get_or_past, length-append, length-drop, length-replicate, length-take-le}
use Rattle.std.specs.Prelude.{unsigned_abs}
use Rattle.std.specs.Int.{int_min, int_max}
use borrow.Rule.Slice.PartMut.{put_mid}
use mir.Val.{SFits}
use Rattle.bb_tape.specs.declared.ring.RingTape.{RingTape}
use Rattle.bb_tape.specs.declared.window.Window.{Window}
use Rattle.bb_tape.specs.Content.{blank, cell, with_cell}
use Rattle.bb_tape.specs.RingIndex.{ring_index}
use Rattle.bb_tape.specs.Ring.{IsClear, ring_content}
use Rattle.bb_tape.specs.TapeView.{IsSound, visited}
use Rattle.bb_tape.specs.Windowed.{view_of}
use Rattle.bb_tape.proofs.Content.{by_position, same_content, cell-blank, cell-with_cell-same}
use Rattle.bb_tape.proofs.Content.{cell-with_cell-other}
use Rattle.bb_tape.proofs.RingIndex.{index_in, index_below, index_from_zero, index_apart}
use Rattle.bb_tape.proofs.Sound.{sound_wider}
use Rattle.bb_tape.proofs.Rings.{by_window, cell-ring-inside, cell-ring-below, cell-ring-above}

-- what a vector has after this was written to its slice
pub written_back : {len : ℕ} {new : List ℕ} (old : List ℕ) → length new ≡ len
    → take len (new ++ drop (length new) old) ≡ new
written_back {new} old long =
    ap (λ n. take n (new ++ drop (length new) old)) (sym long) ∙ take-append_seam new _

zeroes : (n k : ℕ) → get_or (replicate {A = ℕ} n 0) k 0 ≡ 0
zeroes n k = elim (cases_lt k n) [
  | inl lt ↦ get_or-replicate n k 0 0 lt
  | inr ge ↦ get_or_past (replicate {A = ℕ} n 0) k 0 (omega (arith, length-replicate {A = ℕ} n 0, ge))
]

-- cells with a new front, of which those from back on are then filled
module _ (cells before filled : List ℕ) (front back : ℕ) (same : length before ≡ length (take front cells))
    (in_front : front ≤ length cells) (in_back : back ≤ length cells) where
  abbrev mid : List ℕ
  mid = before ++ drop front cells

  long : length before ≡ front
  long = same ∙ length-take-le front cells in_front

  within : back ≤ length mid
  within =
      omega (arith, long, length-append before (drop front cells), length-drop front cells, in_front, in_back)

  pub filled_back : (n k : ℕ) → filled ≡ replicate {A = ℕ} n 0 → back ≤ k
      → get_or (put_mid back (length mid - back) mid filled) k 0 ≡ 0
  filled_back n k e from =
      let rest = drop (length mid - back) (drop back mid) in
      let none = length-drop (length mid - back) (drop back mid) in
      let left = length-drop back mid in
      get_or-append_right (take back mid) (filled ++ rest) back k 0 (length-take-le back mid within) from
      ∙ elim (cases_lt (k - back) (length filled)) [
        | inl lt ↦
            get_or-append filled rest 0 (k - back) lt ∙ ap (λ xs. get_or xs (k - back) 0) e
            ∙ zeroes n (k - back)
        | inr ge ↦
            get_or-append_right filled rest (length filled) (k - back) 0 refl ge
            ∙ get_or_past rest (k - back - length filled) 0 (omega (arith, none, left))
      ]

  pub filled_between : (k : ℕ) → front ≤ k → k < back
      → get_or (put_mid back (length mid - back) mid filled) k 0 ≡ get_or cells k 0
  filled_between k from to =
      get_or-append (take back mid) (filled ++ drop (length mid - back) (drop back mid)) 0 k
      (omega (arith, length-take-le back mid within, to))
      ∙ get_or-take back mid k 0 to ∙ get_or-append_right before (drop front cells) front k 0 long from
      ∙ get_or-drop front cells (k - front) 0 ∙ ap (λ i. get_or cells i 0) (omega (arith, from))

-- the window is the cell 0 alone, which is 0
pub ring_blank : (cells : List ℕ) (w : Window) → w.low ≡ pos 0 → w.high ≡ pos 0 → get_or cells 0 0 ≡ 0
    → ring_content cells w ≡ blank
ring_blank cells w low high zeroed = same_content _ _ (λ q.
    by_window w q
    (λ a b.
    let up : pos 0 ≤ℤ q = omega (arith, ints, low) in
    let is : q ≡ pos 0 = omega (arith, ints, low, high) in
    let at : ring_index w.limit q ≡ 0 = sym (index_from_zero w.low w.high w.limit w.valid q a b up)
    ∙ ap unsigned_abs is in
    cell-ring-inside cells w q a b ∙ ap (λ k. get_or cells k 0) at ∙ zeroed ∙ sym (cell-blank q))
    (λ below. cell-ring-below cells w q below ∙ sym (cell-blank q))
    (λ above. cell-ring-above cells w q above ∙ sym (cell-blank q)))

-- a write at a cell's index is a write to the cell
pub ring_written : (cells : List ℕ) (w : Window) (p : ℤ) (v : ℕ) → length cells ≡ w.limit → w.low ≤ℤ p
    → p ≤ℤ w.high → ring_content (set cells (ring_index w.limit p) v) w ≡ with_cell (ring_content cells w) p v
ring_written cells w p v whole low high = same_content _ _ (λ q.
    by_window w q
    (λ a b.
    cell-ring-inside (set cells (ring_index w.limit p) v) w q a b ∙
    by_position q p _
    (λ here.
    let room : ring_index w.limit p < length cells =
    omega (arith, whole, index_below w.low w.high w.limit w.valid p low high) in
    ap (λ x. get_or (set cells (ring_index w.limit p) v) (ring_index w.limit x) 0) here
    ∙ get_or-set_same cells (ring_index w.limit p) v 0 room
    ∙ sym (ap (cell (with_cell (ring_content cells w) p v)) here
    ∙ cell-with_cell-same (ring_content cells w) p v))
    (λ there.
    get_or-set_other cells (ring_index w.limit p) (ring_index w.limit q) v 0
    (index_apart w.low w.high w.limit w.valid p low high q a b there)
    ∙ sym (cell-with_cell-other (ring_content cells w) p v q there ∙ cell-ring-inside cells w q a b)))
    (λ below.
    cell-ring-below (set cells (ring_index w.limit p) v) w q below
    ∙ sym (cell-with_cell-other (ring_content cells w) p v q (λ e. omega (arith, ints, e))
    ∙ cell-ring-below cells w q below))
    (λ above.
    cell-ring-above (set cells (ring_index w.limit p) v) w q above
    ∙ sym (cell-with_cell-other (ring_content cells w) p v q (λ e. omega (arith, ints, e))
    ∙ cell-ring-above cells w q above)))

-- a window that takes in the position next to it, below or above, where all but the window's cells is 0
module _ (cells : List ℕ) (w v : Window) (p : ℤ) (clear : IsClear cells w) (limit : v.limit ≡ w.limit)
    (next : (p ≡ w.low -ℤ pos 1) ⊎ (p ≡ w.high +ℤ pos 1)) (low : v.low ≡ int_min w.low p)
    (high : v.high ≡ int_max w.high p) where
  still_from : (q : ℤ) → v.low ≤ℤ q → q ≢ p → w.low ≤ℤ q
  still_from q a other = by_lt_z q w.low (λ lt. absurd (other (omega (arith, ints, clamps)))) (λ ge. ge)

  still_to : (q : ℤ) → q ≤ℤ v.high → q ≢ p → q ≤ℤ w.high
  still_to q b other = by_lt_z w.high q (λ lt. absurd (other (omega (arith, ints, clamps)))) (λ ge. ge)

  -- the position has a 0
  clear_beside : get_or cells (ring_index v.limit p) 0 ≡ 0
  clear_beside =
      let pfrom : v.low ≤ℤ p = omega (arith, ints, clamps) in
      let pto : p ≤ℤ v.high = omega (arith, ints, clamps) in
      let at = index_in v.low v.high v.limit v.valid p pfrom pto in
      clear (ring_index v.limit p) (omega (arith, ints, clamps, at)) (omega (arith, ints, clamps, at))

  ring_wider : ring_content cells v ≡ ring_content cells w
  ring_wider = same_content _ _ (λ q.
      by_window v q
      (λ a b.
      cell-ring-inside cells v q a b ∙
      by_position q p _
      (λ here.
      ap (λ x. get_or cells (ring_index v.limit x) 0) here ∙ clear_beside
      ∙ sym (elim next [
        | inl below ↦ cell-ring-below cells w q (omega (arith, ints, here, below))
        | inr above ↦ cell-ring-above cells w q (omega (arith, ints, here, above))
      ]))
      (λ there.
      ap (λ n. get_or cells (ring_index n q) 0) limit
      ∙ sym (cell-ring-inside cells w q (still_from q a there) (still_to q b there))))
      (λ below. cell-ring-below cells v q below
      ∙ sym (cell-ring-below cells w q (omega (arith, ints, clamps))))
      (λ above. cell-ring-above cells v q above
      ∙ sym (cell-ring-above cells w q (omega (arith, ints, clamps)))))

  clear_wider : IsClear cells v
  clear_wider k above below =
      clear k (omega (arith, ints, clamps, above, high)) (omega (arith, ints, clamps, below, low, limit))

-- a ring with a window that took in p
pub record IsWider (a : RingTape) (v : Window) (p : ℤ) : Type 0 where
  pub whole : length a.cells.items ≡ v.limit
  pub clear : IsClear a.cells.items v
  pub sound : IsSound (view_of (ring_content a.cells.items v) v)
  pub view : view_of (ring_content a.cells.items v) v
      ≡ visited (view_of (ring_content a.cells.items a.window) a.window) p

wider : (a : RingTape) (v : Window) (p : ℤ) → (p ≡ a.window.low -ℤ pos 1) ⊎ (p ≡ a.window.high +ℤ pos 1)
    → v.low ≡ int_min a.window.low p → v.high ≡ int_max a.window.high p → v.limit ≡ a.window.limit
    → IsWider a v p
wider a v p next low high limit =
    let cells = a.cells.items in
    let w = a.window in
    let e : ring_content cells v ≡ ring_content cells w =
    ring_wider cells w v p a.clear limit next low high in
    record {
      whole = a.whole ∙ sym limit;
      clear = clear_wider cells w v p a.clear limit next low high;
      sound = rw e (sound_wider (ring_content cells w) w p v a.sound low high);
      view = cc;
    }

pub wider_low : (a : RingTape) (v : Window) {p : ℤ} → SFits w64 p → p ≡ a.window.low -ℤ pos 1
    → record {
      low : v.low ≡ to_z w64 (of_z w64 p);
      high : v.high ≡ a.window.high;
      limit : v.limit ≡ a.window.limit;
    }
    → IsWider a v p
wider_low a v {p} fits next is =
    let same = to_z-of_z w64 p fits in
    wider a v p (inl next) (omega (arith, ints, clamps)) (omega (arith, ints, clamps)) is.limit

pub wider_high : (a : RingTape) (v : Window) {p : ℤ} → SFits w64 p → p ≡ a.window.high +ℤ pos 1
    → record {
      low : v.low ≡ a.window.low;
      high : v.high ≡ to_z w64 (of_z w64 p);
      limit : v.limit ≡ a.window.limit;
    }
    → IsWider a v p
wider_high a v {p} fits next is =
    let same = to_z-of_z w64 p fits in
    wider a v p (inr next) (omega (arith, ints, clamps)) (omega (arith, ints, clamps)) is.limit

pub clear_written : (cells : List ℕ) (w : Window) (p : ℤ) (v : ℕ) → IsClear cells w → w.low ≤ℤ p → p ≤ℤ w.high
    → IsClear (set cells (ring_index w.limit p) v) w
clear_written cells w p v clear from to k above below =
    get_or-set_other cells (ring_index w.limit p) k v 0
    (λ e. omega (arith, ints, e, index_in w.low w.high w.limit w.valid p from to)) ∙ clear k above below

pub clear_zeroes : (cells : List ℕ) (w : Window) → ((k : ℕ) → k < w.limit → get_or cells k 0 ≡ 0)
    → IsClear cells w
clear_zeroes cells w zeroes k above below = zeroes k (omega (arith, ints))

-- what holds up to the front, from the back on and between them, holds everywhere
in_parts : (front back : ℕ) (P : ℕ → Type 0) → ((k : ℕ) → k < front → P k) → ((k : ℕ) → back ≤ k → P k)
    → ((k : ℕ) → front ≤ k → k < back → P k) → (k : ℕ) → P k
in_parts front back P low high between k =
    elim (cases_lt k front) [
      | inl lt ↦ low k lt
      | inr ge ↦ elim (cases_lt k back) [
        | inl lt ↦ between k (omega (arith, ge)) lt
        | inr past ↦ high k (omega (arith, past))
      ]
    ]

-- with the ends cleared, all is 0
pub all_clear : (cells dells : List ℕ) (w : Window) (front back : ℕ) → IsClear cells w
    → pos front ≡ w.high +ℤ pos 1 → pos back ≡ w.low +ℤ pos w.limit
    → ((k : ℕ) → k < front → get_or dells k 0 ≡ 0) → ((k : ℕ) → back ≤ k → get_or dells k 0 ≡ 0)
    → ((k : ℕ) → front ≤ k → k < back → get_or dells k 0 ≡ get_or cells k 0) → (k : ℕ) → get_or dells k 0 ≡ 0
all_clear cells dells w front back clear ef eb low high between =
    in_parts front back (λ k. get_or dells k 0 ≡ 0) low high
    (λ k ge lt. between k ge lt ∙ clear k (omega (arith, ints, ef, ge)) (omega (arith, ints, eb, lt)))

-- a list that is a ring at both its ends, which its window doesn't reach beyond, and 0 between them
pub ring_copied : (cells dells : List ℕ) (w : Window) (front back : ℕ) → length cells ≡ length dells
    → IsClear dells w → w.high <ℤ pos front → pos back ≤ℤ (w.low +ℤ pos w.limit)
    → ((k : ℕ) → k < front → get_or cells k 0 ≡ get_or dells k 0)
    → ((k : ℕ) → back ≤ k → get_or cells k 0 ≡ get_or dells k 0)
    → ((k : ℕ) → front ≤ k → k < back → get_or cells k 0 ≡ 0) → cells ≡ dells
ring_copied cells dells w front back long clear ef eb low high between =
    same_number_lists cells dells long (λ k _.
    in_parts front back (λ j. get_or cells j 0 ≡ get_or dells j 0) low high
    (λ j ge lt. between j ge lt
    ∙ sym (clear j (omega (arith, ints, ef, ge)) (omega (arith, ints, eb, lt)))) k)
