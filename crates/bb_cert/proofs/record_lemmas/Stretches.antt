-- The stretch that is compared: how far out its ends are, and which positions those are.
use Rattle.std.proofs.Common.{◌≡◌, ℕ, ◌<◌, ◌↔◌, ℤ, pos, negsuc, neg_ℤ, ◌+ℤ◌, ◌-ℤ◌, ◌≤ℤ◌, refl, ap}
use Rattle.std.proofs.Common.{sym, subst, ◌∙◌, arith}
use Rattle.std.specs.Int.{int_min}
use Rattle.std.specs.Int.RustNames.{unsigned_abs}
use Rattle.std.proofs.lemmas.Int.{ints, clamps}
use Rattle.std.specs.Prelude.{◌<ℤ◌}
use Rattle.bb_tape.specs.Content.{Content, cell}
use Rattle.bb_tape.specs.TapeView.{TapeView, IsInside, IsSound, IsStretch, AgreesFrom, visited, width}
use Rattle.bb_tape.proofs.Facts.{abs_is}
use Rattle.bb_sim.specs.CellsBetween.{cells_between}
use Rattle.bb_sim.specs.declared.runner.Runner.{Runner}
use Rattle.bb_sim.specs.Runner.{position_of}
use Rattle.bb_cert.specs.declared.verdict.Side.{Side}
use Rattle.bb_cert.specs.declared.verdict.Side.TheVariants.{L, R}
use Rattle.bb_cert.specs.records.Record.{out}
use Rattle.bb_cert.specs.declared.records.Records.{Records}
use Rattle.bb_cert.specs.records.Follow.{HasSameCells, IsComparable, IsNarrow, nearest_out, lesser_of}
use Rattle.bb_cert.specs.records.Follow.{number_of}
use Rattle.bb_cert.specs.records.Follow.{top_of}
use Rattle.bb_cert.proofs.record_lemmas.Heads.{out-out}

pub narrow_inside : {s : TapeView} {p : ℤ} → IsSound s → IsInside s p → IsNarrow p
narrow_inside sound inside =
    omega (arith, ints, inside, sound.from_zero, sound.to_zero, sound.within, sound.limited)

-- a stretch whose ends are inside is inside
pub stretch_inside : (side : Side) (s : TapeView) (near far_out from : ℤ) (len : ℕ)
    → from ≡ lesser_of side near far_out → pos len ≡ (far_out -ℤ near) +ℤ pos 1
    → IsInside s (out side near) → IsInside s (out side far_out) → IsStretch s from len
stretch_inside L s near far_out from len is long first last k less =
    omega (arith, ints, is, long, first, last, less)
stretch_inside R s near far_out from len is long first last k less =
    omega (arith, ints, is, long, first, last, less)

-- what lies between two positions that are inside is inside
pub between_inside : (side : Side) (s : TapeView) (near x far_out : ℤ) → near ≤ℤ x → x ≤ℤ far_out
    → IsInside s (out side near) → IsInside s (out side far_out) → IsInside s (out side x)
between_inside L s near x far_out a b first last = omega (arith, ints, a, b, first, last)
between_inside R s near x far_out a b first last = omega (arith, ints, a, b, first, last)

-- how far from the stretch's lesser end a position is
pub record IsOffset (from x : ℤ) (len : ℕ) : Type 0 where
  pub offset : ℕ
  pub is : x ≡ from +ℤ pos offset
  pub less : offset < len

by_difference : (from x d : ℤ) (len : ℕ) → d ≡ x -ℤ from → pos 0 ≤ℤ d → d <ℤ pos len → IsOffset from x len
by_difference from x (pos k) len is low high =
    record { offset = k; is = omega (arith, ints, is); less = omega (arith, ints, high) }
by_difference from x (negsuc k) len is low high = absurd (omega (arith, ints, low))

offset_of : (side : Side) (near far_out from x : ℤ) (len : ℕ) → from ≡ lesser_of side near far_out
    → pos len ≡ (far_out -ℤ near) +ℤ pos 1 → near ≤ℤ out side x → out side x ≤ℤ far_out → IsOffset from x len
offset_of L near far_out from x len is long a b =
    by_difference from x (x -ℤ from) len refl (omega (arith, ints, is, long, a, b))
    (omega (arith, ints, is, long, a, b))
offset_of R near far_out from x len is long a b =
    by_difference from x (x -ℤ from) len refl (omega (arith, ints, is, long, a, b))
    (omega (arith, ints, is, long, a, b))

reaches : (side : Side) (near far_out from : ℤ) (len k : ℕ) → from ≡ lesser_of side near far_out
    → pos len ≡ (far_out -ℤ near) +ℤ pos 1 → k < len
    → (near ≤ℤ out side (from +ℤ pos k)) × (out side (from +ℤ pos k) ≤ℤ far_out)
reaches L near far_out from len k is long less = omega (arith, ints, is, long, less)
reaches R near far_out from len k is long less = omega (arith, ints, is, long, less)

-- the cells of a stretch, counted from its lesser end, or told by how far out they are
module _ (side : Side) (near far_out shift from other : ℤ) (len : ℕ) (a b : Content)
    (is : from ≡ lesser_of side near far_out) (long : pos len ≡ (far_out -ℤ near) +ℤ pos 1)
    (shifted : other ≡ from +ℤ shift) where
  turned : (k : ℕ) → other +ℤ pos k ≡ (from +ℤ pos k) +ℤ shift
  turned k = omega (arith, ints, shifted)

  pub claimed_by_out : AgreesFrom a from b other len
      → (x : ℤ) → near ≤ℤ out side x → out side x ≤ℤ far_out → cell a x ≡ cell b (x +ℤ shift)
  claimed_by_out agree x low high =
      let at = offset_of side near far_out from x len is long low high in
      ap (cell a) at.is ∙ agree at.offset at.less ∙ ap (cell b) (turned at.offset)
      ∙ ap (λ y. cell b (y +ℤ shift)) (sym at.is)

  pub claimed_by_offset : ((x : ℤ) → near ≤ℤ out side x → out side x ≤ℤ far_out → cell a x ≡ cell b (x +ℤ shift))
      → AgreesFrom a from b other len
  claimed_by_offset same k less =
      let at = reaches side near far_out from len k is long less in
      same (from +ℤ pos k) at.0 at.1 ∙ ap (cell b) (sym (turned k))

pub lesser_narrow : (p q : ℤ) → IsNarrow p → IsNarrow q → IsNarrow (int_min p q)
lesser_narrow p q n m = omega (arith, ints, clamps, n, m)

-- the positions of records that can be compared are no farther from 0 than any position of a tape
pub record AreNarrow (records : Records) (runner : Runner) : Type 0 where
  pub nearest : IsNarrow records.nearest
  pub kept : IsNarrow (position_of records.kept)
  pub head : IsNarrow (position_of runner)

pub are_narrow : {records : Records} {runner : Runner} {saved run : TapeView} → IsSound saved → IsSound run
    → IsComparable records runner saved run → AreNarrow records runner
are_narrow sound_saved sound_run comparable = record {
  nearest = narrow_inside sound_run comparable.far_seen;
  kept = narrow_inside sound_saved comparable.number_saved;
  head = narrow_inside sound_run comparable.top_seen;
}

-- the lesser of its ends, and how many positions it has
lesser_is : (side : Side) (near far_out : ℤ) → out side near ≤ℤ out side far_out
    → int_min near far_out ≡ lesser_of side (out side near) (out side far_out)
lesser_is R near far_out order = omega (arith, ints, clamps, order)
lesser_is L near far_out order = omega (arith, ints, clamps, order)

abs_down : (d : ℤ) → d ≤ℤ pos 0 → pos (unsigned_abs d) ≡ neg_ℤ d
abs_down (pos n) h = omega (arith, ints, h)
abs_down (negsuc n) h = refl

pub distance_is : (side : Side) (near far_out : ℤ) → out side near ≤ℤ out side far_out
    → pos (unsigned_abs (far_out -ℤ near)) ≡ out side far_out -ℤ out side near
distance_is R near far_out order = abs_is (far_out -ℤ near) (omega (arith, ints, order))
distance_is L near far_out order =
    let down = abs_down (far_out -ℤ near) (omega (arith, ints, order)) in omega (arith, ints, down)

-- a number that is as far out as a position is
pub out_as_far : (side : Side) (p : ℤ) → pos 0 ≤ℤ out side p → pos (unsigned_abs p) ≡ out side p
out_as_far R p some = abs_is p some
out_as_far L p some = abs_down p (omega (arith, ints, some))

pub length_is : (side : Side) (near far_out : ℤ) → out side near ≤ℤ out side far_out
    → pos (cells_between near far_out) ≡ (out side far_out -ℤ out side near) +ℤ pos 1
length_is side near far_out order = omega (arith, ints, distance_is side near far_out order)

-- the stretch of the run, moved by the distance of the two records
moved_order : (near number top : ℤ) → near ≤ℤ number → number ≤ℤ top
    → (near ≤ℤ (near +ℤ (top -ℤ number))) × ((near +ℤ (top -ℤ number)) ≤ℤ top)
moved_order near number top a b = omega (arith, ints, a, b)

moved_length : (near number top : ℤ) (len : ℕ) → pos len ≡ (number -ℤ near) +ℤ pos 1
    → pos len ≡ (top -ℤ (near +ℤ (top -ℤ number))) +ℤ pos 1
moved_length near number top len is = omega (arith, ints, is)

moved_from : (side : Side) (near number top from other : ℤ)
    → from ≡ lesser_of side (out side near) (out side number) → other ≡ from +ℤ (top -ℤ number)
    → other ≡ lesser_of side (out side near +ℤ (out side top -ℤ out side number)) (out side top)
moved_from R near number top from other is at = omega (arith, ints, is, at)
moved_from L near number top from other is at = omega (arith, ints, is, at)

-- the two stretches that are compared are in the windows, and have the same cells just where the records do
pub record IsCompared (records : Records) (runner : Runner) (saved run : TapeView) (from other : ℤ) (len : ℕ)
    : Type 0 where
  pub here : IsStretch saved from len
  pub there : IsStretch run other len
  pub same : AgreesFrom saved.content from run.content other len
      ↔ HasSameCells records runner saved.content run.content

pub compared : {records : Records} {runner : Runner} {saved run : TapeView} {from other : ℤ} {len : ℕ}
    → IsComparable records runner saved run → IsInside saved records.nearest
    → from ≡ int_min records.nearest (position_of records.kept)
    → other ≡ from +ℤ (position_of runner -ℤ position_of records.kept)
    → len ≡ cells_between records.nearest (position_of records.kept)
    → IsCompared records runner saved run from other len
compared {records} {runner} {saved} {run} {from} {other} {len} comparable seen at other_is len_is = record {
  here = stretch_inside side saved (nearest_out records) (number_of records) from len lesser long
      (turned_back saved records.nearest seen)
      (turned_back saved (position_of records.kept) comparable.number_saved);
  there = stretch_inside side run _ (top_of records runner) other len
      (moved_from side records.nearest (position_of records.kept)
      (position_of runner) from other lesser other_is)
      (moved_length (nearest_out records) (number_of records) (top_of records runner) len long)
      (between_inside side run (nearest_out records) _ (top_of records runner) order.0 order.1
      (turned_back run records.nearest comparable.far_seen)
      (turned_back run (position_of runner) comparable.top_seen))
      (turned_back run (position_of runner) comparable.top_seen);
  same = (
    claimed_by_out side (nearest_out records) (number_of records) _ from other len _ _ lesser long other_is,
    claimed_by_offset side (nearest_out records) (number_of records) _ from other len _ _ lesser long other_is,
  );
} where
  side : Side
  side = records.side

  lesser : from ≡ lesser_of side (nearest_out records) (number_of records)
  lesser = at ∙ lesser_is side records.nearest (position_of records.kept) comparable.order

  long : pos len ≡ (number_of records -ℤ nearest_out records) +ℤ pos 1
  long = ap pos len_is ∙ length_is side records.nearest (position_of records.kept) comparable.order

  order : (nearest_out records ≤ℤ (nearest_out records +ℤ (top_of records runner -ℤ number_of records)))
      × ((nearest_out records +ℤ (top_of records runner -ℤ number_of records)) ≤ℤ top_of records runner)
  order = moved_order (nearest_out records) (number_of records)
      (top_of records runner) comparable.order comparable.later

  turned_back : (s : TapeView) (p : ℤ) → IsInside s p → IsInside s (out side (out side p))
  turned_back s p = subst (IsInside s) (sym (out-out side p))

-- ---- what was saved, widened to a position in the window of the run

pub room_for : (saved run : TapeView) (p : ℤ) → IsSound run → saved.limit ≡ run.limit → run.low ≤ℤ saved.low
    → saved.high ≤ℤ run.high → IsInside run p → width (visited saved p) ≤ℤ pos saved.limit
room_for saved run p sound limit low high inside =
    omega (arith, ints, clamps, sound.within, limit, low, high, inside.0, inside.1)

pub seen_wider : (saved : TapeView) (p q : ℤ) → IsInside saved q → IsInside (visited saved p) q
seen_wider saved p q inside = omega (arith, ints, clamps, inside)

pub seen_at : (saved : TapeView) (p : ℤ) → IsInside (visited saved p) p
seen_at saved p = omega (arith, ints, clamps)

pub low_wider : (low p : ℤ) (saved : TapeView) → low ≤ℤ saved.low → low ≤ℤ p → low ≤ℤ (visited saved p).low
low_wider low p saved a b = omega (arith, ints, clamps, a, b)

pub high_wider : (high p : ℤ) (saved : TapeView) → saved.high ≤ℤ high → p ≤ℤ high
    → (visited saved p).high ≤ℤ high
high_wider high p saved a b = omega (arith, ints, clamps, a, b)

pub comparable_wider : {records : Records} {runner : Runner} {saved run : TapeView}
    → IsComparable records runner saved run → IsComparable records runner (visited saved records.nearest) run
comparable_wider {records} {runner} {saved} {run} is = record {
  low = low_wider _ _ saved is.low is.far_seen.0;
  high = high_wider _ _ saved is.high is.far_seen.1;
  order = is.order;
  later = is.later;
  far_seen = is.far_seen;
  top_seen = is.top_seen;
  number_saved = seen_wider saved _ _ is.number_saved;
}
