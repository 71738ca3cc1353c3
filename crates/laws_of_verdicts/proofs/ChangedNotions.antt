-- Why spans, repeats and records of a machine are those of another, where each configuration up to a step is
-- the image of the other's.
use Rattle.std.proofs.Common.{◌≡◌, ℕ, zero, suc, ◌+◌, ◌-◌, Bool, true, false, Option, Some, None, ℤ, neg_ℤ}
use Rattle.std.proofs.Common.{◌≤◌, ◌+ℤ◌, ◌-ℤ◌, ◌≤ℤ◌, refl, ap, ap₂, sym, ◌∙◌, arith}
use Rattle.std.proofs.lemmas.Int.{ints, clamps}
use Rattle.std.specs.Int.{int_min, int_max}
use Rattle.std.specs.Int.RustNames.{unsigned_abs}
use Rattle.bb_machine.specs.declared.entry.Next.{Next}
use Rattle.bb_machine.specs.declared.entry.Next.TheVariants.{State, Halt}
use Rattle.bb_machine.specs.Limits.{Bounds}
use Rattle.bb_machine.specs.Machine.{Table}
use Rattle.bb_tape.specs.Content.{cell}
use Rattle.bb_sim.specs.CellsBetween.{cells_between}
use Rattle.bb_sim.specs.Configuration.{Configuration, next}
use Rattle.bb_sim.specs.Run.{conf, HaltsAt, IsScore}
use Rattle.bb_sim.specs.Span.{counted_position, counted_position_in, counted_head, least, greatest, span}
use Rattle.bb_sim.specs.Span.{Inside}
use Rattle.bb_cert.specs.declared.verdict.Extent.{Extent}
use Rattle.bb_cert.specs.declared.verdict.Side.{Side}
use Rattle.bb_cert.specs.declared.verdict.Side.TheVariants.{L, R}
use Rattle.bb_cert.specs.claims.Repeat.{Same}
use Rattle.bb_cert.specs.records.Agree.{Agree, AgreeingRecords}
use Rattle.bb_cert.specs.records.Record.{out, head_of, head_at, far, IsRecord}
use Rattle.bb_cert.specs.verdict.Extent.{IsExtent, SaysExtent, TellsExtent}
use Rattle.bb_decide.specs.Cycle.{HasNoCycle, IsCycle, IsFirstCycle}
use Rattle.bb_cert.proofs.Facts.{records_in_order}
use Rattle.bb_decide.specs.Translation.{AgreesWithPartner, IsFirstTranslation, IsTranslation}
use Rattle.laws_of_verdicts.specs.Change.{Change, IsChanged, changed_next, placed, turned_side}
use Rattle.laws_of_verdicts.proofs.ChangedRuns.{AreImages, ImageOf, conf_image, image_is_one, image_of}
use Rattle.laws_of_verdicts.proofs.ChangedRuns.{cell_at, next_image, no_image, placed-add}
use Rattle.laws_of_verdicts.proofs.ChangedRuns.{placed-subtract, placed-twice, placed-zero}

least_alike : (f g : ℕ → ℤ) (n : ℕ) → ((m : ℕ) → m ≤ n → f m ≡ g m) → least f n ≡ least g n
least_alike f g zero alike = alike 0 (omega arith)
least_alike f g (suc n) alike = ap₂ int_min (least_alike f g n (λ m h. alike m (omega (arith, h))))
    (alike (suc n) (omega arith))

greatest_alike : (f g : ℕ → ℤ) (n : ℕ) → ((m : ℕ) → m ≤ n → f m ≡ g m) → greatest f n ≡ greatest g n
greatest_alike f g zero alike = alike 0 (omega arith)
greatest_alike f g (suc n) alike = ap₂ int_max (greatest_alike f g n (λ m h. alike m (omega (arith, h))))
    (alike (suc n) (omega arith))

-- the first of two records is made no later than the second
pub partner_before : (table : Table) (side : Side) (a b : ℕ) → AgreesWithPartner table side a b → a ≤ b
partner_before table side a b pair =
    let less = (records_in_order table side pair.first_number pair.second_number a b pair.first_record
    pair.second_record).0 pair.partner.below in
    omega (arith, less)

out-placed : (mirrored : Bool) (side : Side) (p : ℤ) → out (turned_side mirrored side) (placed mirrored p)
    ≡ out side p
out-placed false side p = refl
out-placed true L p = refl
out-placed true R p = omega (arith, ints)

head_of_image : (change : Change) (o p : Option Configuration) → AreImages change o p
    → head_of p ≡ placed change.mirrored (head_of o)
head_of_image change None None images = sym (placed-zero change.mirrored)
head_of_image change (Some c) (Some d) images = images.head
head_of_image change o p images = absurd images

counted_of_image : (change : Change) (to : Next) (p q : ℤ) → q ≡ placed change.mirrored p
    → counted_position (changed_next change to) q ≡ placed change.mirrored (counted_position to p)
counted_of_image change (State s) p q e = e
counted_of_image change Halt p q e = sym (placed-zero change.mirrored)

counted_in_image : (change : Change) (o p : Option Configuration) → AreImages change o p
    → counted_position_in p ≡ placed change.mirrored (counted_position_in o)
counted_in_image change None None images = sym (placed-zero change.mirrored)
counted_in_image change (Some c) (Some d) images = ap (λ s. counted_position s d.head) images.state
    ∙ counted_of_image change c.state c.head d.head images.head
counted_in_image change o p images = absurd images

-- the ends of a span change places where left and right are swapped

min_of_neg : (a b : ℤ) → int_min (neg_ℤ a) (neg_ℤ b) ≡ neg_ℤ (int_max a b)
min_of_neg a b = omega (arith, ints, clamps)

max_of_neg : (a b : ℤ) → int_max (neg_ℤ a) (neg_ℤ b) ≡ neg_ℤ (int_min a b)
max_of_neg a b = omega (arith, ints, clamps)

least_of_neg : (f : ℕ → ℤ) (n : ℕ) → least (λ m. neg_ℤ (f m)) n ≡ neg_ℤ (greatest f n)
least_of_neg f zero = refl
least_of_neg f (suc n) = ap (λ x. int_min x (neg_ℤ (f (suc n)))) (least_of_neg f n)
    ∙ min_of_neg (greatest f n) (f (suc n))

greatest_of_neg : (f : ℕ → ℤ) (n : ℕ) → greatest (λ m. neg_ℤ (f m)) n ≡ neg_ℤ (least f n)
greatest_of_neg f zero = refl
greatest_of_neg f (suc n) = ap (λ x. int_max x (neg_ℤ (f (suc n)))) (greatest_of_neg f n)
    ∙ max_of_neg (least f n) (f (suc n))

cells_of_neg : (low high : ℤ) → cells_between (neg_ℤ high) (neg_ℤ low) ≡ cells_between low high
cells_of_neg low high =
    let e : neg_ℤ low -ℤ neg_ℤ high ≡ high -ℤ low = omega (arith, ints) in
    ap (λ d. unsigned_abs d + 1) e

cells_placed : (mirrored : Bool) (f : ℕ → ℤ) (n : ℕ)
    → cells_between (least (λ m. placed mirrored (f m)) n) (greatest (λ m. placed mirrored (f m)) n)
    ≡ cells_between (least f n) (greatest f n)
cells_placed false f n = refl
cells_placed true f n = ap₂ cells_between (least_of_neg f n) (greatest_of_neg f n)
    ∙ cells_of_neg (least f n) (greatest f n)

-- where a cell of the image is, as far from the head
shifted : (change : Change) (x p q p' q' : ℤ) → p' ≡ placed change.mirrored p → q' ≡ placed change.mirrored q
    → x +ℤ (q' -ℤ p') ≡ placed change.mirrored (placed change.mirrored x +ℤ (q -ℤ p))
shifted change x p q p' q' at_p at_q =
    ap (λ d. x +ℤ d) (ap₂ ◌-ℤ◌ at_q at_p ∙ sym (placed-subtract change.mirrored q p))
    ∙ ap (λ y. y +ℤ placed change.mirrored (q -ℤ p)) (sym (placed-twice change.mirrored x))
    ∙ sym (placed-add change.mirrored (placed change.mirrored x) (q -ℤ p))

-- each configuration up to step n is the image of the other machine's
abbrev pub AreImagesTo : Change → Table → Table → ℕ → Type 0
AreImagesTo change one two n = (m : ℕ) → m ≤ n → AreImages change (conf one m) (conf two m)

module _ (change : Change) (one two : Table) (n : ℕ) (images : AreImagesTo change one two n) where
  image_at : (m : ℕ) → m ≤ n → (c : Configuration) → conf one m ≡ Some c → ImageOf change c (conf two m)
  image_at m h c e = image_of change (conf one m) (conf two m) c (images m h) e

  at_n : (c : Configuration) → conf one n ≡ Some c → ImageOf change c (conf two n)
  at_n c e = image_at n (omega arith) c e

  out_image : (side : Side) (m : ℕ) → m ≤ n
      → out (turned_side change.mirrored side) (head_at two m) ≡ out side (head_at one m)
  unfolding head_at
  out_image side m h =
      ap (out (turned_side change.mirrored side))
      (head_of_image change (conf one m) (conf two m) (images m h))
      ∙ out-placed change.mirrored side (head_of (conf one m))

  counted_image : (m : ℕ) → m ≤ n → counted_head two m ≡ placed change.mirrored (counted_head one m)
  unfolding counted_head
  counted_image m h = counted_in_image change (conf one m) (conf two m) (images m h)

  pub span_image : span two n ≡ span one n
  span_image = ap₂ cells_between
      (least_alike (counted_head two) (λ m. placed change.mirrored (counted_head one m)) n counted_image)
      (greatest_alike (counted_head two) (λ m. placed change.mirrored (counted_head one m)) n counted_image)
      ∙ cells_placed change.mirrored (counted_head one) n

  pub inside_image : (bounds : Bounds) → Inside one bounds n → Inside two bounds n
  inside_image bounds inside =
      let there = at_n inside.here inside.exists in
      record {
        here = there.there;
        exists = there.exists;
        within_steps = inside.within_steps;
        within_cells = rw span_image inside.within_cells;
      }

  pub score_image : (ones : ℕ) → IsScore one n ones → IsScore two n ones
  score_image ones counts =
      let there = at_n counts.here counts.exists in
      record {
        here = there.there;
        exists = there.exists;
        counted = counts.counted ∙ sym there.image.scores;
      }

  pub same_image : (a : ℕ) → a ≤ n → Same one a n → Same two a n
  same_image a h same =
      let first = image_at a h same.here same.at_first in
      let second = at_n same.here same.at_second in
      let equal = image_is_one change same.here second.there first.there second.image first.image in
      record {
        here = first.there;
        at_first = first.exists;
        at_second = second.exists ∙ ap Some equal;
      }

  record_image : (side : Side) (j m : ℕ) → m ≤ n → IsRecord one side j m
      → IsRecord two (turned_side change.mirrored side) j m
  record_image side j m h made =
      let there = image_at m h made.here made.exists in
      record {
        positive = made.positive;
        here = there.there;
        exists = there.exists;
        on_position = ap (out (turned_side change.mirrored side)) there.image.head
            ∙ out-placed change.mirrored side made.here.head ∙ made.on_position;
        is_first = λ k less e. made.is_first k less (sym (out_image side k (omega (arith, h, less))) ∙ e);
      }

  far_image : (side : Side) (a : ℕ) → a ≤ n
      → far two (turned_side change.mirrored side) a n ≡ far one side a n
  far_image side a h = least_alike
      (λ u. out (turned_side change.mirrored side) (head_at two (u + a)))
      (λ u. out side (head_at one (u + a))) (n - a) (λ u k. out_image side (u + a) (omega (arith, h, k)))

  agree_image : (side : Side) (a : ℕ) → a ≤ n → Agree one side a n
      → Agree two (turned_side change.mirrored side) a n
  agree_image side a h agree = record {
    first = first.there;
    second = second.there;
    at_first = first.exists;
    at_second = second.exists;
    same_state = first.image.state ∙ ap (changed_next change) agree.same_state ∙ sym second.image.state;
    same_cells = cells;
  } where
    first : ImageOf change agree.first (conf two a)
    first = image_at a h agree.first agree.at_first

    second : ImageOf change agree.second (conf two n)
    second = at_n agree.second agree.at_second

    out_back : (x : ℤ) → out (turned_side change.mirrored side) x ≡ out side (placed change.mirrored x)
    out_back x = ap (out (turned_side change.mirrored side)) (sym (placed-twice change.mirrored x))
        ∙ out-placed change.mirrored side (placed change.mirrored x)

    cells : (x : ℤ) → far two (turned_side change.mirrored side) a n
        ≤ℤ out (turned_side change.mirrored side) x
        → out (turned_side change.mirrored side) x ≤ℤ out (turned_side change.mirrored side) first.there.head
        → cell first.there.tape x ≡ cell second.there.tape (x +ℤ (second.there.head -ℤ first.there.head))
    cells x near within =
        let y = placed change.mirrored x in
        let near_y : far one side a n ≤ℤ out side y =
        rw (← far_image side a h) (rw (← out_back x) near) in
        let head : out (turned_side change.mirrored side) first.there.head ≡ out side agree.first.head =
        ap (out (turned_side change.mirrored side)) first.image.head
        ∙ out-placed change.mirrored side agree.first.head in
        let within_y : out side y ≤ℤ out side agree.first.head = rw (← out_back x) (rw (← head) within) in
        cell_at change agree.first first.there first.image y x (sym (placed-twice change.mirrored x))
        ∙ ap change.symbols.new (agree.same_cells y near_y within_y)
        ∙ sym (cell_at change agree.second second.there second.image
        (y +ℤ (agree.second.head -ℤ agree.first.head)) _
        (shifted change x agree.first.head agree.second.head first.there.head second.there.head
        first.image.head second.image.head))

  extent_image : (side : Side) (a : ℕ) (extent : Extent) → a ≤ n → IsExtent one side a n extent
      → IsExtent two (turned_side change.mirrored side) a n extent
  extent_image side a extent h says = record {
    shift = rw (out_image side a h, out_image side n (omega arith)) says.shift;
    length = rw (out_image side a h, far_image side a h) says.length;
  }

  pub says_image : (side : Side) (a : ℕ) (extent : Option Extent) → a ≤ n → SaysExtent one side a n extent
      → SaysExtent two (turned_side change.mirrored side) a n extent
  says_image side a None h says = tt
  says_image side a (Some extent) h says = extent_image side a extent h says

  pub tells_image : (side : Side) (a : ℕ) (extent : Option Extent) → a ≤ n → TellsExtent one side a n extent
      → TellsExtent two (turned_side change.mirrored side) a n extent
  tells_image side a None h tells = absurd tells
  tells_image side a (Some extent) h tells = extent_image side a extent h tells

  pub pair_image : (side : Side) (a : ℕ) → AgreeingRecords one side a n
      → AgreeingRecords two (turned_side change.mirrored side) a n
  pair_image side a pair =
      let in_order = pair.in_order in
      record {
        in_order = in_order;
        first_number = pair.first_number;
        second_number = pair.second_number;
        first_record = record_image side pair.first_number a (omega (arith, in_order)) pair.first_record;
        second_record = record_image side pair.second_number n (omega arith) pair.second_record;
        agree = agree_image side a (omega (arith, in_order)) pair.agree;
      }

  pub cycle_image : (bounds : Bounds) (a : ℕ) → IsCycle one bounds a n → IsCycle two bounds a n
  cycle_image bounds a cycle =
      record {
        partner = cycle.partner;
        inside = inside_image bounds cycle.inside;
        same = same_image a (omega (arith, cycle.partner.below)) cycle.same;
      }

  pub translation_image : (bounds : Bounds) (side : Side) (a : ℕ) → IsTranslation one bounds side a n
      → IsTranslation two bounds (turned_side change.mirrored side) a n
  translation_image bounds side a found =
      let pair = found.pair in
      let h = partner_before one side a n pair in
      record {
        pair = record {
          first_number = pair.first_number;
          second_number = pair.second_number;
          partner = pair.partner;
          first_record = record_image side pair.first_number a h pair.first_record;
          second_record = record_image side pair.second_number n (omega arith) pair.second_record;
          agree = agree_image side a h pair.agree;
        };
        inside = inside_image bounds found.inside;
      }

-- where each configuration is the image of the other machine's, and the other way round
module _ (change undo : Change) (one two : Table) (there : (n : ℕ) → AreImagesTo change one two n)
    (here : (n : ℕ) → AreImagesTo undo two one n) (bounds : Bounds) where
  pub no_cycle_image : HasNoCycle one bounds → HasNoCycle two bounds
  no_cycle_image none a t cycle = none a t (cycle_image undo two one t (here t) bounds a cycle)

  pub first_cycle_image : (a t : ℕ) → IsFirstCycle one bounds a t → IsFirstCycle two bounds a t
  first_cycle_image a t first = record {
    cycle = cycle_image change one two t (there t) bounds a first.cycle;
    first = λ b u other. first.first b u (cycle_image undo two one u (here u) bounds b other);
  }

  pub first_translation_image : (side : Side) (a b : ℕ) → IsFirstTranslation one bounds side a b
      → IsFirstTranslation two bounds (turned_side change.mirrored side) a b
  first_translation_image side a b first = record {
    translation = translation_image change one two b (there b) bounds side a first.translation;
    first = λ other c d found. first.first (turned_side undo.mirrored other) c d
        (translation_image undo two one d (here d) bounds other c found);
  }

pub halts_image : (change : Change) (table changed : Table) → IsChanged change table changed → (n : ℕ)
    → HaltsAt table n → HaltsAt changed n
halts_image change table changed is n halts =
    let there = image_of change (conf table n) (conf changed n) halts.last
    (conf_image change table changed is n) halts.exists in
    record {
      last = there.there;
      exists = there.exists;
      no_next = no_image change (next table halts.last) (next changed there.there)
          (next_image change table changed is halts.last there.there there.image) halts.no_next;
    }
