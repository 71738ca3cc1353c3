-- The pair of a verdict has the exact period.
use Rattle.std.proofs.Common.{◌≡◌, ℕ, zero, suc, ◌+◌, ◌-◌, ◌*◌, ◌<◌, ℤ, pos, ◌+ℤ◌, refl, ap, sym, subst}
use Rattle.std.proofs.Common.{◌∙◌, arith}
use Rattle.std.proofs.lemmas.Int.{ints}
use Rattle.bb_machine.specs.Limits.{Bounds}
use Rattle.bb_machine.specs.Machine.{Table}
use Rattle.bb_sim.proofs.Facts.{earlier_is_inside}
use Rattle.bb_cert.specs.declared.verdict.Side.{Side}
use Rattle.bb_cert.specs.declared.verdict.Side.TheVariants.{L, R}
use Rattle.bb_cert.specs.claims.Laws.{AgreeingRecordsGoOn, ShortOfRecord}
use Rattle.bb_cert.specs.records.Agree.{AgreeingRecords}
use Rattle.bb_cert.specs.records.Record.{head_at, out}
use Rattle.bb_cert.proofs.Facts.{head_at-is, records_in_order, stands_on}
use Rattle.bb_decide.specs.Cycle.{IsFirstCycle}
use Rattle.bb_decide.specs.Partner.{IsPartner}
use Rattle.bb_decide.specs.Translation.{AgreesWithPartner, IsFirstTranslation}
use Rattle.laws_of_recurrence.specs.Recurrence.{Repeats}
use Rattle.laws_of_recurrence.specs.Verdicts.{CyclersHaveExactPeriod, TranslatedCyclersHaveExactPeriod}
use Rattle.laws_of_recurrence.proofs.Agreements.{agrees_after_period, record_after_period}
use Rattle.laws_of_recurrence.proofs.Exact.{periods_are_multiples, starts_serve_all_periods}
use Rattle.laws_of_recurrence.proofs.Pairs.{cyclers_repeat, records_repeat}
use Rattle.laws_of_recurrence.proofs.Tapes.{comes_again}
use Rattle.laws_of_recurrence.proofs.Ways.{GoesOut, back_after_period, goes_each_period, has_way}

-- a number between another one and its partner has the same partner
nearer_partner : (p j m : ℕ) → IsPartner p j → p < m → m < j → IsPartner p m
nearer_partner p j m partner above below = record {
  exponent = partner.exponent;
  is_power = partner.is_power;
  below = above;
  greatest = let greatest = partner.greatest in omega (arith, below, greatest);
}

-- ---- cyclers

cycle_is_exact : (table : Table) (bounds : Bounds) (a b period k : ℕ) → IsFirstCycle table bounds a b
    → Repeats table a period → b - a ≡ k * period → b - a ≡ period
cycle_is_exact table bounds a b period zero first repeats times =
    let before = first.cycle.partner.below in
    absurd (omega (arith, times, before))
cycle_is_exact table bounds a b period (suc zero) first repeats times = omega (arith, times)
cycle_is_exact table bounds a b period (suc (suc k)) first repeats times =
    let cycle = first.cycle in
    let before = cycle.partner.below in
    let some = repeats.some in
    let second : b ≡ a + suc (suc k) * period = omega (arith, times, before) in
    let far : suc (suc k) * period ≡ period + (period + k * period) = omega arith in
    let sooner : a + period < b = omega (arith, second, some, far) in
    let same = cycle.same in
    let back : head_at table (a + suc (suc k) * period) ≡ head_at table a =
    ap (head_at table) (sym second) ∙ head_at-is table b same.here same.at_second
    ∙ sym (head_at-is table a same.here same.at_first) in
    let no_later = first.first a (a + period) (record {
      partner = nearer_partner a b (a + period) cycle.partner (omega (arith, some)) sooner;
      inside = earlier_is_inside table bounds (a + period) b (omega (arith, sooner)) cycle.inside;
      same = comes_again table a period repeats (back_after_period table a period (suc k) repeats back);
    }) in
    absurd (omega (arith, sooner, no_later))

pub cyclers_have_exact_period : CyclersHaveExactPeriod
cyclers_have_exact_period table bounds plan a b start period verdict exact =
    let first = verdict.2 in
    let repeats = cyclers_repeat table a b (first.cycle.partner.below, first.cycle.same) in
    let times = periods_are_multiples table start period a (b - a) exact repeats in
    cycle_is_exact table bounds a b period times.0 first
    (starts_serve_all_periods table a (b - a) start period repeats exact.repeats) times.1

-- ---- translated cyclers

-- between records of a side the head goes out on that side, by the difference of their numbers
goes_by : (side other : Side) (x y : ℤ) (i j c : ℕ) → out side x ≡ pos i → out side y ≡ pos j → i < j
    → out other y ≡ out other x +ℤ pos c → (side ≡ other) × (j ≡ i + c)
goes_by L L x y i j c at_x at_y less goes = (refl, omega (arith, ints))
goes_by R R x y i j c at_x at_y less goes = (refl, omega (arith, ints))
goes_by L R x y i j c at_x at_y less goes = absurd (omega (arith, ints))
goes_by R L x y i j c at_x at_y less goes = absurd (omega (arith, ints))

some_of_product : (i j k c : ℕ) → j ≡ i + k * c → i < j → 0 < c
some_of_product i j k zero is less =
    let none : k * 0 ≡ 0 = omega arith in absurd (omega (arith, is, less, none))
some_of_product i j k (suc c) is less = omega arith

agreeing_records : (table : Table) (side : Side) (a b : ℕ) → AgreesWithPartner table side a b
    → AgreeingRecords table side a b
agreeing_records table side a b pair = record {
  in_order = (records_in_order table side pair.first_number pair.second_number a b pair.first_record
      pair.second_record).0 pair.partner.below;
  first_number = pair.first_number;
  second_number = pair.second_number;
  first_record = pair.first_record;
  second_record = pair.second_record;
  agree = pair.agree;
}

translation_is_exact : ShortOfRecord → (table : Table) (bounds : Bounds) (side : Side) (a b period k : ℕ)
    → a < b → IsFirstTranslation table bounds side a b → Repeats table a period → b - a ≡ k * period
    → b - a ≡ period
translation_is_exact short table bounds side a b period zero before first repeats times =
    absurd (omega (arith, times, before))
translation_is_exact short table bounds side a b period (suc zero) before first repeats times =
    omega (arith, times)
translation_is_exact short table bounds side a b period (suc (suc k)) before first repeats times =
    let pair = first.translation.pair in
    let i = pair.first_number in
    let j = pair.second_number in
    let some = repeats.some in
    let second : b ≡ a + suc (suc k) * period = omega (arith, times, before) in
    let far : suc (suc k) * period ≡ period + (period + k * period) = omega arith in
    let sooner : a + period < b = omega (arith, second, some, far) in
    let here = has_way table a (a + period) in
    let whole = goes_each_period table here.side a period here.cells repeats here.way (suc (suc k)) a
    (omega arith) in
    let number = goes_by side here.side (head_at table a) (head_at table b) i j (suc (suc k) * here.cells)
    (stands_on table side i a pair.first_record) (stands_on table side j b pair.second_record)
    pair.partner.below (ap (λ n. out here.side (head_at table n)) second ∙ whole.goes) in
    let way : GoesOut table side a (a + period) here.cells =
    subst (λ s. GoesOut table s a (a + period) here.cells) (sym number.0) here.way in
    let some_cells = some_of_product i j (suc (suc k)) here.cells number.1 pair.partner.below in
    let cells_far : suc (suc k) * here.cells ≡ here.cells + (here.cells + k * here.cells) = omega arith in
    let is_second = number.1 in
    let no_later = first.first side a (a + period) (record {
      pair = record {
        first_number = i;
        second_number = i + here.cells;
        partner = nearer_partner i j (i + here.cells) pair.partner (omega (arith, some_cells))
            (omega (arith, is_second, cells_far, some_cells));
        first_record = pair.first_record;
        second_record = record_after_period short table side i j a b period here.cells (suc k)
            pair.first_record pair.second_record second repeats way;
        agree = agrees_after_period table side a period repeats;
      };
      inside = earlier_is_inside table bounds (a + period) b (omega (arith, sooner)) first.translation.inside;
    }) in
    absurd (omega (arith, sooner, no_later))

pub translated_cyclers_have_exact_period : AgreeingRecordsGoOn → ShortOfRecord
    → TranslatedCyclersHaveExactPeriod
translated_cyclers_have_exact_period go_on short table bounds plan side a b extent start period verdict
    exact =
    let first = verdict.3 in
    let records = agreeing_records table side a b first.translation.pair in
    let repeats = records_repeat go_on table side a b records in
    let times = periods_are_multiples table start period a (b - a) exact repeats in
    translation_is_exact short table bounds side a b period times.0 records.in_order first
    (starts_serve_all_periods table a (b - a) start period repeats exact.repeats) times.1
