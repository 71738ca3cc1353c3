-- The kept record of a side in registers, compared with the next.
use Rattle.std.proofs.Common.{◌≡◌, ◌≢◌, ℕ, zero, suc, ◌*◌, ◌%◌, ◌^◌, ◌<◌, min, max, inl, inr}
use Rattle.std.proofs.Common.{ℤ, pos, neg_ℤ, ◌+ℤ◌, ◌-ℤ◌, ◌≤ℤ◌, ap, sym, subst, ◌∙◌, arith, w64, to_z, of_z}
use Rattle.std.proofs.Common.{FitsSigned, rules}
use Rattle.std.specs.Prelude.{◌↔◌}
use Rattle.std.specs.Int.{int_min}
use Rattle.std.proofs.lemmas.Int.{ints, clamps}
use Rattle.std.proofs.lemmas.Bool.{cases_lt}
use Rattle.std.proofs.Math.Nat.{pow-le-pow_right}
use Rattle.bb_machine.specs.declared.entry.Next.TheVariants.{State}
use Rattle.bb_machine.specs.Limits.{Bounds}
use Rattle.bb_machine.specs.Machine.{Table}
use Rattle.bb_tape.specs.Content.{Content}
use Rattle.bb_tape.specs.TapeView.{TapeView, visited, AgreesFrom, IsInside, IsStretch}
use Rattle.bb_sim.specs.CellsBetween.{cells_between}
use Rattle.bb_sim.specs.Runner.{position_of, state_of}
use Rattle.bb_cert.specs.declared.records.Records.{Records}
use Rattle.bb_cert.specs.declared.verdict.Side.{Side}
use Rattle.bb_cert.specs.declared.verdict.Side.TheVariants.{L, R}
use Rattle.bb_cert.specs.records.Follow.{HasSameCells, IsComparable, IsKeptInStateOf, nearer, passed}
use Rattle.bb_cert.proofs.Facts.{IsCompared, compared, comparable_wider, seen_at}
use Rattle.bb_registers.specs.declared.run.RegisterRun.{RegisterRun}
use Rattle.bb_registers.specs.BitCells.{IsInWord, IsStretchInWord, bits_content}
use Rattle.bb_decide.specs.declared.register_records.RegisterRecords.{RegisterRecords}
use Rattle.bb_decide.specs.inside.RegisterRecords.{CanCompareCells, CanCompareRecord, KeepsRecord, KnowsHeads, nearer_bit}

-- the lesser and the greater of two bits
pub pow_min : (a b : ℕ) → min (2 ^ a) (2 ^ b) ≡ 2 ^ min a b
pow_min a b = elim (cases_lt a b) [
  | inl less ↦
      let e : min a b ≡ a = omega (arith, less) in
      let f = pow-le-pow_right {n = 2} (omega arith) {i = a} {j = b} (omega (arith, less)) in
      rw e (omega (arith, f))
  | inr more ↦
      let e : min a b ≡ b = omega (arith, more) in
      let f = pow-le-pow_right {n = 2} (omega arith) {i = b} {j = a} more in
      rw e (omega (arith, f))
]

pub pow_max : (a b : ℕ) → max (2 ^ a) (2 ^ b) ≡ 2 ^ max a b
pow_max a b = elim (cases_lt a b) [
  | inl less ↦
      let e : max a b ≡ b = omega (arith, less) in
      let f = pow-le-pow_right {n = 2} (omega arith) {i = a} {j = b} (omega (arith, less)) in
      rw e (omega (arith, f))
  | inr more ↦
      let e : max a b ≡ a = omega (arith, more) in
      let f = pow-le-pow_right {n = 2} (omega arith) {i = b} {j = a} more in
      rw e (omega (arith, f))
]

-- a side takes in the next position
pub keeps_passed : {table : Table} {bounds : Bounds} (side : Side) {held : RegisterRecords} {records : Records}
    {saved : TapeView} → KeepsRecord table bounds side held records saved → (head place : ℕ) → place < 64
    → head ≡ 2 ^ place → (p : ℤ) → p ≡ pos place -ℤ pos 32 → (new : RegisterRecords)
    → new ≡ record held { nearest = nearer_bit side held.nearest head }
    → KeepsRecord table bounds side new (passed records p) saved
keeps_passed {table} {bounds} R {held} {records} {saved} keeps head place within is p at new new_is =
    rw new_is (record {
      is_run = keeps.is_run;
      kept = keeps.kept;
      saved_is = keeps.saved_is;
      side_is = keeps.side_is;
      place = min keeps.place place;
      within = omega (arith, within);
      nearest = ap (λ n. min n head) keeps.nearest ∙ ap (min (2 ^ keeps.place)) is ∙ pow_min keeps.place place;
      nearest_is = ap (λ s. nearer s records.nearest p) keeps.side_is
          ∙ omega (arith, ints, clamps, keeps.nearest_is, at);
    })
keeps_passed {table} {bounds} L {held} {records} {saved} keeps head place within is p at new new_is =
    rw new_is (record {
      is_run = keeps.is_run;
      kept = keeps.kept;
      saved_is = keeps.saved_is;
      side_is = keeps.side_is;
      place = max keeps.place place;
      within = omega (arith, within, keeps.within);
      nearest = ap (λ n. max n head) keeps.nearest ∙ ap (max (2 ^ keeps.place)) is ∙ pow_max keeps.place place;
      nearest_is = ap (λ s. nearer s records.nearest p) keeps.side_is
          ∙ omega (arith, ints, clamps, keeps.nearest_is, at);
    })

same_third : (s t : ℕ) → 9 * s ≡ 9 * t → s ≡ t
same_third s t e = omega (arith, e)

module _ {table : Table} {bounds : Bounds} {side : Side} {held : RegisterRecords} {run : RegisterRun}
    (comparison : CanCompareRecord table bounds side held run) where
  kept_state : state_of comparison.records.kept ≡ State comparison.keeps.is_run.at.state
  kept_state = ap state_of comparison.keeps.kept ∙ comparison.keeps.is_run.at.state_is

  -- the state is that of the kept record just where the entries lead to it
  pub in_same_state : position_of comparison.records.kept ≢ pos 0
      → held.kept.registers.entry % 64 ≡ run.registers.entry % 64
      → IsKeptInStateOf comparison.records comparison.is_run.runner
  in_same_state some same =
      let states : comparison.keeps.is_run.at.state ≡ comparison.is_run.at.state =
      same_third _ _ (sym comparison.keeps.is_run.at.entry ∙ same ∙ comparison.is_run.at.entry) in (
        some,
        kept_state ∙ ap State states ∙ sym comparison.is_run.at.state_is,
        λ halts. let e = kept_state in cc,
      )

  pub in_other_state : held.kept.registers.entry % 64 ≢ run.registers.entry % 64
      → IsKeptInStateOf comparison.records comparison.is_run.runner → ⊥
  in_other_state differ kept =
      let e = kept_state in
      let f = comparison.is_run.at.state_is in
      let same : State comparison.keeps.is_run.at.state ≡ State comparison.is_run.at.state = sym e ∙ kept.1 ∙ f in
      let states : comparison.keeps.is_run.at.state ≡ comparison.is_run.at.state = cc in
      differ (comparison.keeps.is_run.at.entry ∙ ap (λ n. 9 * n) states ∙ sym comparison.is_run.at.entry)

-- numbers that are small are computed as they are
pub small_is : (p : ℤ) → neg_ℤ (pos 32) ≤ℤ p → p ≤ℤ pos 32 → to_z w64 (of_z w64 p) ≡ p
small_is p low high = omega (arith, ints, low, high)

pub small_fits : (z : ℤ) → neg_ℤ (pos 100) ≤ℤ z → z ≤ℤ pos 100 → FitsSigned w64 z
small_fits z low high = search (rules, arith, ints)

abbrev pub moved_by_code : ℤ → ℤ → ℤ → ℤ
moved_by_code from head kept =
    to_z w64 (of_z w64 from) +ℤ to_z w64 (of_z w64 (to_z w64 (of_z w64 head) -ℤ to_z w64 (of_z w64 kept)))

pub moved_is : (from head kept : ℤ) → IsInWord kept → IsInWord head → neg_ℤ (pos 32) ≤ℤ from → from ≤ℤ pos 32
    → moved_by_code from head kept ≡ from +ℤ (head -ℤ kept)
moved_is from head kept k h low high = omega (arith, ints, k, h, low, high)

pub moved_fits : (from head kept : ℤ) → IsInWord kept → IsInWord head → neg_ℤ (pos 32) ≤ℤ from → from ≤ℤ pos 32
    → FitsSigned w64 (moved_by_code from head kept)
moved_fits from head kept k h low high =
    rw (moved_is from head kept k h low high) (small_fits (from +ℤ (head -ℤ kept)) (omega (arith, ints, k, h, low, high)) (omega (arith, ints, k, h, low, high)))

module _ {table : Table} {bounds : Bounds} {side : Side} {held : RegisterRecords} {run : RegisterRun} {kept head : ℤ}
    (at : KnowsHeads table bounds side held run kept head) where
  pub kept_at : kept ≡ pos at.comparison.keeps.is_run.at.place -ℤ pos 32
  kept_at = at.kept_is ∙ ap position_of at.comparison.keeps.kept ∙ at.comparison.keeps.is_run.at.position

  pub kept_in_word : IsInWord kept
  kept_in_word =
      let h = kept_at in
      let below = at.comparison.keeps.is_run.at.within in
      (omega (arith, ints, h), omega (arith, ints, h, below))

  pub head_in_word : IsInWord head
  head_in_word =
      let h : head ≡ pos at.comparison.is_run.at.place -ℤ pos 32 = at.head_is ∙ at.comparison.is_run.at.position in
      let below = at.comparison.is_run.at.within in
      (omega (arith, ints, h), omega (arith, ints, h, below))

stretch_in_word : (view : TapeView) (from : ℤ) (len : ℕ) → IsInWord view.low → IsInWord view.high → 0 < len
    → IsStretch view from len → IsStretchInWord from len
stretch_in_word view from zero low high some inside = absurd (omega (arith, some))
stretch_in_word view from (suc k) low high some inside =
    let first : IsInside view (from +ℤ pos 0) = inside 0 (omega arith) in
    let last : IsInside view (from +ℤ pos k) = inside k (omega arith) in
    (omega (arith, ints, low.0, first), omega (arith, ints, high.1, last))

module _ {table : Table} {bounds : Bounds} {side : Side} {held : RegisterRecords} {run : RegisterRun} {kept head : ℤ}
    (can : CanCompareCells table bounds side held run kept head) where
  abbrev comparison : CanCompareRecord table bounds side held run
  comparison = can.known.comparison

  abbrev saved_wider : TapeView
  saved_wider = visited comparison.saved comparison.records.nearest

  comparable : IsComparable comparison.records comparison.is_run.runner saved_wider comparison.is_run.view
  comparable = comparable_wider (comparison.ready.comparable can.same)

  pub nearest_in_word : IsInWord comparison.records.nearest
  nearest_in_word = (
    omega (arith, ints, comparison.keeps.nearest_is),
    omega (arith, ints, comparison.keeps.nearest_is, comparison.keeps.within),
  )

  module _ (nearest from other : ℤ) (len : ℕ) (nearest_is : nearest ≡ comparison.records.nearest)
      (from_is : from ≡ int_min nearest kept) (other_is : other ≡ from +ℤ (head -ℤ kept))
      (len_is : len ≡ cells_between nearest kept) where
    is_compared : IsCompared comparison.records comparison.is_run.runner saved_wider comparison.is_run.view from other len
    is_compared =
        compared comparable (seen_at comparison.saved comparison.records.nearest)
        (from_is ∙ ap (λ n. int_min n kept) nearest_is ∙ ap (int_min comparison.records.nearest) can.known.kept_is)
        (other_is ∙ ap (λ n. from +ℤ (n -ℤ kept)) can.known.head_is
        ∙ ap (λ n. from +ℤ (position_of comparison.is_run.runner -ℤ n)) can.known.kept_is)
        (len_is ∙ ap (λ n. cells_between n kept) nearest_is ∙ ap (cells_between comparison.records.nearest) can.known.kept_is)

    some_len : 0 < len
    some_len = omega (arith, len_is)

    saved_low : IsInWord saved_wider.low
    saved_low =
        let low : IsInWord comparison.saved.low = rw comparison.keeps.saved_is comparison.keeps.is_run.window_is.low_in_word in
        (omega (arith, ints, clamps, low, nearest_in_word), omega (arith, ints, clamps, low, nearest_in_word))

    saved_high : IsInWord saved_wider.high
    saved_high =
        let high : IsInWord comparison.saved.high = rw comparison.keeps.saved_is comparison.keeps.is_run.window_is.high_in_word in
        (omega (arith, ints, clamps, high, nearest_in_word), omega (arith, ints, clamps, high, nearest_in_word))

    pub here_in_word : IsStretchInWord from len
    here_in_word = stretch_in_word saved_wider from len saved_low saved_high some_len is_compared.here

    pub there_in_word : IsStretchInWord other len
    there_in_word =
        stretch_in_word comparison.is_run.view other len comparison.is_run.window_is.low_in_word comparison.is_run.window_is.high_in_word some_len
        is_compared.there

    -- the bits that are compared are those of the two tapes
    pub same_cells : AgreesFrom (bits_content held.kept.registers.bits) from (bits_content run.registers.bits) other len
        ↔ HasSameCells comparison.records comparison.is_run.runner comparison.saved.content comparison.is_run.view.content
    same_cells =
        let saved_is : comparison.saved.content ≡ bits_content held.kept.registers.bits =
        ap (λ (s : TapeView). s.content) comparison.keeps.saved_is ∙ comparison.keeps.is_run.at.content in
        subst (λ (c : Content). AgreesFrom c from (bits_content run.registers.bits) other len
        ↔ HasSameCells comparison.records comparison.is_run.runner comparison.saved.content comparison.is_run.view.content) saved_is
        (subst (λ (c : Content). AgreesFrom comparison.saved.content from c other len
        ↔ HasSameCells comparison.records comparison.is_run.runner comparison.saved.content comparison.is_run.view.content) comparison.is_run.at.content
        is_compared.same)
