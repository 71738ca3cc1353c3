-- Records of a run among 64 positions: what is compared lies there.
use Rattle.std.proofs.Common.{ℕ, suc, zero, ◌<◌, ℤ, arith}
use Rattle.std.proofs.lemmas.Int.{clamps, ints}
use Rattle.bb_tape.specs.TapeView.{IsInside, IsStretch, TapeView, visited}
use Rattle.bb_sim.specs.declared.runner.Runner.{Runner}
use Rattle.bb_sim.specs.Runner.{position_of}
use Rattle.bb_registers.specs.declared.cells.BitCells.{BitCells}
use Rattle.bb_registers.specs.BitCells.{IsInWord, IsStretchInWord}
use Rattle.bb_cert.specs.declared.records.Records.{Records}
use Rattle.bb_cert.specs.records.Follow.{IsNarrow}
use Rattle.bb_cert.specs.records.Word.{IsComparableInWord}
use Rattle.bb_cert.proofs.record_lemmas.Stretches.{AreNarrow}

module _ (view : TapeView) (low : IsInWord view.low) (high : IsInWord view.high) where
  pub inside_in_word : (p : ℤ) → IsInside view p → IsInWord p
  inside_in_word p inside = omega (arith, ints, low, high, inside)

  pub stretch_in_word : (from : ℤ) (len : ℕ) → 0 < len → IsStretch view from len → IsStretchInWord from len
  stretch_in_word from zero some stretch = absurd (omega (arith, some))
  stretch_in_word from (suc len) some stretch =
      let first = stretch 0 (omega arith) in
      let last = stretch len (omega arith) in
      omega (arith, ints, low, high, first, last)

pub narrow_in_word : (p : ℤ) → IsInWord p → IsNarrow p
narrow_in_word p word = omega (arith, ints, word)

module _ {records : Records} {runner : Runner} {saved run : BitCells}
    (is : IsComparableInWord records runner saved run) where
  pub kept_in_word : IsInWord (position_of records.kept)
  kept_in_word = inside_in_word is.run_view is.low_in_word is.high_in_word _
      (omega (arith, ints, is.comparable.low, is.comparable.high, is.comparable.number_saved))

  pub narrow_there : AreNarrow records runner
  narrow_there = record {
    nearest = narrow_in_word _ (inside_in_word is.run_view is.low_in_word is.high_in_word _ is.comparable.far_seen);
    kept = narrow_in_word _ kept_in_word;
    head = narrow_in_word _ (inside_in_word is.run_view is.low_in_word is.high_in_word _ is.comparable.top_seen);
  }

  -- what is saved, widened to the nearest position, is there too
  pub within_run : IsInWord (visited is.saved_view records.nearest).low × IsInWord (visited is.saved_view records.nearest).high
  within_run = omega (
    arith,
    ints,
    clamps,
    is.low_in_word,
    is.high_in_word,
    is.comparable.low,
    is.comparable.high,
    is.comparable.far_seen,
    is.comparable.number_saved,
  )
