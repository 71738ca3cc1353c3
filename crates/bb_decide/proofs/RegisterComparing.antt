-- What a comparison at the record that a run in registers has just made comes to.
use Rattle.std.proofs.Common.{◌≡◌, ℕ, ◌+◌, ◌*◌, ◌<◌, inl, inr, Some, None, pos, ◌-ℤ◌, refl}
use Rattle.std.proofs.Common.{ap, sym, ◌∙◌, arith}
use Rattle.std.specs.Int.RustNames.{unsigned_abs}
use Rattle.std.proofs.lemmas.Int.{ints}
use Rattle.bb_machine.specs.Limits.{Bounds}
use Rattle.bb_machine.specs.Machine.{Table}
use Rattle.bb_sim.specs.Runner.{position_of, steps_of}
use Rattle.bb_cert.specs.declared.verdict.Extent.{Extent}
use Rattle.bb_cert.specs.declared.verdict.Side.{Side}
use Rattle.bb_cert.specs.declared.verdict.Verdict.TheVariants.{Translated}
use Rattle.bb_cert.specs.records.Follow.{AgreesWithKept, number_of, top_of, with_kept}
use Rattle.bb_cert.proofs.Facts.{distance_is, length_is, out_as_far}
use Rattle.bb_registers.specs.declared.run.RegisterRun.{RegisterRun}
use Rattle.bb_decide.specs.declared.register_records.RegisterRecords.{RegisterRecords}
use Rattle.bb_decide.specs.inside.RegisterRecords.{CanCompareRecord, HasCompared}

module _ {table : Table} {bounds : Bounds} {side : Side} {held : RegisterRecords} {run : RegisterRun}
    (can : CanCompareRecord table bounds side held run) where
  -- the two agree
  pub compared_and_agrees : AgreesWithKept can.records can.is_run.runner can.saved can.is_run.view → (extent : Extent)
      → extent.shift ≡ unsigned_abs (position_of can.is_run.runner -ℤ position_of can.records.kept)
      → extent.length ≡ unsigned_abs (position_of can.records.kept -ℤ can.records.nearest) + 1
      → HasCompared can held (Some (Translated side held.kept.steps run.steps (Some extent)))
  compared_and_agrees agrees extent shift length =
      let comparable = can.ready.comparable agrees.0 in
      let first : held.kept.steps ≡ steps_of can.records.kept =
      can.keeps.is_run.steps_is ∙ ap steps_of (sym can.keeps.kept) in
      record {
        records = can.records;
        saved = can.saved;
        keeps = can.keeps;
        compared = (
          agrees,
          record {
            extent = extent;
            is = rw (can.keeps.side_is, first, can.is_run.steps_is) refl;
            lies = record {
              shift = ap pos shift
                  ∙ distance_is can.records.side (position_of can.records.kept) (position_of can.is_run.runner) comparable.later;
              length = ap pos length
                  ∙ length_is can.records.side can.records.nearest (position_of can.records.kept) comparable.order;
            };
          },
        );
      }

  module _ (head kept : ℕ) (head_is : head ≡ unsigned_abs (position_of can.is_run.runner))
      (kept_is : kept ≡ unsigned_abs (position_of can.records.kept))
      (differ : AgreesWithKept can.records can.is_run.runner can.saved can.is_run.view → ⊥) where
    top : pos head ≡ top_of can.records can.is_run.runner
    top = ap pos head_is ∙ out_as_far can.records.side (position_of can.is_run.runner) can.ready.head_out

    number : pos kept ≡ number_of can.records
    number = ap pos kept_is ∙ out_as_far can.records.side (position_of can.records.kept) can.ready.kept_out

    -- they do not, and the kept one stays
    pub compared_and_stays : head < 2 * kept → HasCompared can held None
    compared_and_stays less = record {
      records = can.records;
      saved = can.saved;
      keeps = can.keeps;
      compared = (differ, inr (omega (arith, ints, top, number, less), refl, inl refl));
    }

    -- or the new one is kept
    pub compared_and_keeps : (head < 2 * kept → ⊥)
        → HasCompared can (record { kept = run; nearest = run.registers.head }) None
    compared_and_keeps many = record {
      records = with_kept can.records can.is_run.runner;
      saved = can.is_run.view;
      keeps = record {
        is_run = can.is_run;
        kept = refl;
        saved_is = refl;
        side_is = can.keeps.side_is;
        place = can.is_run.at.place;
        within = can.is_run.at.within;
        nearest = can.is_run.at.head;
        nearest_is = can.is_run.at.position;
      };
      compared = (differ, inl (omega (arith, ints, top, number, many), refl, refl));
    }
