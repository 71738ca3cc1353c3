use Rattle.std.proofs.Common.{◌∙◌, ap, sym}
use Rattle.bb_sim.specs.Runner.{position_of, state_of, steps_of}
use Rattle.bb_decide.proofs.RegisterCells.{small_is}
use Rattle.bb_decide.proofs.RegisterHandover.{same_place}
use Rattle.bb_decide.proofs.register_records.RegisterRecords.move_to_tape.Goals as goal

pub move_to_tape-requires-clause-run : goal.move_to_tape-requires-clause-run
move_to_tape-requires-clause-run g c = c.requires.keeps.2.is_run

pub returns-clause-same : goal.returns-clause-same
returns-clause-same g c records saved keeps =
    let made = c.in-Ok.ensures in
    let steps = made.steps ∙ keeps.is_run.steps_is in
    let place = same_place made.stands keeps.is_run.stands steps in
    record {
      side = sym keeps.side_is;
      state = place.0 ∙ ap state_of (sym keeps.kept);
      position = place.1 ∙ ap position_of (sym keeps.kept);
      steps = steps ∙ ap steps_of (sym keeps.kept);
      nearest = small_is _ c.position_of_bit.ensures.low c.position_of_bit.ensures.high
          ∙ c.position_of_bit.ensures.is keeps.place keeps.within keeps.nearest ∙ sym keeps.nearest_is;
      saved = made.same keeps.is_run ∙ sym keeps.saved_is;
    }
