use Rattle.std.proofs.Common.{◌+◌, ◌*◌, ◌∙◌, ap, arith, subst, sym}
use Rattle.bb_tape.specs.TapeView.{TapeView}
use Rattle.bb_registers.specs.Registers.{FitsRegisters}
use Rattle.bb_decide.specs.Fingerprint.{fingerprint}
use Rattle.bb_decide.proofs.Halting.{not_in_Z}
use Rattle.bb_decide.proofs.RegisterHandover.{fits_so_far, record_search_as, same_place}
use Rattle.bb_decide.proofs.register_pass.RegisterPass.move_to_bench.Goals as goal

pub move_to_tape-requires-clause-run : goal.move_to_tape-requires-clause-run
move_to_tape-requires-clause-run g c = c.requires.pass.is_run

pub move_to_tape-requires-2-clause-keeps : goal.move_to_tape-requires-2-clause-keeps
move_to_tape-requires-2-clause-keeps g c =
    (c.requires.pass.right_records, c.requires.pass.saved_right, c.requires.pass.keeps_right)

pub move_to_tape-requires-3-clause-keeps : goal.move_to_tape-requires-3-clause-keeps
move_to_tape-requires-3-clause-keeps g c =
    (c.requires.pass.left_records, c.requires.pass.saved_left, c.requires.pass.keeps_left)

pub runner-requires : goal.runner-requires
runner-requires g c = record { run = c.requires.pass.kept_is_run }

pub returns-clause-begun : goal.returns-clause-begun
returns-clause-begun g c =
    let pass = c.requires.pass in
    let key = g.K.FingerprintKeys.key_of c.args.keys.now in
    let made = c.in-Ok.ensures in
    let steps = made.steps ∙ pass.is_run.steps_is in
    let kept_steps = c.runner.ensures.steps ∙ pass.kept_is_run.steps_is in
    let place = same_place made.stands pass.is_run.stands steps in
    let view = made.same pass.is_run in
    record {
      search = record_search_as pass.follows made.stands steps
          (c.in-Ok-move_to_tape.ensures.same pass.right_records pass.saved_right pass.keeps_right)
          (c.in-Ok-move_to_tape-2.ensures.same pass.left_records pass.saved_left pass.keeps_left);
      single_pass = record {
        kept_view = pass.kept_is_run.view;
        search = record {
          stands = made.stands;
          within = rw steps pass.search.within;
          kept_stands = c.runner.ensures.stands pass.kept_is_run;
          partner = rw (steps, kept_steps) pass.search.partner;
          none = rw steps pass.search.none;
        };
        current_is = c.fingerprint_of_bits.ensures ∙ ap (fingerprint key) (sym pass.is_run.at.content)
            ∙ ap (λ (s : TapeView). fingerprint key s.content) (sym view);
        kept_fingerprint_is = c.fingerprint_of_bits-2.ensures ∙ ap (fingerprint key) (sym pass.kept_is_run.at.content);
        next = ap (λ n. 2 * n) (sym c.runner.ensures.steps);
        none_alike = λ p t few looks.
            looks.1 (fits_so_far pass.is_run c.requires.symbols c.requires.states t (omega (arith, steps, few)));
        running = not_in_Z (place.0 ∙ pass.is_run.at.state_is);
        wide = λ fits. c.requires.wide (subst (λ n. FitsRegisters c.args.machine.now (n + 1)) made.steps fits);
      };
    }
