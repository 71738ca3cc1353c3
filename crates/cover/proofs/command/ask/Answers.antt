use Rattle.std.proofs.Common.{◌∙◌, ap, codes, inl, inr, refl, subst}
use Rattle.bb_machine.specs.Limits.{IsAccepted}
use Rattle.bb_command.specs.Command.{is_given, list_bounds}
use Rattle.bb_command.proofs.Facts.{no_fault, rows_given, words_stop}
use Rattle.cover.specs.CommandLine.{form_by}
use Rattle.cover.proofs.CommandLines.{simple, simple_and_free}
use Rattle.cover.proofs.command.ask.Goals as goal

pub returns-in-Err-clause-stop : goal.returns-in-Err-clause-stop
returns-in-Err-clause-stop c = inl (words_stop _ simple simple_and_free _ c.in_ok-program.ensures _ c.in-Err.error
    c.in-Err.ensures.kinds _ c.in_ok-stop_of-in-Err.ensures)

pub returns-in-Err-limits_of-clause-stop : goal.returns-in-Err-limits_of-clause-stop
returns-in-Err-limits_of-clause-stop c =
    let rows = rows_given _ simple simple_and_free _ c.in_ok-program.ensures _ _ c.in-Ok.ensures.matches in
    inr (
      no_fault _ simple simple_and_free _ c.in_ok-program.ensures _ c.in-Ok.ensures.kinds,
      rw rows at c.in-Err-limits_of.ensures.stop,
    )

pub returns-in-Err-machine_of-clause-stop : goal.returns-in-Err-machine_of-clause-stop
returns-in-Err-machine_of-clause-stop c =
    let rows = rows_given _ simple simple_and_free _ c.in_ok-program.ensures _ _ c.in-Ok.ensures.matches in (
      no_fault _ simple simple_and_free _ c.in_ok-program.ensures _ c.in-Ok.ensures.kinds,
      subst IsAccepted (c.in-Ok-limits_of.ensures.ok ∙ ap list_bounds rows) c.show_accepted.ensures.accepted,
      rw rows at c.in-Err-machine_of.ensures.refused,
    )

pub returns-in-Err-machine_of-2-clause-stop : goal.returns-in-Err-machine_of-2-clause-stop
returns-in-Err-machine_of-2-clause-stop c =
    let rows = rows_given _ simple simple_and_free _ c.in_ok-program.ensures _ _ c.in-Ok.ensures.matches in (
      no_fault _ simple simple_and_free _ c.in_ok-program.ensures _ c.in-Ok.ensures.kinds,
      subst IsAccepted (c.in-Ok-limits_of.ensures.ok ∙ ap list_bounds rows) c.show_accepted.ensures.accepted,
      (_, rw rows at c.in-Ok-machine_of.ensures.ok),
      rw rows at c.in-Err-machine_of-2.ensures.refused,
    )

pub returns-clause-asked : goal.returns-clause-asked
returns-clause-asked c =
    let rows = rows_given _ simple simple_and_free _ c.in_ok-program.ensures _ _ c.in-Ok.ensures.matches in
    record {
      no_fault = no_fault _ simple simple_and_free _ c.in_ok-program.ensures _ c.in-Ok.ensures.kinds;
      limits = c.in-Ok-limits_of.ensures.ok ∙ ap list_bounds rows;
      below = rw rows at c.in-Ok-machine_of.ensures.ok;
      form = c.form_of-form.ensures ∙ ap (λ found. form_by (is_given (codes "skeleton") found)) rows;
      unread = c.new.ensures.items;
      unsought = refl;
      line = rw rows at c.in-Ok-machine_of-2.ensures.ok;
      assume = rw rows at c.in_ok-assume.ensures;
      lines = c.has_option-lines.ensures ∙ ap (λ found. is_given (codes "lines") found) rows;
      file = rw rows at c.in_ok-file.ensures;
    }
