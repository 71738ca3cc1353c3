use Rattle.std.proofs.Common.{◌∙◌, ap, codes, inl, inr}
use Rattle.bb_command.specs.Command.{is_given}
use Rattle.bb_command.proofs.Facts.{no_fault, rows_given, words_stop}
use Rattle.recurrence.specs.CommandLine.{pair_bounds}
use Rattle.recurrence.proofs.CommandLines.{simple, simple_and_free}
use Rattle.recurrence.proofs.command.ask.Goals as goal

pub returns-in-Err-clause-stop : goal.returns-in-Err-clause-stop
returns-in-Err-clause-stop c = inl (words_stop _ simple simple_and_free _ c.in_ok-program.ensures _
    c.in-Err.error c.in-Err.ensures.kinds _ c.in_ok-stop_of-in-Err.ensures)

pub returns-in-Err-limits_of-clause-stop : goal.returns-in-Err-limits_of-clause-stop
returns-in-Err-limits_of-clause-stop c =
    let rows = rows_given _ simple simple_and_free _ c.in_ok-program.ensures _ _ c.in-Ok.ensures.matches in
    inr (
      no_fault _ simple simple_and_free _ c.in_ok-program.ensures _ c.in-Ok.ensures.kinds,
      rw rows at c.in-Err-limits_of.ensures.stop,
    )

pub returns-clause-asked : goal.returns-clause-asked
returns-clause-asked c =
    let rows = rows_given _ simple simple_and_free _ c.in_ok-program.ensures _ _ c.in-Ok.ensures.matches in
    record {
      no_fault = no_fault _ simple simple_and_free _ c.in_ok-program.ensures _ c.in-Ok.ensures.kinds;
      limits = c.in-Ok-limits_of.ensures.ok ∙ ap pair_bounds rows;
      entries = c.has_option-entries.ensures ∙ ap (λ found. is_given (codes "entries") found) rows;
      file = rw rows at c.in_ok-file.ensures;
    }
