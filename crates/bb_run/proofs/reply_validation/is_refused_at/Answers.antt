use Rattle.std.proofs.Common.{subst}
use Rattle.std.proofs.lemmas.Bool.{eq-eqb, eqb-true}
use Rattle.bb_machine.specs.Column.{IsColumn}
use Rattle.bb_machine.proofs.Facts.{column_unique}
use Rattle.bb_run.proofs.reply_validation.is_refused_at.Goals as goal

pub returns-in-Err : goal.returns-in-Err
returns-in-Err c = (
  λ is. record {
    no_machine = λ machine. c.in-Err.ensures.none machine.0 machine.1.machine machine.1.is_text;
    is_column = subst (IsColumn c.args.line.now)
        (eqb-true c.in-Err.refused.column c.args.column is) c.in-Err.ensures.column;
  },
  λ refused. eq-eqb c.in-Err.refused.column c.args.column
      (column_unique c.args.line.now _ _ c.in-Err.ensures.column refused.is_column),
)
