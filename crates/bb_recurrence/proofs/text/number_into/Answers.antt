use Rattle.std.proofs.Common.{◌++◌, ◌∙◌, ap, sym}
use Rattle.std.proofs.lemmas.Fmt.{decimal_digit}
use Rattle.bb_recurrence.proofs.text.number_into.Goals as goal

pub returns-then-number-lt10-clause-appended : goal.returns-then-number-lt10-clause-appended
returns-then-number-lt10-clause-appended c =
    c.append.ensures.appended
    ∙ ap (λ digits. c.args.text.now.items ++ digits) (sym (decimal_digit c.args.number c.if-number-lt10.true))
