use Rattle.laws_of_recurrence.proofs.Verdicts.{cyclers_have_exact_period}
use Rattle.laws_of_recurrence.proofs.Verdicts.{translated_cyclers_have_exact_period}
use Rattle.laws_of_recurrence.proofs.laws.verdicts_have_exact_period.Goals as goal

pub returns-clause-cyclers : goal.returns-clause-cyclers
returns-clause-cyclers c = cyclers_have_exact_period

pub returns-clause-translated : goal.returns-clause-translated
returns-clause-translated c =
    translated_cyclers_have_exact_period c.agreeing_records_go_on.ensures.alike
    c.records_in_order.ensures.short
