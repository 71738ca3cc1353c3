use Rattle.laws_of_recurrence.proofs.Pairs.{cyclers_repeat, translated_cyclers_repeat}
use Rattle.laws_of_recurrence.proofs.laws.pairs_repeat.Goals as goal

pub returns-clause-cyclers : goal.returns-clause-cyclers
returns-clause-cyclers c = cyclers_repeat

pub returns-clause-translated : goal.returns-clause-translated
returns-clause-translated c = translated_cyclers_repeat c.agreeing_records_go_on.ensures.alike
