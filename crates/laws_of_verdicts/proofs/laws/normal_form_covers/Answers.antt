use Rattle.laws_of_verdicts.proofs.NormalForms.{normal_form_covers}
use Rattle.laws_of_verdicts.proofs.Walks.{walks_are_in_normal_form}
use Rattle.laws_of_verdicts.proofs.laws.normal_form_covers.Goals as goal

pub returns-clause-covers : goal.returns-clause-covers
returns-clause-covers c = normal_form_covers

pub returns-clause-walks : goal.returns-clause-walks
returns-clause-walks c = walks_are_in_normal_form
