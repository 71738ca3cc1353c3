use Rattle.bb_decide.proofs.Sure.{finds_agreeing_records}
use Rattle.bb_decide.proofs.translation.translated.Goals as goal

pub returns-clause-sure : goal.returns-clause-sure
returns-clause-sure g c =
    finds_agreeing_records c.args.machine.now c.args.limits.now c.found.result
    (rw c.found.ensures c.in_ok-search_result.ensures.found)
