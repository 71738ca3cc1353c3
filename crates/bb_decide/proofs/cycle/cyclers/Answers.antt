use Rattle.bb_decide.proofs.FewCells.{finds_in_few_cells}
use Rattle.bb_decide.proofs.Sure.{finds_repeats}
use Rattle.bb_decide.proofs.cycle.cyclers.Goals as goal

pub returns-clause-sure : goal.returns-clause-sure
returns-clause-sure g c =
    finds_repeats c.args.machine.now c.args.limits.now c.found.result
    (rw c.found.ensures c.in_ok-search_result.ensures.found)

pub returns-clause-few_cells : goal.returns-clause-few_cells
returns-clause-few_cells g c =
    finds_in_few_cells c.args.machine.now c.args.limits.now c.show_machine.ensures.machine c.found.result
    (rw c.found.ensures c.in_ok-search_result.ensures.found)
