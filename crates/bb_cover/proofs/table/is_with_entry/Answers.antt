use Rattle.std.proofs.Common.{arith}
use Rattle.bb_cover.proofs.Tables.{same_table}
use Rattle.bb_cover.proofs.table.is_with_entry.Goals as goal

pub returns-clause-same : goal.returns-clause-same
returns-clause-same c true = same_table c.args.child.now c.args.parent.now c.states.ensures.machine
    c.states-2.ensures.machine c.args.state c.args.symbol c.args.entry (omega arith) (omega arith)
    (λ i h. c.loop-row.invariant i (omega (arith, h)))
