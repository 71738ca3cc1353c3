use Rattle.std.proofs.Common.{arith}
use Rattle.bb_recurrence.proofs.EntryUses.{no_such_state, use_is}
use Rattle.bb_recurrence.proofs.uses.LastUses.last_use.Goals as goal

pub returns-then-state-states : goal.returns-then-state-states
returns-then-state-states c =
    no_such_state _ c.states.ensures.machine _ (omega (arith, c.if-state-states.true, c.states.ensures.value))

pub returns : goal.returns
returns c =
    use_is _ _ _ _ _ _ c.requires.seen (c.step_after.ensures _ c.requires.seen.seen) c.use_before.ensures
