use Rattle.std.proofs.Common.{◌≤◌, ◌+◌, ◌*◌}
use Rattle.arrayvec.specs.ArrayVec.{array_vec_len}
use Rattle.bb_recurrence.specs.Parts.{states_before}
use Rattle.bb_recurrence.specs.Writing.{AppendsUses}
use Rattle.bb_recurrence.proofs.text.Reply.states_into.Given as goal

-- the last uses of the first states are written
abbrev pub invariant-loop-state : goal.invariant-loop-state
invariant-loop-state l = record {
  written : AppendsUses l.self.machine.now (states_before l.state) l.fn.text.items l.text.items;
  short : array_vec_len l.text ≤ array_vec_len l.fn.text + 21 * l.state;
}
