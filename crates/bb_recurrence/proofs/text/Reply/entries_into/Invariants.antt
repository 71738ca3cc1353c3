use Rattle.std.proofs.Common.{◌≤◌, ◌+◌, ◌*◌}
use Rattle.arrayvec.specs.ArrayVec.{array_vec_len}
use Rattle.bb_machine.specs.Machine.{symbols_of}
use Rattle.bb_recurrence.specs.Parts.{entries_before}
use Rattle.bb_recurrence.specs.Writing.{AppendsUses}
use Rattle.bb_recurrence.proofs.text.Reply.entries_into.Given as goal

-- the last uses of the entries of the first states are written
abbrev pub invariant-loop-state : goal.invariant-loop-state
invariant-loop-state l = record {
  written : AppendsUses l.self.machine.now (entries_before (symbols_of l.self.machine.now) l.state)
      l.fn.text.items l.text.items;
  short : array_vec_len l.text ≤ array_vec_len l.fn.text + 210 * l.state;
}
