use Rattle.std.proofs.Common.{◌≤◌, ◌+◌, ◌*◌}
use Rattle.arrayvec.specs.ArrayVec.{array_vec_len}
use Rattle.bb_recurrence.specs.Parts.{row_before}
use Rattle.bb_recurrence.specs.Writing.{AppendsUses}
use Rattle.bb_recurrence.proofs.text.Reply.row_into.Given as goal

-- the last uses of the first entries are written
abbrev pub invariant-loop-symbol : goal.invariant-loop-symbol
invariant-loop-symbol l = record {
  written : AppendsUses l.self.machine.now (row_before l.fn.state l.symbol) l.fn.text.items l.text.items;
  short : array_vec_len l.text ≤ array_vec_len l.fn.text + 21 * l.symbol;
}
