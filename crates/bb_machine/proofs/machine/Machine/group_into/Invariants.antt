use Rattle.std.proofs.Common.{◌≡◌, ◌++◌, ◌+◌, ◌*◌, [], take, get_or}
use Rattle.arrayvec.specs.ArrayVec.{array_vec_len}
use Rattle.bb_machine.specs.Machine.{group_text}
use Rattle.bb_machine.proofs.machine.Machine.group_into.Given as goal

-- the entries so far are written
abbrev pub invariant-loop-symbol : goal.invariant-loop-symbol
invariant-loop-symbol g l = record {
  written : l.out.items ≡ l.initial.out.items ++ group_text (take l.symbol (get_or l.self l.state []));
  long : array_vec_len l.out ≡ array_vec_len l.initial.out + 3 * l.symbol;
}
