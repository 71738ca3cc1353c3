use Rattle.std.proofs.Common.{◌≡◌, ◌++◌, take}
use Rattle.bb_machine.specs.Machine.{text}
use Rattle.bb_machine.proofs.machine.Machine.text_into.Given as goal

-- the groups so far are written
abbrev pub invariant-loop-state : goal.invariant-loop-state
invariant-loop-state g l = l.out.items ≡ l.fn.out.items ++ text (take l.state l.self)
