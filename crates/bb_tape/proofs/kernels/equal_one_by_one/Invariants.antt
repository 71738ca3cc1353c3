use Rattle.std.proofs.Common.{◌≡◌, take}
use Rattle.bb_tape.proofs.kernels.equal_one_by_one.Given as goal

-- all so far are equal
abbrev pub invariant-loop-i : goal.invariant-loop-i
invariant-loop-i l = take l.i l.a ≡ take l.i l.b
