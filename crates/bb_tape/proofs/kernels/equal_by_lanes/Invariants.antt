use Rattle.std.proofs.Common.{◌≡◌, ◌*◌, take}
use Rattle.bb_tape.proofs.kernels.equal_by_lanes.Given as goal

-- all so far are equal
abbrev pub invariant-loop-i : goal.invariant-loop-i
invariant-loop-i l = take (l.i * 32) l.a ≡ take (l.i * 32) l.b
