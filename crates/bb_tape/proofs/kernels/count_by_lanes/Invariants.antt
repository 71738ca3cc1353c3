use Rattle.std.proofs.Common.{◌≡◌, ◌*◌, ◌==◌, not, take, count_by}
use Rattle.bb_tape.proofs.kernels.count_by_lanes.Given as goal

-- what was counted so far
abbrev pub invariant-loop-i : goal.invariant-loop-i
invariant-loop-i l = l.count ≡ count_by (λ x. not (x == 0)) (take (l.i * 32) l.a)
