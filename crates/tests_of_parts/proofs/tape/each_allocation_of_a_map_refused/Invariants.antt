use Rattle.std.proofs.Common.{◌≡◌}
use Rattle.tests_of_parts.proofs.tape.each_allocation_of_a_map_refused.Given as goal

-- the source keeps its limit
abbrev pub invariant-loop-left : goal.invariant-loop-left
invariant-loop-left g l = l.source.window.limit ≡ 100
