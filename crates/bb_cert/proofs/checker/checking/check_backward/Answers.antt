use Rattle.std.proofs.Common.{ℕ, ◌≤◌, arith}
use Rattle.bb_machine.specs.Limits.{Bounds}
use Rattle.bb_sim.specs.declared.meter.Meter.{Meter}
use Rattle.bb_sim.specs.Meter.{zero_meter}
use Rattle.bb_cert.specs.declared.verdict.Verdict.TheVariants.{Backward}
use Rattle.bb_cert.specs.checker.ClaimMeter.{IsWithinClaim}
use Rattle.bb_tree.specs.WalkMeter.{IsWithinWalk}
use Rattle.bb_cert.proofs.checker.checking.check_backward.Goals as goal

walk_counts : (bounds : Bounds) (levels nodes : ℕ) (meter : Meter) → levels ≤ bounds.depth
    → nodes ≤ bounds.nodes → IsWithinWalk levels nodes zero_meter meter
    → IsWithinClaim bounds (Backward levels nodes) meter
walk_counts bounds levels nodes meter few_levels few_nodes is = omega arith

pub returns-in_err-found_levels-clause-within : goal.returns-in_err-found_levels-clause-within
returns-in_err-found_levels-clause-within g c = walk_counts c.args.limits.now _ _ _ c.requires.levels
    c.requires.nodes (rw c.requires.meter at c.walk.ensures.within)

pub returns-in_default-clause-within : goal.returns-in_default-clause-within
returns-in_default-clause-within g c = walk_counts c.args.limits.now _ _ _ c.requires.levels
    c.requires.nodes (rw c.requires.meter at c.walk.ensures.within)

pub returns-then-found_levels-levels-clause-within : goal.returns-then-found_levels-levels-clause-within
returns-then-found_levels-levels-clause-within g c = walk_counts c.args.limits.now _ _ _ c.requires.levels
    c.requires.nodes (rw c.requires.meter at c.walk.ensures.within)

pub returns-then-found_nodes-nodes-clause-within : goal.returns-then-found_nodes-nodes-clause-within
returns-then-found_nodes-nodes-clause-within g c = walk_counts c.args.limits.now _ _ _ c.requires.levels
    c.requires.nodes (rw c.requires.meter at c.walk.ensures.within)
