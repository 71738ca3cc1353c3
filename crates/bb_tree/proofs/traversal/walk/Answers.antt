use Rattle.std.proofs.Common.{◌≡◌, true, refl, arith, rules}
use Rattle.bb_tree.proofs.TreeEnds.{clear_trees_never_halt}
use Rattle.bb_tree.proofs.traversal.walk.Goals as goal

pub returns-then-branch-clause-never : goal.returns-then-branch-clause-never
returns-then-branch-clause-never g c =
    let e : c.in_ok-ends.field-0 ≡ true = search rules in
    let walked = rw e at c.in_ok-ends.ensures.walked in
    clear_trees_never_halt c.args.machine.now _ _ c.explore_all-ends.ensures.machine walked.0 walked.1

pub returns-then-branch-clause-blank : goal.returns-then-branch-clause-blank
returns-then-branch-clause-blank g c = rw c.reset-2.ensures refl

pub returns-else-branch-clause-blank : goal.returns-else-branch-clause-blank
returns-else-branch-clause-blank g c = rw c.reset-2.ensures refl

pub explore_all-ends-requires-clause-path : goal.explore_all-ends-requires-clause-path
explore_all-ends-requires-clause-path g c = c.requires.path

pub overflow_add-meter : goal.overflow_add-meter
overflow_add-meter g c = omega (arith, c.requires.meter, c.explore_all-ends.ensures.within.nodes)

pub returns-in_err-ends-clause-limit : goal.returns-in_err-ends-clause-limit
returns-in_err-ends-clause-limit g c =
    rw (c.reset-2.ensures, c.explore_all-ends.ensures.limit, c.reset.ensures) refl

pub returns-in_err-ends-clause-depth : goal.returns-in_err-ends-clause-depth
returns-in_err-ends-clause-depth g c = c.explore_all-ends.ensures.depth

pub returns-then-branch-clause-limit : goal.returns-then-branch-clause-limit
returns-then-branch-clause-limit g c =
    rw (c.reset-2.ensures, c.explore_all-ends.ensures.limit, c.reset.ensures) refl

pub returns-then-branch-clause-depth : goal.returns-then-branch-clause-depth
returns-then-branch-clause-depth g c = c.explore_all-ends.ensures.depth

pub returns-else-branch-clause-limit : goal.returns-else-branch-clause-limit
returns-else-branch-clause-limit g c =
    rw (c.reset-2.ensures, c.explore_all-ends.ensures.limit, c.reset.ensures) refl

pub returns-else-branch-clause-depth : goal.returns-else-branch-clause-depth
returns-else-branch-clause-depth g c = c.explore_all-ends.ensures.depth
