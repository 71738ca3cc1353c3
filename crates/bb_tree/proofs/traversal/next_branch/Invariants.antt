use Rattle.std.proofs.Common.{◌≡◌}
use Rattle.bb_tree.specs.inside.Walk.{branches}
use Rattle.bb_tree.proofs.traversal.next_branch.Given as goal

abbrev pub invariant-loop-index : goal.invariant-loop-index
invariant-loop-index g l = let content = (g.T.Tape.view l.tape).content in
    branches l.rules.list.items content l.frame ≡ branches l.rules.list.items content
    (record l.frame { next = l.index })
