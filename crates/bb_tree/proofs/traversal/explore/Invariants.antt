use Rattle.std.proofs.Common.{◌≡◌, ◌+◌, ◌-◌, ◌*◌, length}
use Rattle.bb_tree.specs.Path.{depth_of, frames_of}
use Rattle.bb_tree.specs.inside.Walk.{HasRoom, starts_of}
use Rattle.bb_tree.specs.inside.Steps.{IsWithin}
use Rattle.bb_tree.proofs.Exploring.{IsExploring}
use Rattle.bb_tree.proofs.traversal.explore.Given as goal

abbrev pub invariant-loop-branch : goal.invariant-loop-branch
invariant-loop-branch g l = record {
  exploring : IsExploring l.rules.list.items (starts_of l.rules) l.fn.root l.fn.entered l.most
      (g.T.Tape.view l.tape) l.top (frames_of l.path) l.entered;
  room : HasRoom (g.T.Tape.view l.tape) l.most.levels;
  within : IsWithin l.most l.entered;
  limit : (g.T.Tape.view l.tape).limit ≡ (g.T.Tape.view l.fn.tape).limit;
  depth : depth_of l.path ≡ depth_of l.fn.path;
}

abbrev pub decreases-loop-branch : goal.decreases-loop-branch
decreases-loop-branch g l = 2 * (l.most.nodes - l.entered.nodes) + length (frames_of l.path)
