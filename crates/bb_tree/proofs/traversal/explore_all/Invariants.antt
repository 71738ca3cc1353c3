use Rattle.std.proofs.Common.{◌≡◌, ◌+◌, [], ◌∷◌, length, map, slice_index, slice_range}
use Rattle.bb_tape.specs.Content.{blank}
use Rattle.bb_tree.specs.Path.{depth_of}
use Rattle.bb_tree.specs.Tree.{halting_node}
use Rattle.bb_tree.specs.inside.Walk.{HasRoom, IsWalked}
use Rattle.bb_tree.specs.inside.Steps.{IsWithin}
use Rattle.bb_tree.proofs.traversal.explore_all.Given as goal

abbrev pub invariant-loop-index : goal.invariant-loop-index
invariant-loop-index g l = record {
  walked : IsWalked l.machine
      (map halting_node (slice_range l.rules.list.items l.index
      (slice_index l.rules.right_first.items (length l.machine + 1))) ∷ []) l.entered.nodes l.entered.levels;
  blank : (g.T.Tape.view l.tape).content ≡ blank;
  room : HasRoom (g.T.Tape.view l.tape) l.most.levels;
  within : IsWithin l.most l.entered;
  limit : (g.T.Tape.view l.tape).limit ≡ (g.T.Tape.view l.fn.tape).limit;
  depth : depth_of l.path ≡ depth_of l.fn.path;
}
