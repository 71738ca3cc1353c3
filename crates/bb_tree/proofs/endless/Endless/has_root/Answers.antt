use Rattle.std.proofs.Common.{inl, inr, refl}
use Rattle.bb_machine.specs.declared.entry.Dir.TheVariants.{L, R}
use Rattle.bb_tree.specs.inside.Walk.{endless_of}
use Rattle.bb_tree.proofs.EndlessPaths.{in_either, root_endless}
use Rattle.bb_tree.proofs.endless.Endless.has_root.Goals as goal

pub returns-then-may_halt-clause-root : goal.returns-then-may_halt-clause-root
returns-then-may_halt-clause-root c found levels nodes =
    let sets = endless_of c.args.self.now in
    let state = c.loop-state.state in
    let halts = c.if-may_halt.ensures refl in
    elim (in_either c.args.self.now.left c.args.self.now.right state (c.if-has_state.ensures.0 refl)) [
      | inl left ↦ root_endless sets L (c.requires L) state left halts levels nodes
      | inr right ↦ root_endless sets R (c.requires R) state right halts levels nodes
    ]
