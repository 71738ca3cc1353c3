use Rattle.std.proofs.Common.{inl, inr, refl}
use Rattle.bb_tree.proofs.EndlessPaths.{in_either}
use Rattle.bb_tree.proofs.endless.entered_from.Goals as goal
use Rattle.bb_tree.proofs.endless.entered_from.Goals.{then-has_state, else-has_state}

pub loop-state-preserved : goal.loop-state-preserved
loop-state-preserved c state is = elim c.if-has_state.branch [
  | then-has_state w ↦ elim (in_either _ _ state (rw w.entered-is at is)) [
    | inl before ↦ c.loop-state.invariant state before
    | inr here ↦ record {
      from = c.loop-state.state;
      is_in = w.if-has_state.ensures.0 refl;
      enters = w.entered_by-entered.ensures state here;
    }
  ]
  | else-has_state w ↦ c.loop-state.invariant state (rw w.entered-is at is)
]
