use Rattle.std.proofs.Common.{sym, subst}
use Rattle.bb_tree.specs.inside.Walk.{IsIn}
use Rattle.bb_tree.proofs.EndlessPaths.{in_both, in_none}
use Rattle.bb_tree.proofs.endless.endless_by.Goals as goal

pub returns-then-entered-kept : goal.returns-then-entered-kept
returns-then-entered-kept c state is = c.entered_from.ensures state
    (in_both c.loop.kept c.entered_from.result state
    (subst (λ set. IsIn set state) (sym c.if-entered-kept.true) is))

pub returns : goal.returns
returns c state is = absurd (in_none state is)
