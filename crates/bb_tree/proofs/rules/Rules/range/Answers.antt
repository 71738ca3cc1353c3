use Rattle.std.proofs.Common.{◌<◌, ◌+◌, length, sym, subst}
use Rattle.bb_machine.specs.declared.entry.Dir.TheVariants.{R}
use Rattle.bb_tree.proofs.Roots.{below_next, state_within}
use Rattle.bb_tree.proofs.rules.Rules.range.Goals as goal

pub bounds-deref-state-in-R : goal.bounds-deref-state-in-R
bounds-deref-state-in-R c = subst (λ starts. c.args.state < length starts) (sym c.deref-in-R.ensures.0)
    (below_next (state_within c.requires.rules R c.requires.state))

pub bounds-deref-state-in-R-2 : goal.bounds-deref-state-in-R-2
bounds-deref-state-in-R-2 c = subst (λ starts. c.args.state + 1 < length starts)
    (sym c.deref-in-R-2.ensures.0) (state_within c.requires.rules R c.requires.state)
