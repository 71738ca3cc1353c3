use Rattle.bb_tree.proofs.SortedRules.{both_added}
use Rattle.bb_tree.proofs.rules.Rules.gather.Goals as goal

pub returns-clause-rules : goal.returns-clause-rules
returns-clause-rules c = both_added _ (rw c.requires.no_list at c.add_all.ensures.added)
    c.add_all-2.ensures.added
