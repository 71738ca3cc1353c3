use Rattle.std.proofs.Common.{◌≡◌, ◌++◌, [], drop, slice_index_or}
use Rattle.std.specs.List.{filter}
use Rattle.bb_tree.specs.Tree.{leads_to, rules_in}
use Rattle.bb_tree.proofs.rules.add_rules_of.Given as goal

abbrev pub invariant-loop-symbol : goal.invariant-loop-symbol
invariant-loop-symbol l = l.list.items ++ filter (leads_to l.next)
    (rules_in l.state l.symbol (drop l.symbol (slice_index_or l.machine l.state [])))
    ≡ l.fn.list.items ++ filter (leads_to l.next) (rules_in l.state 0 (slice_index_or l.machine l.state []))
