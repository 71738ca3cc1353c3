use Rattle.std.proofs.Common.{◌≡◌, ◌++◌, drop}
use Rattle.std.specs.List.{filter}
use Rattle.bb_tree.specs.Tree.{leads_to, rules_from, rules_to}
use Rattle.bb_tree.proofs.rules.add_rules.Given as goal

abbrev pub invariant-loop-state : goal.invariant-loop-state
invariant-loop-state l =
    l.list.items ++ filter (leads_to l.next) (rules_from l.state (drop l.state l.machine)) ≡
    l.fn.list.items ++ rules_to l.machine l.next
