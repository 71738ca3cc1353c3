use Rattle.std.proofs.Common.{◌≡◌, false, true, ap, refl, ◌∙◌, lit<}
use Rattle.bb_tree.proofs.RuleLists.{pushed_keeps, passed_keeps, pushed_room, in_row, past_row}
use Rattle.bb_tree.proofs.RuleLists.{row_ends}
use Rattle.bb_tree.proofs.rules.add_rules_of.Goals as goal
use Rattle.bb_tree.proofs.rules.add_rules_of.Goals.{then-leads_to, else-leads_to}

pub push-requires : goal.push-requires
push-requires c =
    let machine = c.symbols-symbol-end.ensures.machine in
    let within = in_row c.args.machine.now c.args.state c.loop-symbol.symbol _ machine c.requires.state
    c.symbols-symbol-end.ensures.value c.loop-symbol-test.true in (
      lit< tt,
      pushed_room c.args.next c.args.state c.loop-symbol.symbol _ within c.entry-entry.result
          c.entry-entry.ensures.value c.loop-symbol.list.items c.args.list.now.items _ _
          (c.if-leads_to.ensures.0 refl) c.loop-symbol.invariant c.requires.room,
    )

pub loop-symbol-preserved : goal.loop-symbol-preserved
loop-symbol-preserved c =
    let machine = c.symbols-symbol-end.ensures.machine in
    let within = in_row c.args.machine.now c.args.state c.loop-symbol.symbol _ machine c.requires.state
    c.symbols-symbol-end.ensures.value c.loop-symbol-test.true in
    elim c.if-leads_to.branch [
      | then-leads_to w ↦ pushed_keeps c.args.next c.args.state c.loop-symbol.symbol _ within
          c.entry-entry.result c.entry-entry.ensures.value c.loop-symbol.list.items c.if-leads_to.list.items
          _ (w.if-leads_to.ensures.0 refl) (ap (λ l. l.items) w.list-is ∙ w.push.ensures.items)
          c.loop-symbol.invariant
      | else-leads_to w ↦ passed_keeps c.args.next c.args.state c.loop-symbol.symbol _ within
          c.entry-entry.result c.entry-entry.ensures.value c.loop-symbol.list.items c.if-leads_to.list.items
          _ (λ e. let wrong : false ≡ true = w.if-leads_to.ensures.1 e in cc) (ap (λ l. l.items) w.list-is)
          c.loop-symbol.invariant
    ]

pub returns : goal.returns
returns c =
    let machine = c.symbols-symbol-end.ensures.machine in
    row_ends c.args.next c.args.state c.loop-symbol.symbol _ c.loop-symbol.list.items _
    (past_row c.args.machine.now c.args.state c.loop-symbol.symbol _ machine c.requires.state
    c.symbols-symbol-end.ensures.value c.loop-symbol-test.false) c.loop-symbol.invariant
