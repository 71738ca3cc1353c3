use Rattle.std.proofs.Common.{[], arith, get_or, ap, ◌∙◌}
use Rattle.std.proofs.lemmas.List.{take_all}
use Rattle.bb_cover.specs.UndefinedEntries.{undefined_in, undefined_entries_in}
use Rattle.laws_of_verdicts.proofs.Facts.{groups_long}
use Rattle.bb_cover.proofs.Tables.{undefined_in_few, undefined_entries_in_more}
use Rattle.bb_cover.proofs.table.count_undefined_entries_in.Goals as goal

pub loop-symbol-preserved : goal.loop-symbol-preserved
loop-symbol-preserved c =
    let group = get_or c.args.machine.now c.args.state [] in
    let wide = groups_long c.args.machine.now c.entry.ensures.machine c.args.state c.requires in
    let more = undefined_entries_in_more group c.loop-symbol.symbol (omega (arith, wide)) in
    let one = ap undefined_in c.entry.ensures.value in
    let few = undefined_in_few c.entry.result in
    record { count = omega (arith, more, one); few = omega (arith, few, c.count_undefined-count.ensures) }

pub returns-clause-count : goal.returns-clause-count
returns-clause-count c =
    let group = get_or c.args.machine.now c.args.state [] in
    let wide = groups_long c.args.machine.now c.symbols-symbol-end.ensures.machine c.args.state c.requires in
    c.loop-symbol.invariant.count
    ∙ ap undefined_entries_in (take_all c.loop-symbol.symbol group (omega (arith, wide)))
