use Rattle.std.proofs.Common.{arith, ap, ◌∙◌}
use Rattle.std.proofs.lemmas.List.{take_all}
use Rattle.bb_cover.specs.UndefinedEntries.{undefined_entries_of}
use Rattle.bb_cover.proofs.Tables.{undefined_entries_of_more}
use Rattle.bb_cover.proofs.table.count_undefined_entries.Goals as goal

pub loop-state-preserved : goal.loop-state-preserved
loop-state-preserved c =
    let here = c.loop-state.invariant in
    let more = undefined_entries_of_more c.args.machine.now c.loop-state.state (omega arith) in
    let few = c.count_undefined_entries_in-count.ensures.few in
    record { count = omega (arith, more, here.count); few = let f = here.few in omega (arith, few, f) }

pub returns : goal.returns
returns c = c.loop-state.invariant.count
    ∙ ap undefined_entries_of (take_all c.loop-state.state c.args.machine.now (omega arith))
