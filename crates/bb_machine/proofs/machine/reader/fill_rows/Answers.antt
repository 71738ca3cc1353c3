use Rattle.std.proofs.Common.{◌≤◌, ◌+◌, ◌*◌, length, get_or, [], ap, arith, rules}
use Rattle.bb_machine.proofs.Filled.{table_inside, group_read, table_grows}
use Rattle.bb_machine.proofs.machine.reader.fill_rows.Goals as goal

pub slice_bounds-fill_row-count : goal.slice_bounds-fill_row-count
slice_bounds-fill_row-count c =
    let of = c.requires in
    let inside = table_inside of.0 c.args.states c.args.symbols of.1 c.loop-row.row c.loop-row-test.true in
    omega (arith, inside, ap length of.2)

pub slice_bounds-fill_row-start : goal.slice_bounds-fill_row-start
slice_bounds-fill_row-start c =
    let fits : c.loop-row.row * (3 * c.args.symbols + 1) ≤ length c.args.line.now =
    slice_bounds-fill_row-count c in
    search rules

pub fill_row-requires-clause-group : goal.fill_row-requires-clause-group
fill_row-requires-clause-group c =
    let of = c.requires in
    let read =
    group_read of.0 c.args.line.now c.args.states c.args.symbols c.loop-row.row of.1 of.2
    c.loop-row-test.true in
    (get_or of.0 c.loop-row.row [], read.0, read.1)

pub loop-row-preserved : goal.loop-row-preserved
loop-row-preserved c gs table is =
    let read =
    group_read gs c.args.line.now c.args.states c.args.symbols c.loop-row.row table is c.loop-row-test.true in
    table_grows c.loop-row.slots c.fill_row.new.slots c.loop-row.row c.args.symbols gs
    (omega (arith, table.states_is, c.loop-row-test.true)) (c.loop-row.invariant gs table is)
    c.fill_row.ensures.before (c.fill_row.ensures.row (get_or gs c.loop-row.row []) read.0 read.1)
