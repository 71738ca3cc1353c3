use Rattle.std.proofs.Common.{◌*◌, ◌≤◌, length, get_or, ◌∙◌, rules}
use Rattle.std.proofs.lemmas.List.{length-set}
use Rattle.bb_machine.specs.declared.entry.Entry.TheVariants.{Undefined}
use Rattle.bb_machine.proofs.Filled.{entry_inside, entry_read, row_grows, rows_stay}
use Rattle.bb_machine.proofs.machine.reader.fill_row.Goals as goal

pub slice_bounds-set_first-count : goal.slice_bounds-set_first-count
slice_bounds-set_first-count c =
    let g = c.requires.group in
    entry_inside g.0 c.args.bytes.now c.args.symbols c.loop-symbol.symbol g.1 c.loop-symbol-test.true g.2

pub slice_bounds-set_first-start : goal.slice_bounds-set_first-start
slice_bounds-set_first-start c =
    let inside : 3 * c.loop-symbol.symbol ≤ length c.args.bytes.now = slice_bounds-set_first-count c in
    search rules

pub set_first-requires : goal.set_first-requires
set_first-requires c =
    let g = c.requires.group in
    let read =
    entry_read g.0 c.args.bytes.now c.args.symbols c.loop-symbol.symbol g.1 c.requires.symbols
    c.loop-symbol-test.true g.2 in
    (get_or g.0 c.loop-symbol.symbol Undefined, read.0, read.1)

pub loop-symbol-preserved : goal.loop-symbol-preserved
loop-symbol-preserved c =
    record {
      count = length-set c.loop-symbol.slots _ _ ∙ c.loop-symbol.invariant.count;
      row = λ g group begins.
          let read =
          entry_read g c.args.bytes.now c.args.symbols c.loop-symbol.symbol group c.requires.symbols
          c.loop-symbol-test.true begins in
          row_grows c.loop-symbol.slots c.args.row c.args.symbols c.loop-symbol.symbol _ g
          c.loop-symbol.invariant.count c.requires.row c.requires.symbols c.loop-symbol-test.true group.full
          (c.set_first.ensures (get_or g c.loop-symbol.symbol Undefined) read.0 read.1)
          (c.loop-symbol.invariant.row g group begins);
      before = rows_stay c.loop-symbol.slots c.args.row c.args.symbols c.loop-symbol.symbol
          _ c.requires.symbols ∙ c.loop-symbol.invariant.before;
    }
