use Rattle.std.proofs.Common.{◌*◌, ◌+◌, rules}
use Rattle.std.proofs.lemmas.List.{take_rest}
use Rattle.bb_machine.proofs.Links.{next_rows, next_entries, next_bars}
use Rattle.bb_machine.proofs.machine.reader.has_rows_after.Goals as goal

pub returns-then-has_all : goal.returns-then-has_all
returns-then-has_all c =
    let states = c.args.states in
    let line = c.args.line.now in
    let row = c.args.row in
    let is = take_rest line (7 * row + 2) in
    let entries = c.places_of_entries in
    let bars = c.places_of_bars in (
      λ found. next_rows states line entries.result bars.result _ row is entries.ensures bars.ensures
          (c.has_all.ensures.0 (search rules)) (c.has_all-then-has_all.ensures.0 found),
      λ all. c.has_all-then-has_all.ensures.1
          (next_bars states line bars.result _ row is bars.ensures all.0 all.1),
    )

pub returns-else-has_all : goal.returns-else-has_all
returns-else-has_all c =
    let line = c.args.line.now in
    let row = c.args.row in
    let is = take_rest line (7 * row + 2) in
    let entries = c.places_of_entries in (
      λ found. absurd (search rules),
      λ all. c.has_all.ensures.1
          (next_entries c.args.states line entries.result _ row is entries.ensures all.0 all.1 all.2),
    )
