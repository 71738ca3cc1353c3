use Rattle.std.proofs.Common.{rules}
use Rattle.bb_machine.proofs.Links.{first_rows, first_entries, first_bars}
use Rattle.bb_machine.proofs.machine.reader.has_first_rows.Goals as goal

pub returns-then-has_all : goal.returns-then-has_all
returns-then-has_all c =
    let states = c.args.states in
    let line = c.args.line.now in
    let entries = c.places_of_entries in
    let bars = c.places_of_bars in (
      λ is. first_rows states line entries.result bars.result entries.ensures bars.ensures
          (c.has_all.ensures.0 (search rules)) (c.has_all-then-has_all.ensures.0 is),
      λ all. c.has_all-then-has_all.ensures.1
          (first_bars states line bars.result bars.ensures all.1 all.2),
    )

pub returns-else-has_all : goal.returns-else-has_all
returns-else-has_all c =
    let entries = c.places_of_entries in (
      λ is. absurd (search rules),
      λ all. c.has_all.ensures.1
          (first_entries c.args.states c.args.line.now entries.result entries.ensures all.0 all.1 all.2),
    )
