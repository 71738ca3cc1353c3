use Rattle.std.proofs.Common.{ℕ, ◌*◌, ◌<◌}
use Rattle.bb_machine.specs.inside.Places.{HasLink}
use Rattle.bb_machine.proofs.machine.reader.is_table_by_masks.Given as goal

-- the rows so far stand
abbrev pub invariant-loop-pair : goal.invariant-loop-pair
invariant-loop-pair l = (r : ℕ) → r < 2 * l.pair → HasLink l.states l.line r
