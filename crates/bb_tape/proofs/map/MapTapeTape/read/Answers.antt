use Rattle.std.proofs.Common.{◌≡◌, ◌≤◌, ◌+◌, Some, None, arith, w64}
use Rattle.std.proofs.lemmas.Int.{to_z-of_z}
use Rattle.bb_tape.specs.declared.tape.TheConstants.{MAX_SYMBOL}
use Rattle.bb_tape.specs.Content.{cell}
use Rattle.bb_tape.specs.Entries.{content_of}
use Rattle.bb_tape.proofs.MapContent.{cell_read}
use Rattle.bb_tape.proofs.map.MapTapeTape.read.Goals as goal

pub overflow_add-result : goal.overflow_add-result
overflow_add-result g c =
    let is : c.in-Some.k.now + 1 ≡ cell (content_of c.args.self.now.cells.entries) c.args.p =
    cell_read _ c.args.p _ (Some c.in-Some.k.now) (to_z-of_z w64 _ c.ranges.p) c.in-Some.ensures.value in
    let small : cell (content_of c.args.self.now.cells.entries) c.args.p ≤ MAX_SYMBOL =
    c.args.self.now.sound.symbols c.args.p in
    record { fits = omega (arith, is, small) }

pub returns-in-Some : goal.returns-in-Some
returns-in-Some g c =
    cell_read _ c.args.p _ (Some c.in-Some.k.now) (to_z-of_z w64 _ c.ranges.p) c.in-Some.ensures.value

pub returns-in-None : goal.returns-in-None
returns-in-None g c = cell_read _ c.args.p _ None (to_z-of_z w64 _ c.ranges.p) c.in-None.ensures.value
