use Rattle.std.proofs.Common.{◌≡◌, ◌<◌, ◌-◌, arith, length}
use Rattle.std.proofs.lemmas.Grind.{common_steps}
use Rattle.bb_cover.proofs.Lefts.{as_first, read_frame}
use Rattle.bb_cover.proofs.walk.Walk.top.Goals as goal

pub returns : goal.returns
returns c =
    let some : 0 < length c.self.inside.frames.items = let is = c.if-is_empty.false in
    grind (arith, common_steps) in
    let at : c.len.result - 1 ≡ length c.self.inside.frames.items - 1 = grind (arith, common_steps) in
    as_first (c.len.result - 1) c.index.result.now
    (read_frame c.self.inside.frames.items (c.len.result - 1) c.self.invariant.0 (omega (arith, at, some))
    c.index.result.now c.index.ensures)
