use Rattle.std.proofs.Common.{◌≡◌, ◌<◌, length, refl}
use Rattle.std.proofs.lemmas.Grind.{common_steps}
use Rattle.std.proofs.Common.{arith}
use Rattle.bb_lines.proofs.Ends.{prefixes-no_more, prefixes-some}
use Rattle.bb_lines.proofs.Replies.{FoldsTo-append, FoldsTo-prefixes}
use Rattle.bb_lines.specs.Lines.{lines}
use Rattle.bb_lines.proofs.sink.drain_lines.Goals as goal

pub returns-then-is_empty-clause-ends : goal.returns-then-is_empty-clause-ends
returns-then-is_empty-clause-ends g c =
    let ends = c.in_ok-drain_reads.ensures.ends in
    let empty : length c.drain_reads.new.kept.items ≡ 0 = let is = c.if-is_empty.true in
    grind (arith, common_steps) in
    let all = prefixes-no_more g.A.LineSink.KEEP ends.0 g.met.A.LineSink.keeps_some ends.2.2 empty in (
      ends.0,
      ends.1,
      (
        ends.2.0,
        FoldsTo-prefixes g.A.LineSink.took g.A.LineSink.KEEP g.met.A.LineSink.took_by_kept _ _ (lines ends.0)
            (rw all ends.2.1),
      ),
    )

pub returns-in-Ok-clause-ends : goal.returns-in-Ok-clause-ends
returns-in-Ok-clause-ends g c =
    let ends = c.in_ok-drain_reads.ensures.ends in
    let some : 0 < length c.drain_reads.new.kept.items = let is = c.if-is_empty.false in
    grind (arith, common_steps) in
    let all = prefixes-some g.A.LineSink.KEEP ends.0 g.met.A.LineSink.keeps_some ends.2.2 some in
    let last = rw c.as_slice.ensures.value at c.in-Ok.ensures.took in (
      ends.0,
      ends.1,
      (
        ends.2.0,
        FoldsTo-prefixes g.A.LineSink.took g.A.LineSink.KEEP g.met.A.LineSink.took_by_kept _ _ (lines ends.0)
            (rw all (FoldsTo-append g.A.LineSink.took _ _ _ _ _ ends.2.1 (c.accept_line.new.self, last, refl))),
      ),
    )
