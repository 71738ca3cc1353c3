use Rattle.std.proofs.Common.{inl}
use Rattle.bb_c.proofs.Given.{filled_by, too_short_by}
use Rattle.bb_c.proofs.lines.bb_line_of.Goals as goal

pub returns-in-Ok-lines_of-clause-replies : goal.returns-in-Ok-lines_of-clause-replies
returns-in-Ok-lines_of-clause-replies c = λ is.
    let replies = rw c.in-Ok.ensures.given at c.in-Ok-lines_of.ensures in
    filled_by _ _ _ _ _ _ (c.fill_buffer.ensures.filled (inl is)) c.as_slice.ensures.value replies

pub returns-in-Ok-lines_of-clause-short : goal.returns-in-Ok-lines_of-clause-short
returns-in-Ok-lines_of-clause-short c = λ is.
    let replies = rw c.in-Ok.ensures.given at c.in-Ok-lines_of.ensures in
    too_short_by _ _ _ _ _ _ (c.fill_buffer.ensures.short is) c.as_slice.ensures.value replies
