use Rattle.std.proofs.Common.{arith}
use Rattle.bb_lines.proofs.Facts.{line_split, no_newline_before}
use Rattle.bb_run.proofs.Newlines.{slice_after}
use Rattle.bb_run.proofs.reply_validation.first_reply.Goals as goal

pub returns : goal.returns
returns c =
    let found = c.in_ok-at.ensures in
    let bytes = c.args.bytes.now in
    let at = c.in_ok-at.at in
    let none = no_newline_before bytes at (omega (arith, found.0.high)) found.0.before in
    rw (slice_after bytes at) (none, line_split bytes at found.0.high found.1)
