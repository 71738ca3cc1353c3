use Rattle.std.proofs.Common.{◌≡◌, ◌+◌, ◌<◌, [], ◌∷◌, length, take, drop, ap, arith, rules, sym}
use Rattle.std.proofs.Common.{◌∙◌, subst}
use Rattle.std.proofs.lemmas.List.{length-drop}
use Rattle.std.proofs.Math.Seq.{take-length}
use Rattle.bb_lines.specs.Lines.{HasNoNewline, lines}
use Rattle.bb_lines.proofs.Facts.{line_split, no_newline_before}
use Rattle.bb_run.proofs.Newlines.{lines_of_last, lines_of_line, slice_after}
use Rattle.bb_run.proofs.reply_validation.first_line.Goals as goal

pub returns-in-Some : goal.returns-in-Some
returns-in-Some c =
    let found = c.in-Some.ensures in
    let bytes = c.args.bytes.now in
    let at = c.in-Some.at in
    let none = no_newline_before bytes at (omega (arith, found.0.high)) found.0.before in
    let cut : lines bytes ≡ take at bytes ∷ lines (drop (at + 1) bytes) =
    ap lines (sym (line_split bytes at found.0.high found.1))
    ∙ lines_of_line (take at bytes) (drop (at + 1) bytes) none in
    rw (slice_after bytes at) (cut, none, omega (arith, length-drop (at + 1) bytes, found.0.high))

pub returns-in-None : goal.returns-in-None
returns-in-None c =
    let bytes = c.args.bytes.now in
    let none : HasNoNewline bytes =
    subst HasNoNewline (take-length bytes)
    (no_newline_before bytes (length bytes) (omega arith) c.in-None.ensures) in
    let some : 0 < length bytes = search rules in
    let last : c.as_slice.result.now ≡ [] = search rules in
    rw last (lines_of_last bytes none some, none, some)
