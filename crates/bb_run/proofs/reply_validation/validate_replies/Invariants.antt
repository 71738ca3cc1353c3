use Rattle.std.proofs.Common.{◌≡◌, ◌+◌, ◌≤◌, length}
use Rattle.bb_lines.specs.Lines.{lines}
use Rattle.bb_run.specs.Validation.{counts_of}
use Rattle.bb_run.proofs.Validations.{IsValidated}
use Rattle.bb_run.proofs.reply_validation.validate_replies.Given as goal

-- some lines are looked at, and their replies counted by their kinds
abbrev pub invariant-loop-line : goal.invariant-loop-line
invariant-loop-line l = record {
  validated : IsValidated (lines l.list) (lines l.lines_left) l.replies l.replies_left l.looked.lines;
  are_counts : l.looked.counts ≡ counts_of validated.kinds;
  few : l.looked.lines + length l.lines_left ≤ length l.list;
}

abbrev pub decreases-loop-line : goal.decreases-loop-line
decreases-loop-line l = length l.lines_left
