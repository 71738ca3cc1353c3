use Rattle.std.proofs.Common.{append_assoc}
use Rattle.cover.proofs.report.add_halts.Goals as goal

pub returns : goal.returns
returns c =
    rw (
      c.in_ok-add_number.ensures,
      c.in_ok-add_counted.ensures,
      c.in_ok-extend_from_slice-3.ensures.items,
      c.in_ok-extend_from_slice-2.ensures.items,
      c.in_ok-extend_from_slice.ensures.items,
      c.outside_words.ensures,
    )
    (simp append_assoc)
