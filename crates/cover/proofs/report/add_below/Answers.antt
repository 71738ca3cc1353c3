use Rattle.std.proofs.Common.{append_assoc}
use Rattle.cover.proofs.report.add_below.Goals as goal

pub returns : goal.returns
returns c =
    rw (
      c.in_ok-extend_from_slice-2.ensures.items,
      c.in_ok-extend_from_slice.ensures.items,
      c.as_slice.ensures.value,
      c.machine_text-words.ensures,
    )
    (simp append_assoc)
