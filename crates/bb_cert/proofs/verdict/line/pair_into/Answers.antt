use Rattle.std.proofs.Common.{append_assoc}
use Rattle.bb_cert.proofs.verdict.line.pair_into.Goals as goal

pub returns : goal.returns
returns g c =
    rw (
      c.append-3.ensures,
      c.push.ensures.items,
      c.append-2.ensures,
      c.append.ensures,
      c.as_bytes.ensures.value,
      c.as_bytes-2.ensures.value,
      c.format.ensures.text,
      c.format-2.ensures.text,
    )
    (simp append_assoc)
