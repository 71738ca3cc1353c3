use Rattle.std.proofs.Common.{ap, w64, of_z, ◌∙◌}
use Rattle.bb_cert.proofs.records.Records.is_kept_in_state_of.Goals as goal

pub returns : goal.returns
returns c = (
  λ yes.
      let same = c.is_in_same_state.ensures.0 yes in
      (λ e. c.if-position-eq0.false (ap (of_z w64) (c.position.ensures ∙ e)), same.0, same.1),
  λ kept. c.is_in_same_state.ensures.1 (kept.1, kept.2),
)
