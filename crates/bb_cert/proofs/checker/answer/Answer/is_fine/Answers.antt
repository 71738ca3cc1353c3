use Rattle.std.proofs.Common.{inl, inr, refl}
use Rattle.bb_cert.proofs.checker.answer.Answer.is_fine.Goals as goal

pub returns-in-Bad : goal.returns-in-Bad
returns-in-Bad c = elim c.in-Bad.is [
  | inl e ↦ rw e refl
  | inr e ↦ rw e refl
]
