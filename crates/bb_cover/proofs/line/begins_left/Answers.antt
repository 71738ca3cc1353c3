use Rattle.std.proofs.Common.{◌≡◌, Bool, true, false, IsTrue, inl, inr, refl}
use Rattle.std.specs.Prelude.{◌⊎◌}
use Rattle.bb_cover.proofs.line.begins_left.Goals as goal

by_case : (b : Bool) (P : Type 0) → (IsTrue b → P) → (b ≡ false) ⊎ P
by_case false P holds = inl refl
by_case true P holds = inr (holds refl)

pub returns-clause-empty : goal.returns-clause-empty
returns-clause-empty c = by_case c.is_empty.result _ c.is_empty.ensures.0
