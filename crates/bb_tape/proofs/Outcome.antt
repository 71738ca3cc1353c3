-- What follows from a test, and from a call that may be refused.
use Rattle.std.proofs.Common.{◌≡◌, ◌↔◌, Bool, true, false, IsTrue, ap}
use Rattle.std.proofs.Common.{Result, Ok, Err, OnOk, OnErr, IfErr, is_ok}
use Rattle.std.specs.Bool.{Decides}

-- a test that decides P tells of what holds exactly where P does
pub tells : {P Q : Type 0} (b : Bool) → Decides b P → (P → Q) → (Q → P) → IsTrue b ↔ Q
tells b d to from = (λ t. to (d.0 t), λ q. d.1 (from q))

-- what holds whether the call was refused or not
pub settled : {T E P Q R : Type 0} (r : Result T E) → OnOk r P → OnErr r Q → (P → R) → (Q → R) → R
settled (Ok x) p q done refused = done p
settled (Err e) p q done refused = refused q

-- what holds where it wasn't
pub at_ok : {T E P : Type 0} (r : Result T E) → is_ok r ≡ true → OnOk r P → P
at_ok (Ok x) e p = p
at_ok (Err x) e p = cc

-- what a call that wasn't refused gives, where the one reason to refuse doesn't hold
pub admitted : {T E P Q : Type 0} {e : E} (r : Result T E) → OnOk r P → IfErr r (λ f. f ≡ e)
    → ((r ≡ Err e) ↔ Q) → (Q → ⊥) → P
admitted (Ok x) p only when never = p
admitted (Err f) p only when never = absurd (never (when.0 (ap Err only)))

-- where a test fails, what it tests for isn't so
pub refuted : {P : Type 0} (b : Bool) → b ≡ false → IsTrue b ↔ P → P → ⊥
refuted b fails is p = let so : b ≡ true = is.1 p in cc
