-- Which bytes aren't 0, as the bits of a number.
use Rattle.std.proofs.Common.{◌≡◌, ℕ, ◌<◌, ◌^◌, min, Bool, true, false, not, cond, eqb, List, map}
use Rattle.std.proofs.Common.{get_or, length, refl, subst, ap, ◌∙◌, arith}
use Rattle.std.specs.Int.{bit_at}
use Rattle.std.proofs.lemmas.Bool.{eqb-false}
use Rattle.std.proofs.lemmas.Bool.Decides.{Decides-eqb}
use Rattle.std.proofs.lemmas.List.{get_or-map, length-map}
use Rattle.std.proofs.lemmas.Simd.{bit_mask_l, mask_l-lt}
use lib.Lanes.{mask_l}
use Rattle.bb_tape.proofs.Slices.{differ}

one_if : (x : ℕ) (b : Bool) → eqb x 0 ≡ b → cond (not b) 1 0 ≡ min 1 x
one_if x true e = let none : x ≡ 0 = (Decides-eqb x 0).0 e in omega (arith, none)
one_if x false e = omega (arith, eqb-false x 0 e)

pub lane_bit : (xs : List ℕ) (k : ℕ) → k < length xs
    → bit_at (mask_l (map (λ x. differ x 0) xs)) k ≡ min 1 (get_or xs k 0)
lane_bit xs k inside =
    bit_mask_l (map (λ x. differ x 0) xs) k
    ∙ ap (λ b. cond b 1 0) (get_or-map (λ x. differ x 0) xs k 0 false inside)
    ∙ one_if (get_or xs k 0) (eqb (get_or xs k 0) 0) refl

pub lanes_small : (xs : List ℕ) → mask_l (map (λ x. differ x 0) xs) < 2 ^ length xs
lanes_small xs =
    subst (λ n. mask_l (map (λ x. differ x 0) xs) < 2 ^ n) (length-map xs (λ x. differ x 0))
    (mask_l-lt (map (λ x. differ x 0) xs))
