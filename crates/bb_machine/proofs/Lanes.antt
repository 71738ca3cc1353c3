-- Vectors of 16 bytes whose lanes are tests, and the bits of their masks.
use Rattle.std.proofs.Common.{◌≡◌, ℕ, ◌+◌, ◌-◌, ◌%◌, ◌^◌, ◌<◌, ◌≤◌, Bool, true, false, cond, ◌&&◌, ◌||◌}
use Rattle.std.proofs.Common.{List, length, get_or, map, replicate, bit_and, bit_or, ap, ap₂, ◌∙◌, refl, sym}
use Rattle.std.proofs.Common.{arith}
use Rattle.std.specs.Int.{bit_at}
use Rattle.std.proofs.lemmas.List.{get_or-map, length-map}
use Rattle.std.proofs.lemmas.Simd.{length-zip2, get_or-zip2, length-replicate, get_or-replicate}
use Rattle.std.proofs.lemmas.Simd.{mask_l-mod, bit_mask_l}
use lib.Lanes.{zip2, mask_l, top}

-- all bits of a lane are set where the test passes, and else none
pub record AreTests (xs : List ℕ) (p : ℕ → Bool) : Type 0 where
  pub count : length xs ≡ 16
  pub lane : (k : ℕ) → k < 16 → get_or xs k 0 ≡ cond (p k) 255 0

-- a bit of their mask
top_of : (b : Bool) → top 7 (cond b 255 0) ≡ b
top_of true = refl
top_of false = refl

pub mask_bit : (xs : List ℕ) (p : ℕ → Bool) (k : ℕ) (b : Bool) → AreTests xs p → k < 16 → p k ≡ b
    → bit_at (mask_l (map (top 7) xs) % 2 ^ 64) k ≡ cond b 1 0
mask_bit xs p k b tests below is =
    let short : length (map (top 7) xs) ≤ 64 = omega (arith, length-map xs (top 7), tests.count) in
    let inside : k < length xs = omega (arith, below, tests.count) in
    ap (λ n. bit_at n k) (mask_l-mod (map (top 7) xs) 64 short)
    ∙ bit_mask_l (map (top 7) xs) k
    ∙ ap (λ t. cond t 1 0)
    (get_or-map (top 7) xs k 0 false inside ∙ ap (top 7) (tests.lane k below) ∙ top_of (p k) ∙ is)

-- a comparison with a byte
pub compared : (t : ℕ → ℕ → Bool) (xs : List ℕ) (y : ℕ) → length xs ≡ 16
    → AreTests (zip2 (λ a b. cond (t a b) 255 0) xs (replicate 16 y)) (λ k. t (get_or xs k 0) y)
compared t xs y long =
    let same : length xs ≡ length (replicate 16 y) = long ∙ sym (length-replicate 16 y) in
    record {
      count = length-zip2 (λ a b. cond (t a b) 255 0) xs (replicate 16 y) same ∙ long;
      lane = λ k below.
          get_or-zip2 (λ a b. cond (t a b) 255 0) xs (replicate 16 y) k 0 0 0 (omega (arith, long, below))
          (omega (arith, same, long, below))
          ∙ ap (λ b. cond (t (get_or xs k 0) b) 255 0) (get_or-replicate 16 k y 0 below);
    }

and_lanes : (a b : Bool) → bit_and (cond a 255 0) (cond b 255 0) ≡ cond (a && b) 255 0
and_lanes true true = refl
and_lanes true false = refl
and_lanes false true = refl
and_lanes false false = refl

or_lanes : (a b : Bool) → bit_or (cond a 255 0) (cond b 255 0) ≡ cond (a || b) 255 0
or_lanes true true = refl
or_lanes true false = refl
or_lanes false true = refl
or_lanes false false = refl

module _ {xs ys : List ℕ} {p q : ℕ → Bool} (one : AreTests xs p) (two : AreTests ys q) where
  joined : (h : ℕ → ℕ → ℕ) (j : Bool → Bool → Bool)
      → ((a b : Bool) → h (cond a 255 0) (cond b 255 0) ≡ cond (j a b) 255 0)
      → AreTests (zip2 h xs ys) (λ k. j (p k) (q k))
  joined h j is =
      record {
        count = length-zip2 h xs ys (one.count ∙ sym two.count) ∙ one.count;
        lane = λ k below.
            get_or-zip2 h xs ys k 0 0 0 (omega (arith, one.count, below)) (omega (arith, two.count, below))
            ∙ ap₂ h (one.lane k below) (two.lane k below) ∙ is (p k) (q k);
      }

  pub both : AreTests (zip2 bit_and xs ys) (λ k. p k && q k)
  both = joined bit_and (λ a b. a && b) and_lanes

  pub either : AreTests (zip2 bit_or xs ys) (λ k. p k || q k)
  either = joined bit_or (λ a b. a || b) or_lanes

-- what is taken from each lane of a vector
pub length-less : (xs : List ℕ) (y : ℕ) → length xs ≡ 16
    → length (zip2 (λ a b. (a + (256 - b)) % 256) xs (replicate 16 y)) ≡ 16
length-less xs y long =
    length-zip2 (λ a b. (a + (256 - b)) % 256) xs (replicate 16 y) (long ∙ sym (length-replicate 16 y)) ∙ long

pub less_lane : (xs : List ℕ) (y k : ℕ) → length xs ≡ 16 → k < 16
    → get_or (zip2 (λ a b. (a + (256 - b)) % 256) xs (replicate 16 y)) k 0 ≡ (get_or xs k 0 + (256 - y)) % 256
less_lane xs y k long below =
    get_or-zip2 (λ a b. (a + (256 - b)) % 256) xs (replicate 16 y) k 0 0 0 (omega (arith, long, below))
    (omega (arith, length-replicate 16 y, below))
    ∙ ap (λ b. (get_or xs k 0 + (256 - b)) % 256) (get_or-replicate 16 k y 0 below)

pub test_of_bit : (b : Bool) → ◌≡◌ {A = ℕ} (cond b 1 0) 1 → b ≡ true
test_of_bit true is = refl
test_of_bit false is = absurd (omega (arith, is))
