-- Packed entries, one more below the others.
use Rattle.std.proofs.Common.{◌≡◌, ℕ, zero, suc, ◌+◌, ◌*◌, ◌/◌, ◌^◌, ◌<◌, ◌≤◌, ap, sym, subst}
use Rattle.std.proofs.Common.{◌∙◌, arith}
use Rattle.std.proofs.lemmas.Nat.{pow-add, div-mul-add}
use Rattle.std.proofs.Math.Nat.{div-div-eq-div-mul}
use Rattle.std.proofs.Math.Nat.{pow-le-pow_right}
use Rattle.bb_machine.specs.Machine.{Table, entry_of}
use Rattle.bb_machine.specs.Packed.{IsPackedEntry, ArePackedFrom}

next_place : (n code q : ℕ) → code < 512 → (n * 512 + code) / 2 ^ (9 * suc q) ≡ n / 2 ^ (9 * q)
next_place n code q small =
    let more : 9 * suc q ≡ 9 + 9 * q = omega arith in
    rw more (
    ap (λ m. (n * 512 + code) / m) (pow-add 2 9 (9 * q))
    ∙ sym (div-div-eq-div-mul (n * 512 + code) 512 (2 ^ (9 * q)))
    ∙ ap (λ m. m / 2 ^ (9 * q)) (div-mul-add n 512 code small))

pub packed_more : (table : Table) (symbol from n code : ℕ) → code < 512
    → ((m : ℕ) → IsPackedEntry (m * 512 + code) symbol (entry_of table from symbol))
    → ArePackedFrom table symbol (from + 1) n → ArePackedFrom table symbol from (n * 512 + code)
packed_more table symbol from n code small here rest zero inside =
    let same : from + 0 ≡ from = omega arith in
    let whole : n * 512 + code ≡ (n * 512 + code) / 2 ^ (9 * 0) = omega arith in
    let first : IsPackedEntry (n * 512 + code) symbol (entry_of table (from + 0) symbol) = rw same (here n) in
    subst (λ (k : ℕ). IsPackedEntry k symbol (entry_of table (from + 0) symbol)) whole first
packed_more table symbol from n code small here rest (suc q) inside =
    let same : from + suc q ≡ (from + 1) + q = omega arith in
    rw (next_place n code q small, same) (rest q (omega (arith, inside)))

pub packed_small : (n code left : ℕ) → code < 512 → n < 2 ^ (9 * left) → n * 512 + code < 2 ^ (9 * (left + 1))
packed_small n code left small h =
    let more : 9 * (left + 1) ≡ 9 * left + 9 = omega arith in
    rw (more, pow-add 2 (9 * left) 9) (omega (arith, h))

-- up to six entries leave room for one more
pub packed_room : (n left : ℕ) → left ≤ 6 → n < 2 ^ (9 * left) → n < 2 ^ 54
packed_room n left few h =
    omega (arith, h, pow-le-pow_right {n = 2} (omega arith) {i = 9 * left} {j = 54} (omega (arith, few)))
