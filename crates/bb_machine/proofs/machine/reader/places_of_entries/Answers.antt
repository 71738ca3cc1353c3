use Rattle.std.proofs.Common.{◌≡◌, ℕ, ◌+◌, ◌-◌, ◌%◌, ◌≤◌, ◌<◌, ◌∙◌, ap, sym, cond, Bool, eqb, leb, get_or}
use Rattle.std.proofs.Common.{length, drop, arith, replicate, subst}
use Rattle.std.proofs.lemmas.List.{get_or-drop, length-drop}
use Rattle.std.proofs.lemmas.Simd.{length-chunk, get_or-chunk}
use lib.Lanes.{chunk, zip2}
use Rattle.bb_machine.proofs.Lanes.{mask_bit, compared, both, either, length-less, less_lane, test_of_bit}
use Rattle.bb_machine.proofs.Places.{entry_from, entry_passes, tests_of, is_entry}
use Rattle.bb_machine.proofs.machine.reader.places_of_entries.Goals as goal

pub returns : goal.returns
returns c k below =
    let bytes = c.args.bytes.now in
    let states : ℕ = c.args.states in
    let one = chunk 0 16 bytes in
    let two = chunk 1 16 bytes in
    let three = chunk 2 16 bytes in
    let long_one : length one ≡ 16 = length-chunk 0 16 bytes (omega (arith, c.requires.room)) in
    let long_two : length two ≡ 16 = length-chunk 1 16 bytes (omega (arith, c.requires.room)) in
    let long_three : length three ≡ 16 = length-chunk 2 16 bytes (omega (arith, c.requires.room)) in
    let dashes = both (compared eqb one 45 long_one) (compared eqb two 45 long_two) in
    let undefined = both dashes (compared eqb three 45 long_three) in
    let digit = either (compared eqb one 48 long_one) (compared eqb one 49 long_one) in
    let dir = either (compared eqb two 76 long_two) (compared eqb two 82 long_two) in
    let less = zip2 (λ a b. (a + (256 - b)) % 256) three (replicate 16 65) in
    let state = compared leb less (states - 1) (length-less three 65 long_three) in
    let next = either state (compared eqb three 90 long_three) in
    let at : (i : ℕ) → get_or (chunk i 16 bytes) k 0 ≡ get_or (drop k bytes) i 0 =
    λ i.
    get_or-chunk i 16 bytes k 0 below ∙ ap (λ n. get_or bytes n 0) (omega arith)
    ∙ sym (get_or-drop k bytes i 0) in
    let first : ℕ = get_or (drop k bytes) 0 0 in
    let second : ℕ = get_or (drop k bytes) 1 0 in
    let third : ℕ = get_or (drop k bytes) 2 0 in
    let tests =
    tests_of states (get_or one k 0) (get_or two k 0) (get_or three k 0) (get_or less k 0) first second third
    (at 0) (at 1) (at 2) (less_lane three 65 k long_three below) in
    let is : Bool = is_entry states first second third in
    let bit = mask_bit _ _ k is (either undefined (both (both digit dir) next)) below tests in
    let fits = (c.type_inv.bytes (k + 2)).fits in
    let few : states ≤ 25 = omega (arith, c.requires.states) in
    let room : 3 ≤ length (drop k bytes) = omega (arith, length-drop k bytes, c.requires.room, below) in (
      λ set. entry_from states (drop k bytes) c.requires.some few room
          (subst (λ n. n < 256) (sym (get_or-drop k bytes 2 0)) fits) (test_of_bit is (sym bit ∙ set)),
      λ e. bit ∙ ap (λ b. cond b 1 0) (entry_passes states (drop k bytes) few e.0 e.1 e.2),
    )
