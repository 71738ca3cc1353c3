-- How long texts are.
use Rattle.std.proofs.Common.{◌≡◌, ℕ, ◌+◌, ◌-◌, ◌*◌, ◌<◌, ◌≤◌, List, [], ◌∷◌, ◌++◌, length, take, drop}
use Rattle.std.proofs.Common.{get_or, refl, sym, ◌∙◌, ap, append_assoc, zero-mul, arith}
use Rattle.std.proofs.lemmas.List.{append-nil, length-append, take-append-drop, take_more, length-take-le}
use Rattle.std.proofs.lemmas.List.Elements.{All-from_recursion}
use Rattle.std.proofs.lemmas.List.Concat.{flat_map-append}
use Rattle.std.proofs.Math.Nat.{mul-le-mul}
use Rattle.std.specs.List.{AllByRecursion}
use Rattle.bb_machine.specs.declared.entry.Entry.{Entry}
use Rattle.bb_machine.specs.Entry.{entry_text}
use Rattle.bb_machine.specs.Machine.{symbols_of, IsGroup, IsMachineWithin, group_text, text}
use Rattle.bb_machine.proofs.Texts.{tail_text}
use Rattle.bb_machine.proofs.Stops.{entry_length}

pub length-group_text : (g : List Entry) → length (group_text g) ≡ 3 * length g
length-group_text [] = refl
length-group_text (e ∷ g) =
    omega (arith, length-append (entry_text e) (group_text g), entry_length e, length-group_text g)

length-tail_text : (n m : ℕ) (gs : List (List Entry)) → AllByRecursion (IsGroup n m) gs
    → length (tail_text gs) ≡ length gs * (3 * m + 1)
length-tail_text n m [] _ = sym (zero-mul (3 * m + 1))
length-tail_text n m (g ∷ gs) p =
    omega (
      arith,
      length-append (group_text g) (tail_text gs),
      length-group_text g,
      p.0.full,
      length-tail_text n m gs p.1,
    )

pub length-text : (n m : ℕ) (gs : List (List Entry)) → 0 < length gs → AllByRecursion (IsGroup n m) gs
    → length (text gs) + 1 ≡ length gs * (3 * m + 1)
length-text n m [] some _ = absurd (omega arith)
length-text n m (g ∷ gs) _ p = omega (arith, length-tail_text n m (g ∷ gs) p)

-- no text is longer than that of the greatest machines
pub text_short : (s k : ℕ) (gs : List (List Entry)) → IsMachineWithin s k gs
    → length (text gs) ≤ s * (3 * k + 1) - 1
text_short s k gs machine =
    let is = length-text (length gs) (symbols_of gs) gs machine.some_state machine.groups in
    let most : length gs * (3 * symbols_of gs + 1) ≤ s * (3 * k + 1) =
    mul-le-mul machine.states (omega (arith, machine.symbols)) in
    omega arith

-- a table's first groups have a text that is no longer than the whole text
pub length-text-prefix : (xs ys : List (List Entry)) → length (text xs) ≤ length (text (xs ++ ys))
length-text-prefix [] ys = omega arith
length-text-prefix (g ∷ gs) ys =
    omega (
      arith,
      ap length (flat_map-append (λ y. (95 ∷ []) ++ group_text y) gs ys),
      length-append (tail_text gs) (tail_text ys),
      length-append (group_text g) (tail_text gs),
      length-append (group_text g) (tail_text (gs ++ ys)),
    )

pub text-push : (gs : List (List Entry)) (g : List Entry) → 0 < length gs
    → text (gs ++ g ∷ []) ≡ text gs ++ 95 ∷ group_text g
text-push [] g some = absurd (omega arith)
text-push (h ∷ gs) g _ =
    rw (flat_map-append (λ y. (95 ∷ []) ++ group_text y) gs (g ∷ []), append-nil) (simp append_assoc)

-- the first group's text
pub text-first : (gs : List (List Entry)) → 0 < length gs
    → text (take (0 + 1) gs) ≡ group_text (get_or gs 0 [])
text-first [] some = absurd (omega arith)
text-first (g ∷ gs) _ = append-nil (group_text g)

-- one more group
pub text-more : (gs : List (List Entry)) (n : ℕ) → 0 < n → n < length gs
    → text (take (n + 1) gs) ≡ text (take n gs) ++ 95 ∷ group_text (get_or gs n [])
text-more gs n some below =
    rw (take_more gs n [] below) (text-push (take n gs) (get_or gs n []) (omega (arith, length-take-le n gs)))

length-text-take : (n : ℕ) (gs : List (List Entry)) → length (text (take n gs)) ≤ length (text gs)
length-text-take n gs = rw take-append-drop at (length-text-prefix (take n gs) (drop n gs))

length-group_of : (s k : ℕ) (gs : List (List Entry)) (n : ℕ) → IsMachineWithin s k gs → n < length gs
    → length (group_text (get_or gs n [])) ≡ 3 * symbols_of gs
length-group_of s k gs n machine below =
    let group = All-from_recursion (IsGroup (length gs) (symbols_of gs)) gs machine.groups n [] below in
    length-group_text (get_or gs n []) ∙ ap (λ z. 3 * z) group.full

-- where the text of a whole table has room, that of its first groups and one more has
pub text_room_first : (s k : ℕ) (gs : List (List Entry)) → IsMachineWithin s k gs
    → 3 * symbols_of gs ≤ length (text gs)
text_room_first s k gs machine =
    omega (
      arith,
      length-text-take (0 + 1) gs,
      ap length (text-first gs machine.some_state),
      length-group_of s k gs 0 machine machine.some_state,
    )

pub text_room : (s k : ℕ) (gs : List (List Entry)) (n : ℕ) → IsMachineWithin s k gs → 0 < n → n < length gs
    → length (text (take n gs)) + 1 + 3 * symbols_of gs ≤ length (text gs)
text_room s k gs n machine some below =
    omega (
      arith,
      length-text-take (n + 1) gs,
      ap length (text-more gs n some below),
      length-append (text (take n gs)) (95 ∷ group_text (get_or gs n [])),
      length-group_of s k gs n machine below,
    )
