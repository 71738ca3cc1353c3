-- What stands in a machine's text.
use Rattle.std.proofs.Common.{◌≡◌, ◌≢◌, ℕ, ◌+◌, ◌<◌, List, [], ◌∷◌, ◌++◌, arith}
use Rattle.std.proofs.lemmas.List.Elements.{All-nil, All-cons, All-append}
use Rattle.bb_machine.specs.declared.entry.Dir.{Dir}
use Rattle.bb_machine.specs.declared.entry.Dir.TheVariants.{L, R}
use Rattle.bb_machine.specs.declared.entry.Next.{Next}
use Rattle.bb_machine.specs.declared.entry.Next.TheVariants.{State, Halt}
use Rattle.bb_machine.specs.declared.entry.Entry.{Entry}
use Rattle.bb_machine.specs.declared.entry.Entry.TheVariants.{Undefined, Go}
use Rattle.bb_machine.specs.Entry.{dir_letter, next_letter, entry_text}
use Rattle.bb_machine.specs.Machine.{IsMachine, group_text, text}
use Rattle.bb_machine.proofs.Facts.{tail_text}
use Rattle.bb_cert.proofs.verdict_lemmas.Spaces.{HasNoSpace}

three : (a b c : ℕ) → 32 < a → 32 < b → 32 < c → HasNoSpace (a ∷ b ∷ c ∷ [])
three a b c p q r =
    All-cons (λ byte. byte ≢ 32) a (b ∷ c ∷ []) (λ is. omega arith)
    (All-cons (λ byte. byte ≢ 32) b (c ∷ []) (λ is. omega arith)
    (All-cons (λ byte. byte ≢ 32) c [] (λ is. omega arith) (All-nil (λ byte. byte ≢ 32))))

dir_above : (d : Dir) → 32 < dir_letter d
dir_above L = omega arith
dir_above R = omega arith

next_above : (n : Next) → 32 < next_letter n
next_above (State q) = omega arith
next_above Halt = omega arith

entry_no_space : (e : Entry) → HasNoSpace (entry_text e)
entry_no_space Undefined = three 45 45 45 (omega arith) (omega arith) (omega arith)
entry_no_space (Go write dir next) = three (48 + write) (dir_letter dir) (next_letter next) (omega arith)
    (dir_above dir) (next_above next)

group_no_space : (g : List Entry) → HasNoSpace (group_text g)
group_no_space [] = All-nil (λ byte. byte ≢ 32)
group_no_space (e ∷ g) = All-append (λ byte. byte ≢ 32) (entry_text e) (group_text g) (entry_no_space e)
    (group_no_space g)

tail_no_space : (gs : List (List Entry)) → HasNoSpace (tail_text gs)
tail_no_space [] = All-nil (λ byte. byte ≢ 32)
tail_no_space (g ∷ gs) =
    All-cons (λ byte. byte ≢ 32) 95 (group_text g ++ tail_text gs) (λ is. omega arith)
    (All-append (λ byte. byte ≢ 32) (group_text g) (tail_text gs) (group_no_space g) (tail_no_space gs))

pub text_no_space : (table : List (List Entry)) → HasNoSpace (text table)
text_no_space [] = All-nil (λ byte. byte ≢ 32)
text_no_space (g ∷ gs) = All-append (λ byte. byte ≢ 32) (group_text g) (tail_text gs) (group_no_space g)
    (tail_no_space gs)

-- no machine's text begins with the letter `r`
pub text_no_r : (table : List (List Entry)) (rest more : List ℕ) → IsMachine table
    → text table ++ rest ≡ 114 ∷ more → ⊥
text_no_r [] rest more machine is = omega (arith, machine.some_state)
text_no_r ([] ∷ gs) rest more machine is = omega (arith, machine.two_symbols)
text_no_r ((Undefined ∷ g) ∷ gs) rest more machine is = let first : ◌≡◌ {A = ℕ} 45 114 = cc in omega arith
text_no_r ((Go write dir next ∷ g) ∷ gs) rest more machine is =
    let first : 48 + write ≡ 114 = cc in
    omega (arith, machine.symbols, machine.groups.0.entries.0.0)
