-- Groups, and what every entry of them names.
use Rattle.std.proofs.Common.{◌≡◌, ℕ, zero, suc, ◌<◌, ◌≤◌, List, [], ◌∷◌, ◌++◌, length, replicate, refl}
use Rattle.std.proofs.Common.{arith}
use Rattle.std.specs.List.{AllByRecursion}
use Rattle.bb_machine.specs.declared.entry.Next.{Next}
use Rattle.bb_machine.specs.declared.entry.Next.TheVariants.{State, Halt}
use Rattle.bb_machine.specs.declared.entry.Entry.{Entry}
use Rattle.bb_machine.specs.declared.entry.Entry.TheVariants.{Undefined, Go}
use Rattle.bb_machine.specs.Entry.{IsNextOf, IsEntryOf}
use Rattle.bb_machine.specs.Machine.{symbols_of, IsGroup, IsMachineWithin}
use Rattle.bb_machine.specs.inside.Draft.{symbols_limit}
use Rattle.bb_machine.proofs.Texts.{ArePlain}

module _ {X : Type 0} (P : X → Type 0) where
  pub every-append : (xs ys : List X) → AllByRecursion P xs → AllByRecursion P ys
      → AllByRecursion P (xs ++ ys)
  every-append [] ys _ q = q
  every-append (x ∷ xs) ys p q = (p.0, every-append xs ys p.1 q)

  pub every-push : (xs : List X) (y : X) → AllByRecursion P xs → P y → AllByRecursion P (xs ++ y ∷ [])
  every-push xs y p q = every-append xs (y ∷ []) p (q, tt)

  pub every-replicate : (n : ℕ) (x : X) → P x → AllByRecursion P (replicate n x)
  every-replicate zero x p = tt
  every-replicate (suc n) x p = (p, every-replicate n x p)

  pub every-at : (xs : List X) (y : X) (ys : List X) → AllByRecursion P (xs ++ y ∷ ys) → P y
  every-at [] y ys p = p.0
  every-at (x ∷ xs) y ys p = every-at xs y ys p.1

  pub every-prefix : (xs ys : List X) → AllByRecursion P (xs ++ ys) → AllByRecursion P xs
  every-prefix [] ys _ = tt
  every-prefix (x ∷ xs) ys p = (p.0, every-prefix xs ys p.1)

pub every-weaker : {X : Type 0} (P Q : X → Type 0) → ((x : X) → P x → Q x) → (xs : List X)
    → AllByRecursion P xs → AllByRecursion Q xs
every-weaker P Q f [] _ = tt
every-weaker P Q f (x ∷ xs) p = (f x p.0, every-weaker P Q f xs p.1)

next_weaker : (s t : ℕ) → s ≤ t → (n : Next) → IsNextOf s n → IsNextOf t n
next_weaker s t h (State q) p = omega arith
next_weaker s t h Halt p = tt

-- an entry that names only few states and symbols names only more of them
pub entry_weaker : (s t k m : ℕ) → s ≤ t → k ≤ m → (e : Entry) → IsEntryOf s k e → IsEntryOf t m e
entry_weaker s t k m h j Undefined p = tt
entry_weaker s t k m h j (Go w d n) p = let below : w < k = p.0 in (omega arith, next_weaker s t h n p.1)

pub entries_weaker : (s t k m : ℕ) → s ≤ t → k ≤ m → (g : List Entry) → AllByRecursion (IsEntryOf s k) g
    → AllByRecursion (IsEntryOf t m) g
entries_weaker s t k m h j g p = every-weaker (IsEntryOf s k) (IsEntryOf t m) (entry_weaker s t k m h j) g p

pub groups_plain : (s k : ℕ) → s ≤ 25 → k ≤ 10 → (gs : List (List Entry)) → AllByRecursion (IsGroup s k) gs
    → AllByRecursion ArePlain gs
groups_plain s k h j gs p =
    every-weaker (IsGroup s k) ArePlain (λ g q. entries_weaker s 25 k 10 h j g q.entries) gs p

pub machine_plain : (s k : ℕ) → s ≤ 25 → k ≤ 10 → (gs : List (List Entry)) → IsMachineWithin s k gs
    → AllByRecursion ArePlain gs
machine_plain s k h j gs m =
    let states : length gs ≤ 25 = omega (arith, m.states) in
    let symbols : symbols_of gs ≤ 10 = omega (arith, m.symbols) in
    groups_plain (length gs) (symbols_of gs) states symbols gs m.groups

-- the groups that were read fix the number of symbols, or no group was closed yet
pub symbols_within : (most : ℕ) (gs : List (List Entry)) (h : List Entry) (rest : List (List Entry))
    → symbols_of (gs ++ h ∷ rest) ≤ most → symbols_of (gs ++ h ∷ rest) ≤ symbols_limit most gs
symbols_within most [] h rest p = p
symbols_within most (g ∷ gs) h rest p = omega arith

pub symbols_fixed : (most : ℕ) (gs : List (List Entry)) (h : List Entry) (rest : List (List Entry))
    → length h ≡ symbols_limit most gs → symbols_of (gs ++ h ∷ rest) ≡ symbols_limit most gs
symbols_fixed most [] h rest p = p
symbols_fixed most (g ∷ gs) h rest p = refl

-- with the number of symbols and of states written out
pub machine_by : (s k m n : ℕ) (gs : List (List Entry)) → 0 < n → n ≤ s → 2 ≤ m → m ≤ k → length gs ≡ n
    → symbols_of gs ≡ m → AllByRecursion (IsGroup n m) gs → IsMachineWithin s k gs
machine_by s k m n gs some states two symbols is_n is_m p =
    record {
      some_state = rw is_n some;
      states = rw is_n states;
      two_symbols = rw is_m two;
      symbols = rw is_m symbols;
      groups = rw (is_n, is_m) p;
    }
