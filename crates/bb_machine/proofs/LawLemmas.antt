-- Why the laws hold.
use Rattle.std.proofs.Common.{◌≡◌, ℕ, ◌<◌, ◌≤◌, List, [], ◌∷◌, length, take, refl, sym, ◌∙◌, ap, subst}
use Rattle.std.proofs.Common.{inl, inr, arith}
use Rattle.std.proofs.lemmas.List.{append-nil, length-take, take_all, take-take}
use Rattle.std.proofs.lemmas.Bool.{cases_lt}
use Rattle.std.specs.List.{AllByRecursion}
use Rattle.bb_machine.specs.declared.machine.TheConstants.{MAX_STATES, MAX_SYMBOLS, LINE}
use Rattle.bb_machine.specs.declared.entry.Entry.{Entry}
use Rattle.bb_machine.specs.Machine.{IsMachine, IsMachineWithin, text}
use Rattle.bb_machine.specs.Column.{IsViable, IsLongestPrefix, IsColumn}
use Rattle.bb_machine.specs.inside.Draft.{Begun, begun_text, table_of}
use Rattle.bb_machine.specs.Laws.{PrefixIsEnough}
use Rattle.bb_machine.proofs.Texts.{ArePlain, GoesOn, text_peel}
use Rattle.bb_machine.proofs.Groups.{machine_plain, every-prefix, every-at}
use Rattle.bb_machine.proofs.Lengths.{text_short}
use Rattle.bb_machine.proofs.Prefixes.{prefix_bounded, viable_bounded, text-table_of}
use Rattle.bb_machine.proofs.Stops.{whole_text_by}

-- of two longest prefixes neither is longer
pub longest_unique : (P : List ℕ → Type 0) (line : List ℕ) (a b : ℕ) → IsLongestPrefix P line a
    → IsLongestPrefix P line b → a ≡ b
longest_unique P line a b p q =
    omega (arith, q.longest a p.within p.holds, p.longest b q.within q.holds)

pub column_unique : (line : List ℕ) (a b : ℕ) → IsColumn line a → IsColumn line b → a ≡ b
column_unique line a b p q = omega (arith, longest_unique IsViable line p.0 q.0 p.2 q.2, p.1, q.1)

module _ (line : List ℕ) (kept : ℕ) (many : LINE < kept) where
  short_text : (gs : List (List Entry)) → IsMachine gs → (bytes : List ℕ) → text gs ≡ bytes
      → length bytes ≤ LINE
  short_text gs machine bytes is = omega (arith, text_short MAX_STATES MAX_SYMBOLS gs machine, ap length is)

  same_when_short : length line ≤ LINE → take kept line ≡ line
  same_when_short short = take_all kept line (omega arith)

  kept_short : length (take kept line) ≤ LINE → length line ≤ LINE
  kept_short short =
      elim (cases_lt LINE (length line)) [
        | inl long ↦ absurd (omega (arith, length-take kept line))
        | inr fits ↦ fits
      ]

  pub same_text : (gs : List (List Entry)) → IsMachine gs
      → (text gs ≡ take kept line → text gs ≡ line) × (text gs ≡ line → text gs ≡ take kept line)
  same_text gs machine = (
    λ is. is ∙ same_when_short (kept_short (short_text gs machine (take kept line) is)),
    λ is. is ∙ sym (same_when_short (short_text gs machine line is)),
  )

  from_kept : (n : ℕ) → IsLongestPrefix IsViable (take kept line) n → IsLongestPrefix IsViable line n
  from_kept n prefix =
      let bound : n ≤ LINE = prefix_bounded (take kept line) n prefix in
      record {
        within = omega (arith, prefix.within, length-take kept line);
        holds = subst IsViable (take-take n kept line (omega arith)) prefix.holds;
        longest = λ m fits viable.
            let bound : m ≤ LINE = viable_bounded line m fits viable in
            prefix.longest m (omega (arith, length-take kept line))
            (subst IsViable (sym (take-take m kept line (omega arith))) viable);
      }

  to_kept : (n : ℕ) → IsLongestPrefix IsViable line n → IsLongestPrefix IsViable (take kept line) n
  to_kept n prefix =
      let bound : n ≤ LINE = prefix_bounded line n prefix in
      record {
        within = omega (arith, prefix.within, length-take kept line);
        holds = subst IsViable (sym (take-take n kept line (omega arith))) prefix.holds;
        longest = λ m fits viable.
            let low : m ≤ kept = omega (arith, length-take kept line) in
            prefix.longest m (omega (arith, length-take kept line))
            (subst IsViable (take-take m kept line low) viable);
      }

  pub prefix_enough : PrefixIsEnough line kept
  prefix_enough =
      record {
        same_text = same_text;
        same_column = λ column. (λ c. (c.0, c.1, from_kept c.0 c.2), λ c. (c.0, c.1, to_kept c.0 c.2));
      }

-- what comes before the last group
before_last : (g : List Entry) (gs : List (List Entry)) → Begun
before_last g [] = record { groups = []; group = g }
before_last g (h ∷ gs) = let b : Begun = before_last h gs in record { groups = g ∷ b.groups; group = b.group }

table_of-before_last : (g : List Entry) (gs : List (List Entry)) → table_of (before_last g gs) ≡ g ∷ gs
unfolding before_last
table_of-before_last g [] = refl
table_of-before_last g (h ∷ gs) = ap (λ z. g ∷ z) (table_of-before_last h gs)

text_unique_of : (b : Begun) (gs hs : List (List Entry)) → table_of b ≡ hs → IsMachine gs → IsMachine hs
    → text gs ≡ text hs → gs ≡ hs
text_unique_of b gs hs is p q same =
    let plain_of = machine_plain MAX_STATES MAX_SYMBOLS (omega arith) (omega arith) in
    let plain : AllByRecursion ArePlain (table_of b) = rw is (plain_of hs q) in
    let on : GoesOn b gs [] =
    text_peel b gs [] (every-prefix ArePlain b.groups (b.group ∷ []) plain)
    (every-at ArePlain b.groups b.group [] plain) (plain_of gs p) p.some_state
    (same ∙ (ap text (sym is) ∙ (text-table_of b ∙ sym (append-nil (begun_text b))))) in
    whole_text_by b gs on.entries on.rest on.is on.text_is ∙ is

-- different machines have different texts
pub text_unique : (gs hs : List (List Entry)) → IsMachine gs → IsMachine hs → text gs ≡ text hs → gs ≡ hs
text_unique gs [] p q same = absurd (omega (arith, q.some_state))
text_unique gs (h ∷ hs) p q same =
    text_unique_of (before_last h hs) gs (h ∷ hs) (table_of-before_last h hs) p q same

pub machine_of_smaller : (most_states most_symbols : ℕ) (gs : List (List Entry)) → most_states ≤ MAX_STATES
    → most_symbols ≤ MAX_SYMBOLS → IsMachineWithin most_states most_symbols gs → IsMachine gs
machine_of_smaller most_states most_symbols gs few_states few_symbols machine =
    record {
      some_state = machine.some_state;
      states = omega (arith, machine.states);
      two_symbols = machine.two_symbols;
      symbols = omega (arith, machine.symbols);
      groups = machine.groups;
    }
