-- From where the reader stops to the longest prefix of the whole line.
use Rattle.std.proofs.Common.{◌≡◌, ℕ, ◌+◌, ◌-◌, ◌≤◌, List, [], ◌∷◌, ◌++◌, length, take, drop, sym, ◌∙◌, ap}
use Rattle.std.proofs.Common.{subst, inl, inr, arith}
use Rattle.std.proofs.lemmas.List.{append-nil, length-append, length-drop, length-take-le}
use Rattle.std.proofs.lemmas.List.{take_all}
use Rattle.std.proofs.lemmas.Bool.{cases_lt}
use Rattle.std.proofs.Math.Seq.{take-add}
use Rattle.bb_machine.specs.declared.machine.TheConstants.{MAX_STATES, MAX_SYMBOLS, LINE}
use Rattle.bb_machine.specs.Machine.{text}
use Rattle.bb_machine.specs.Column.{IsViableWithin, IsViable, IsLongestPrefix}
use Rattle.bb_machine.specs.inside.Draft.{Begun, begun_text, IsBegun, IsStopWithin, IsStop, table_of}
use Rattle.bb_machine.proofs.Texts.{text_on}
use Rattle.bb_machine.proofs.Viable.{viable_begun}
use Rattle.bb_machine.proofs.Lengths.{text_short}

-- where the rest of a line stops, the line does
pub stop_joined : (s k : ℕ) (line : List ℕ) (at n : ℕ) → at ≤ length line
    → IsStopWithin s k (take at line) (drop at line) n → IsStopWithin s k [] line (at + n)
stop_joined s k line at n here stop =
    record {
      within = omega (arith, length-drop at line, stop.within);
      holds = rw (take-add at n line) stop.holds;
      longest = longest;
    }
  where
    longest : (m : ℕ) → m ≤ length line → IsViableWithin s k (take m line) → m ≤ at + n
    longest m fits viable =
        elim (cases_lt at m) [
          | inl above ↦
              (let split : m ≡ at + (m - at) = omega arith in
              let parts : take m line ≡ take at line ++ take (m - at) (drop at line) =
              ap (λ z. take z line) split ∙ take-add at (m - at) line in
              let more : m - at ≤ n =
              stop.longest (m - at) (omega (arith, length-drop at line))
              (subst (λ z. IsViableWithin s k z) parts viable) in
              omega arith)
          | inr below ↦ omega arith
        ]

pub longest_prefix : (line : List ℕ) (n : ℕ) → IsStop [] line n → IsLongestPrefix IsViable line n
longest_prefix line n stop = record { within = stop.within; holds = stop.holds; longest = stop.longest }

-- no viable prefix is longer than the longest text
pub viable_bounded : (line : List ℕ) (n : ℕ) → n ≤ length line → IsViable (take n line) → n ≤ LINE
viable_bounded line n within viable =
    omega (
      arith,
      text_short MAX_STATES MAX_SYMBOLS viable.0 viable.1,
      ap length viable.2.1,
      length-append (take n line) viable.2.0,
      length-take-le n line within,
    )

pub prefix_bounded : (line : List ℕ) (n : ℕ) → IsLongestPrefix IsViable line n → n ≤ LINE
prefix_bounded line n prefix = viable_bounded line n prefix.within prefix.holds

-- a line that was read whole is its own longest prefix
pub whole_prefix : (line : List ℕ) (b : Begun) → IsBegun b → begun_text b ≡ line
    → IsLongestPrefix IsViable line (length line)
whole_prefix line b begun is =
    let all : take (length line) line ≡ line = take_all (length line) line (omega arith) in
    record {
      within = omega arith;
      holds = subst IsViable (is ∙ sym all) (viable_begun MAX_STATES MAX_SYMBOLS b begun);
      longest = λ m fits _. fits;
    }

-- the text of the table of what was read
pub text-table_of : (b : Begun) → text (table_of b) ≡ begun_text b
text-table_of b =
    ap (λ z. text (b.groups ++ z ∷ [])) (sym (append-nil b.group))
    ∙ (text_on b [] [] ∙ append-nil (begun_text b))
