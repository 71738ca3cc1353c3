-- Where the head goes nowhere in a period, the configuration comes again.
use Rattle.std.proofs.Common.{◌≡◌, ℕ, zero, suc, ◌+◌, ◌<◌, ◌⊎◌, inl, inr, Option, Some, None, ℤ, pos, ◌+ℤ◌}
use Rattle.std.proofs.Common.{◌-ℤ◌, ap, sym, subst, ◌∙◌, arith}
use Rattle.std.proofs.lemmas.Bool.{cases_lt}
use Rattle.std.proofs.lemmas.Int.{ints}
use Rattle.bb_machine.specs.declared.entry.Next.{Next}
use Rattle.bb_machine.specs.Machine.{Table}
use Rattle.bb_tape.specs.Content.{Content, blank, cell}
use Rattle.bb_tape.proofs.Facts.{by_position, cell-with_cell-other, same_content}
use Rattle.bb_sim.specs.Configuration.{Configuration}
use Rattle.bb_sim.specs.Run.{conf, Never}
use Rattle.bb_cert.specs.records.Record.{head_at}
use Rattle.bb_cert.proofs.Facts.{head_at-is, led_by, moves, steps_of_never}
use Rattle.bb_cert.specs.claims.Repeat.{Same}
use Rattle.laws_of_recurrence.specs.Recurrence.{Repeats, Transition, transition_at}
use Rattle.laws_of_recurrence.specs.Shift.{ZeroShiftIsCycle}
use Rattle.laws_of_recurrence.proofs.Pairs.{transition_at-is, used_by}
use Rattle.laws_of_recurrence.proofs.Shifts.{shift_is_one}

abbrev pub tape_of : Option Configuration → Content
tape_of None = blank
tape_of (Some c) = c.tape

-- the symbol of a cell at a step
abbrev pub symbol_at : Table → ℕ → ℤ → ℕ
symbol_at table n x = cell (tape_of (conf table n)) x

pub symbol_at-is : (table : Table) (n : ℕ) (x : ℤ) (c : Configuration) → conf table n ≡ Some c
    → symbol_at table n x ≡ cell c.tape x
symbol_at-is table n x c at = ap (λ o. cell (tape_of o) x) at

-- a step changes the cell under the head alone
unchanged : (table : Table) (never : Never table) (n : ℕ) (x : ℤ) → (x ≡ head_at table n → ⊥)
    → symbol_at table (suc n) x ≡ symbol_at table n x
unchanged table never n x apart =
    let moved = moves table n (steps_of_never table never (suc n)) in
    let led = led_by table moved.before moved.then_here moved.is_next in
    let head = head_at-is table n moved.before moved.at_before in
    symbol_at-is table (suc n) x moved.then_here moved.at_then
    ∙ ap (λ (c : Configuration). cell c.tape x) led.is
    ∙ cell-with_cell-other moved.before.tape moved.before.head led.write x (λ e. apart (e ∙ sym head))
    ∙ sym (symbol_at-is table n x moved.before moved.at_before)

-- nor do steps none of which stands there
unvisited : (table : Table) (never : Never table) (s k : ℕ) (x : ℤ)
    → ((j : ℕ) → j < k → x ≡ head_at table (s + j) → ⊥) → symbol_at table (s + k) x ≡ symbol_at table s x
unvisited table never s zero x none = let e : s + zero ≡ s = omega arith in ap (λ n. symbol_at table n x) e
unvisited table never s (suc k) x none =
    let e : s + suc k ≡ suc (s + k) = omega arith in
    ap (λ n. symbol_at table n x) e
    ∙ unchanged table never (s + k) x (none k (omega arith))
    ∙ unvisited table never s k x (λ j less. none j (omega (arith, less)))

-- the first visit of a cell within some steps
pub record IsFirstVisit (table : Table) (s k : ℕ) (x : ℤ) : Type 0 where
  pub at : ℕ
  pub soon : at < k
  pub here : x ≡ head_at table (s + at)
  pub none : (j : ℕ) → j < at → x ≡ head_at table (s + j) → ⊥

pub visited_or_not : (table : Table) (s k : ℕ) (x : ℤ)
    → IsFirstVisit table s k x ⊎ ((j : ℕ) → j < k → x ≡ head_at table (s + j) → ⊥)
visited_or_not table s zero x = inr (λ j less. absurd (omega (arith, less)))
visited_or_not table s (suc k) x = elim (visited_or_not table s k x) [
  | inl first ↦ inl (record {
    at = first.at;
    soon = let soon = first.soon in omega (arith, soon);
    here = first.here;
    none = first.none;
  })
  | inr none ↦ by_position x (head_at table (s + k)) _
      (λ e. inl (record { at = k; soon = omega arith; here = e; none = none }))
      (λ apart. inr (λ j less. elim (cases_lt j k) [
        | inl before ↦ none j before
        | inr more ↦
            let same : k ≡ j = omega (arith, less, more) in
            subst (λ i. x ≡ head_at table (s + i) → ⊥) same apart
      ]))
]

same_some : (p q : Transition) → Some p ≡ Some q → p ≡ q
same_some p q e = cc

-- the symbol under the head is that of the transition
under_head : (table : Table) (never : Never table) (n m : ℕ) → transition_at table m ≡ transition_at table n
    → symbol_at table m (head_at table m) ≡ symbol_at table n (head_at table n)
under_head table never n m same =
    let one = steps_of_never table never n in
    let two = steps_of_never table never m in
    let transitions : used_by two.here ≡ used_by one.here = same_some (used_by two.here) (used_by one.here)
    (sym (transition_at-is table m two.here two.exists) ∙ same
    ∙ transition_at-is table n one.here one.exists) in
    let symbols = ap (λ (t : Transition). t.symbol) transitions in
    symbol_at-is table m (head_at table m) two.here two.exists
    ∙ ap (cell two.here.tape) (head_at-is table m two.here two.exists) ∙ symbols
    ∙ sym (ap (cell one.here.tape) (head_at-is table n one.here one.exists))
    ∙ sym (symbol_at-is table n (head_at table n) one.here one.exists)

same_after : (x y d : ℤ) → x +ℤ d ≡ y +ℤ d → x ≡ y
same_after x y d same = omega (arith, ints, same)

no_shift : (x : ℤ) → x ≡ x +ℤ pos 0
no_shift x = omega (arith, ints)

-- a cell visited from the start on, and the one as far from it as the heads are apart, a period later
pub moved_symbol : (table : Table) (start period k : ℕ) (shift : ℤ) → Repeats table start period
    → ((j : ℕ) → head_at table ((start + period) + j) ≡ head_at table (start + j) +ℤ shift) → (x : ℤ)
    → IsFirstVisit table start k x
    → symbol_at table (start + period) (x +ℤ shift) ≡ symbol_at table start x
moved_symbol table start period k shift repeats moves_by x first =
    let never = repeats.never in
    let j = first.at in
    let y = x +ℤ shift in
    let again : transition_at table ((start + period) + j) ≡ transition_at table (start + j) =
    let e : (start + j) + period ≡ (start + period) + j = omega arith in
    ap (transition_at table) (sym e) ∙ repeats.again (start + j) (omega arith) in
    let under = under_head table never (start + j) ((start + period) + j) again in
    let one : symbol_at table (start + j) x ≡ symbol_at table start x =
    unvisited table never start j x first.none in
    let two : symbol_at table ((start + period) + j) y ≡ symbol_at table (start + period) y =
    unvisited table never (start + period) j y
    (λ i less e. first.none i less (same_after x (head_at table (start + i)) shift (e ∙ moves_by i))) in
    let there : y ≡ head_at table ((start + period) + j) =
    ap (λ z. z +ℤ shift) first.here ∙ sym (moves_by j) in
    let here : symbol_at table ((start + period) + j) y ≡ symbol_at table (start + j) x =
    ap (symbol_at table ((start + period) + j)) there ∙ under
    ∙ ap (symbol_at table (start + j)) (sym first.here) in
    sym two ∙ here ∙ one

-- the same cells, a period later
later_symbol : (table : Table) (start period : ℕ) → Repeats table start period
    → ((j : ℕ) → head_at table ((start + period) + j) ≡ head_at table (start + j)) → (x : ℤ)
    → symbol_at table (start + period) x ≡ symbol_at table start x
later_symbol table start period repeats stands x = elim (visited_or_not table start period x) [
  | inr none ↦ unvisited table repeats.never start period x none
  | inl first ↦
      ap (symbol_at table (start + period)) (no_shift x)
      ∙ moved_symbol table start period period (pos 0) repeats
      (λ j. stands j ∙ no_shift (head_at table (start + j))) x first
]

apart_none : (p q r s : ℤ) → p -ℤ q ≡ r -ℤ s → r ≡ s → p ≡ q
apart_none p q r s e same = omega (arith, ints, e, same)

abbrev made : Next → ℤ → Content → Configuration
made state head tape = record { state = state; head = head; tape = tape }

one_configuration : {s t : Next} {p q : ℤ} {a b : Content} → s ≡ t → p ≡ q → a ≡ b → made s p a ≡ made t q b
one_configuration states heads tapes = cc

same_configuration : (c d : Configuration) → c.state ≡ d.state → c.head ≡ d.head → c.tape ≡ d.tape → c ≡ d
same_configuration c d states heads tapes = one_configuration states heads tapes

-- a head that is where it was a period before comes to the same configuration
pub comes_again : (table : Table) (start period : ℕ) → Repeats table start period
    → head_at table (start + period) ≡ head_at table start → Same table start (start + period)
comes_again table start period repeats stands =
    let never = repeats.never in
    let one = steps_of_never table never start in
    let two = steps_of_never table never (start + period) in
    let each : (j : ℕ) → head_at table ((start + period) + j) ≡ head_at table (start + j) = λ j.
    let e : (start + j) + period ≡ (start + period) + j = omega arith in
    ap (head_at table) (sym e)
    ∙ apart_none _ _ _ _ (shift_is_one table start period (start + j) repeats (omega arith)) stands in
    let transitions : used_by two.here ≡ used_by one.here = same_some (used_by two.here) (used_by one.here)
    (sym (transition_at-is table (start + period) two.here two.exists) ∙ repeats.again start (omega arith)
    ∙ transition_at-is table start one.here one.exists) in
    let states = ap (λ (t : Transition). t.state) transitions in
    let heads = sym (head_at-is table (start + period) two.here two.exists) ∙ stands
    ∙ head_at-is table start one.here one.exists in
    let tapes = same_content two.here.tape one.here.tape (λ x.
    sym (symbol_at-is table (start + period) x two.here two.exists)
    ∙ later_symbol table start period repeats each x ∙ symbol_at-is table start x one.here one.exists) in
    record {
      here = one.here;
      at_first = one.exists;
      at_second = two.exists ∙ ap (λ (c : Configuration). Some c)
          (same_configuration two.here one.here states heads tapes);
    }

no_distance : (p q : ℤ) → pos 0 ≡ p -ℤ q → p ≡ q
no_distance p q zero_shift = omega (arith, ints)

distance_none : (p q : ℤ) → p ≡ q → pos 0 ≡ p -ℤ q
distance_none p q same = omega (arith, ints)

pub zero_shift_is_cycle : ZeroShiftIsCycle
zero_shift_is_cycle table start period repeats = (
  (λ zero_shift. comes_again table start period repeats (no_distance _ _ zero_shift)),
  (λ same.
      let one = head_at-is table start same.here same.at_first in
      let two = head_at-is table (start + period) same.here same.at_second in
      distance_none _ _ (two ∙ sym one)),
)
