-- Why a machine recurs as its line does.
use Rattle.std.proofs.Common.{◌≡◌, ◌↔◌, ℕ, ◌+◌, Some, ℤ, ◌-ℤ◌, ap, ap₂, sym, subst, ◌∙◌}
use Rattle.bb_machine.specs.declared.entry.Next.{Next}
use Rattle.bb_machine.specs.declared.entry.Next.TheVariants.{State}
use Rattle.bb_machine.specs.Machine.{Table}
use Rattle.bb_sim.specs.Run.{Exists, Never}
use Rattle.bb_cert.specs.records.Record.{head_at}
use Rattle.bb_cert.proofs.Facts.{head_at-is, steps_of_never}
use Rattle.laws_of_verdicts.specs.Change.{Change, changed_next, placed}
use Rattle.laws_of_verdicts.specs.LineOf.{CompletesChanged}
use Rattle.laws_of_verdicts.proofs.Facts.{back, cell_at, line_image, never_there, next-back, placed-subtract}
use Rattle.laws_of_recurrence.specs.Lines.{LinesKeepRecurrences, changed_part, changed_transition}
use Rattle.laws_of_recurrence.specs.Recurrence.{Repeats, RepeatsExactly, Transition, transition_at}
use Rattle.laws_of_recurrence.specs.Shift.{IsShift}
use Rattle.laws_of_recurrence.specs.Uses.{IsIn, IsLastUse, IsQuasihalt, TablePart, Uses, of_state, of_transition}
use Rattle.laws_of_recurrence.proofs.Pairs.{transition_at-is, used_by}

module _ (change : Change) (table machine : Table) (done : CompletesChanged change table machine)
    (never : Never table) where
  here : (n : ℕ) → Exists table n
  here n = steps_of_never table never n

  -- the transition that the machine uses at a step
  abbrev used : ℕ → Transition
  used n = used_by (here n).here

  used_there : (n : ℕ) → transition_at table n ≡ Some (used n)
  used_there n = transition_at-is table n (here n).here (here n).exists

  renamed : (n : ℕ) → transition_at machine n ≡ Some (changed_transition change (used n))
  renamed n =
      let image = line_image change table machine done n (here n).here (here n).exists in
      let state = image.image.state in
      let symbol = cell_at change (here n).here image.there image.image (here n).here.head image.there.head
      image.image.head in
      transition_at-is machine n image.there image.exists
      ∙ (λ i. Some (record { state = state i; symbol = symbol i }))

  -- the old name of a state
  abbrev changed_next_back : Next → Next
  changed_next_back = changed_next (back change)

  -- each transition has a name of its own
  one_old : (a b : Transition) → changed_transition change a ≡ changed_transition change b → a ≡ b
  one_old a b same =
      let states = ap (λ (t : Transition). t.state) same in
      let symbols = ap (λ (t : Transition). t.symbol) same in
      let state = sym (next-back change a.state) ∙ ap changed_next_back states
      ∙ next-back change b.state in
      let symbol = sym (change.symbols.old_of_new a.symbol) ∙ ap change.symbols.old symbols
      ∙ change.symbols.old_of_new b.symbol in
      λ i. record { state = state i; symbol = symbol i }

  alike : (m n : ℕ) → transition_at table m ≡ transition_at table n → transition_at machine m ≡ transition_at machine n
  alike m n same =
      let one = used_there m in
      let two = used_there n in
      let is : used m ≡ used n = cc (one, two, same) in
      renamed m ∙ ap (λ t. Some (changed_transition change t)) is ∙ sym (renamed n)

  alike_before : (m n : ℕ) → transition_at machine m ≡ transition_at machine n
      → transition_at table m ≡ transition_at table n
  alike_before m n same =
      let one = renamed m in
      let two = renamed n in
      let is : changed_transition change (used m) ≡ changed_transition change (used n) = cc (one, two, same) in
      used_there m ∙ ap Some (one_old (used m) (used n) is) ∙ sym (used_there n)

  repeats : (s p : ℕ) → Repeats table s p → Repeats machine s p
  repeats s p is = record {
    some = is.some;
    never = never_there change table machine done never;
    again = λ n late. alike (n + p) n (is.again n late);
  }

  repeats_before : (s p : ℕ) → Repeats machine s p → Repeats table s p
  repeats_before s p is = record {
    some = is.some;
    never = never;
    again = λ n late. alike_before (n + p) n (is.again n late);
  }

  exact : (start period : ℕ) → RepeatsExactly table start period → RepeatsExactly machine start period
  exact start period is = record {
    repeats = repeats start period is.repeats;
    least_period = λ s p other. is.least_period s p (repeats_before s p other);
    least_start = λ s p other. is.least_start s p (repeats_before s p other);
  }

  head_there : (n : ℕ) → head_at machine n ≡ placed change.mirrored (head_at table n)
  head_there n =
      let image = line_image change table machine done n (here n).here (here n).exists in
      head_at-is machine n image.there image.exists ∙ image.image.head
      ∙ ap (placed change.mirrored) (sym (head_at-is table n (here n).here (here n).exists))

  shifted : (start period : ℕ) (shift : ℤ) → IsShift table start period shift
      → IsShift machine start period (placed change.mirrored shift)
  shifted start period shift is =
      ap (placed change.mirrored) is
      ∙ placed-subtract change.mirrored (head_at table (start + period)) (head_at table start)
      ∙ sym (ap₂ (λ p q. p -ℤ q) (head_there (start + period)) (head_there start))

  -- what a step uses

  is_in : (part : TablePart) (t : Transition) → IsIn part t → IsIn (changed_part change part) (changed_transition change t)
  is_in (of_state state) t is = ap (changed_next change) is
  is_in (of_transition one) t is = ap (changed_transition change) is

  is_in_before : (part : TablePart) (t : Transition) → IsIn (changed_part change part) (changed_transition change t)
      → IsIn part t
  is_in_before (of_state state) t is =
      sym (next-back change t.state) ∙ ap changed_next_back is ∙ next-back change (State state)
  is_in_before (of_transition one) t is = one_old t one is

  uses : (part : TablePart) (n : ℕ) → Uses table part n ↔ Uses machine (changed_part change part) n
  uses part n = (
    λ given.
        let one = used_there n in
        let two = given.at in
        let is : given.transition ≡ used n = cc (one, two) in
        record {
          transition = changed_transition change (used n);
          at = renamed n;
          is_in = is_in part (used n) (subst (IsIn part) is given.is_in);
        },
    λ given.
        let one = renamed n in
        let two = given.at in
        let is : given.transition ≡ changed_transition change (used n) = cc (one, two) in
        record {
          transition = used n;
          at = used_there n;
          is_in = is_in_before part (used n) (subst (IsIn (changed_part change part)) is given.is_in);
        },
  )

  last_use : (part : TablePart) (n : ℕ) → IsLastUse table part n → IsLastUse machine (changed_part change part) n
  last_use part n is = record {
    used = (uses part n).0 is.used;
    last = λ m later also. is.last m later ((uses part m).1 also);
  }

  last_use_before : (part : TablePart) (n : ℕ) → IsLastUse machine (changed_part change part) n → IsLastUse table part n
  last_use_before part n is = record {
    used = (uses part n).1 is.used;
    last = λ m later also. is.last m later ((uses part m).0 also);
  }

  quasihalts : (steps : ℕ) → IsQuasihalt table steps → IsQuasihalt machine steps
  quasihalts steps is = record {
    never = never_there change table machine done never;
    state = change.states.new is.state;
    step = is.step;
    last_of_steps = is.last_of_steps;
    last = last_use (of_state is.state) is.step is.last;
    latest = λ other m last. is.latest (change.states.old other) m
        (last_use_before (of_state (change.states.old other)) m
        (subst (λ q. IsLastUse machine (of_state q) m) (sym (change.states.new_of_old other)) last));
  }

pub lines_keep_recurrences : LinesKeepRecurrences
lines_keep_recurrences change table machine done never = record {
  exact = exact change table machine done never;
  shift = shifted change table machine done never;
  uses = uses change table machine done never;
  quasihalts = quasihalts change table machine done never;
}
