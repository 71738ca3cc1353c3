-- How far the head goes in a period.
use Rattle.std.proofs.Common.{◌≡◌, ℕ, zero, suc, ◌+◌, ◌-◌, ◌≤◌, Some, None, ℤ, ◌-ℤ◌, refl, ap, sym, subst}
use Rattle.std.proofs.Common.{◌∙◌, arith}
use Rattle.std.proofs.lemmas.Int.{ints}
use Rattle.bb_machine.specs.declared.entry.Dir.{Dir}
use Rattle.bb_machine.specs.declared.entry.Dir.TheVariants.{L, R}
use Rattle.bb_machine.specs.declared.entry.Entry.{Entry}
use Rattle.bb_machine.specs.declared.entry.Entry.TheVariants.{Undefined, Go}
use Rattle.bb_machine.specs.Machine.{Table}
use Rattle.bb_tape.specs.Content.{cell}
use Rattle.bb_sim.specs.Configuration.{Configuration, beside, followed, entry_at, next}
use Rattle.bb_sim.specs.Run.{Never}
use Rattle.bb_sim.proofs.Facts.{led}
use Rattle.bb_cert.specs.records.Record.{head_at}
use Rattle.bb_cert.proofs.Facts.{head_at-is, moves, steps_of_never}
use Rattle.laws_of_recurrence.specs.Recurrence.{Repeats, Transition, transition_at, transition_of}
use Rattle.laws_of_recurrence.specs.Shift.{ShiftStays}
use Rattle.laws_of_recurrence.proofs.Pairs.{transition_at-is, used_by}

-- a step moves the head by as much wherever it stands
beside_by : (dir : Dir) (p q : ℤ) → beside dir p -ℤ p ≡ beside dir q -ℤ q
beside_by L p q = omega (arith, ints)
beside_by R p q = omega (arith, ints)

-- configurations of one transition have one entry
same_entry : (table : Table) (c d : Configuration)
    → transition_of (Some c) ≡ transition_of (Some d)
    → entry_at table c.state (cell c.tape c.head) ≡ entry_at table d.state (cell d.tape d.head)
same_entry table c d same =
    let one : used_by c ≡ used_by d = cc in
    let states = ap (λ (t : Transition). t.state) one in
    let symbols = ap (λ (t : Transition). t.symbol) one in
    ap (λ s. entry_at table s (cell c.tape c.head)) states ∙ ap (entry_at table d.state) symbols

-- and move the head alike
move_alike : (table : Table) (c d c' d' : Configuration)
    → entry_at table c.state (cell c.tape c.head) ≡ entry_at table d.state (cell d.tape d.head)
    → next table c ≡ Some c' → next table d ≡ Some d' → c'.head -ℤ c.head ≡ d'.head -ℤ d.head
unfolding next
move_alike table c d c' d' same at_c at_d = by_entry (entry_at table c.state (cell c.tape c.head)) refl where
  by_entry : (entry : Entry) → entry_at table c.state (cell c.tape c.head) ≡ entry
      → c'.head -ℤ c.head ≡ d'.head -ℤ d.head
  by_entry Undefined e =
      let none : followed (entry_at table c.state (cell c.tape c.head)) c ≡ None = ap (λ x. followed x c) e in
      absurd cc
  by_entry (Go write dir state) e =
      let to_c : followed (entry_at table c.state (cell c.tape c.head)) c ≡ Some (led c write dir state) =
      ap (λ x. followed x c) e in
      let to_d : followed (entry_at table d.state (cell d.tape d.head)) d ≡ Some (led d write dir state) =
      ap (λ x. followed x d) (sym same ∙ e) in
      let is_c : led c write dir state ≡ c' = cc in
      let is_d : led d write dir state ≡ d' = cc in
      ap (λ (x : Configuration). x.head -ℤ c.head) (sym is_c) ∙ beside_by dir c.head d.head
      ∙ ap (λ (x : Configuration). x.head -ℤ d.head) is_d

-- steps of one transition
moves_alike : (table : Table) (n m : ℕ) → Never table → transition_at table m ≡ transition_at table n
    → head_at table (suc m) -ℤ head_at table m ≡ head_at table (suc n) -ℤ head_at table n
moves_alike table n m never same =
    let one = moves table m (steps_of_never table never (suc m)) in
    let two = moves table n (steps_of_never table never (suc n)) in
    let transitions : transition_of (Some one.before) ≡ transition_of (Some two.before) =
    sym (transition_at-is table m one.before one.at_before) ∙ same
    ∙ transition_at-is table n two.before two.at_before in
    let alike = move_alike table one.before two.before one.then_here two.then_here
    (same_entry table one.before two.before transitions) one.is_next two.is_next in
    let a = head_at-is table m one.before one.at_before in
    let b = head_at-is table (suc m) one.then_here one.at_then in
    let c = head_at-is table n two.before two.at_before in
    let d = head_at-is table (suc n) two.then_here two.at_then in
    omega (arith, ints, alike, a, b, c, d)

stays_by : (table : Table) (start period k : ℕ) → Repeats table start period
    → head_at table ((start + k) + period) -ℤ head_at table (start + k)
    ≡ head_at table (start + period) -ℤ head_at table start
stays_by table start period zero repeats =
    let none : start + zero ≡ start = omega arith in
    ap (λ n. head_at table (n + period) -ℤ head_at table n) none
stays_by table start period (suc k) repeats =
    let before = stays_by table start period k repeats in
    let later : (start + suc k) + period ≡ suc ((start + k) + period) = omega arith in
    let here : start + suc k ≡ suc (start + k) = omega arith in
    let alike = moves_alike table (start + k) ((start + k) + period) repeats.never
    (repeats.again (start + k) (omega arith)) in
    let a = ap (head_at table) later in
    let b = ap (head_at table) here in
    omega (arith, ints, before, alike, a, b)

-- the head covers the same distance in a period from each step on
pub shift_is_one : (table : Table) (start period n : ℕ) → Repeats table start period → start ≤ n
    → head_at table (n + period) -ℤ head_at table n ≡ head_at table (start + period) -ℤ head_at table start
shift_is_one table start period n repeats late =
    let e : start + (n - start) ≡ n = omega (arith, late) in
    subst (λ m. head_at table (m + period) -ℤ head_at table m
    ≡ head_at table (start + period) -ℤ head_at table start) e
    (stays_by table start period (n - start) repeats)

pub shift_stays : ShiftStays
shift_stays table start period n shift repeats late is =
    is ∙ sym (shift_is_one table start period n repeats late)
