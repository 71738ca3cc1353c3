-- The number of steps after which a machine quasihalts, from the last uses of its states.
use Rattle.std.proofs.Common.{◌≡◌, ℕ, ◌+◌, ◌-◌, ◌<◌, ◌≤◌, ◌⊎◌, max, length, inl, inr, refl, arith}
use Rattle.std.proofs.lemmas.Bool.{cases_eq, cases_lt}
use Rattle.bb_machine.specs.declared.entry.Next.{Next}
use Rattle.bb_machine.specs.declared.entry.Next.TheVariants.{Halt, State}
use Rattle.bb_machine.specs.Entry.{IsNextOf}
use Rattle.bb_machine.specs.Machine.{IsMachine, Table}
use Rattle.bb_sim.specs.Run.{Never}
use Rattle.laws_of_recurrence.specs.Uses.{IsLastUse, IsQuasihalt, of_state}
use Rattle.laws_of_recurrence.proofs.Facts.{kinds_of_use_differ, last_use_is_unique}
use Rattle.bb_recurrence.specs.LastUses.{AreSeenWhole, IsSeenUse}
use Rattle.bb_recurrence.specs.declared.uses.LastUses.{LastUses}
use Rattle.bb_recurrence.proofs.EntryUses.{names_table}
use Rattle.bb_recurrence.proofs.UseSteps.{never_used, used_for_ever, used_last}

-- the greatest last use of the first states, plus 1; 0 without one
pub record IsGreatestUse (table : Table) (k steps : ℕ) : Type 0 where
  pub bound : (q m : ℕ) → q < k → IsLastUse table (of_state q) m → m < steps
  pub reached : (steps ≡ 0) ⊎ ((q : ℕ) × (m : ℕ) × (steps ≡ m + 1) × IsLastUse table (of_state q) m)

pub greatest_at_first : (table : Table) → IsGreatestUse table 0 0
greatest_at_first table = record { bound = λ q m below last. absurd (omega (arith, below)); reached = inl refl }

module _ (table : Table) (k steps after start steps' : ℕ) (uses : LastUses) (whole : AreSeenWhole table start uses)
    (seen : IsSeenUse table (of_state k) whole.made after) (before : IsGreatestUse table k steps)
    (last : after ≤ start → steps' ≡ max steps after) (for_ever : start < after → steps' ≡ steps) where
  -- of the state k
  now : after ≤ start → 0 < after → IsLastUse table (of_state k) (after - 1)
  now early some =
      used_last table (of_state k) start whole.period whole.made after whole.repeats whole.whole seen some early

  bound_now : (m : ℕ) → IsLastUse table (of_state k) m → m < steps'
  bound_now m is = elim (cases_lt start after) [
    | inl late ↦
        absurd ((kinds_of_use_differ table (of_state k) m).2 is (used_for_ever table (of_state k) start
        whole.period whole.made after whole.repeats whole.whole seen late))
    | inr early ↦ elim (cases_eq after 0) [
      | inl none ↦
          absurd ((kinds_of_use_differ table (of_state k) m).0 (never_used table (of_state k) start whole.period
          whole.made after whole.repeats whole.whole seen none) is)
      | inr some ↦
          let one = last_use_is_unique table (of_state k) (after - 1) m (now early (omega (arith, some))) is in
          let e = last early in
          omega (arith, one, e, some)
    ]
  ]

  no_less : steps ≤ steps'
  no_less = elim (cases_lt start after) [
    | inl late ↦ let e = for_ever late in omega (arith, e)
    | inr early ↦ let e = last early in omega (arith, e)
  ]

  reached_now : (steps' ≡ 0) ⊎ ((q : ℕ) × (m : ℕ) × (steps' ≡ m + 1) × IsLastUse table (of_state q) m)
  reached_now = elim (cases_lt start after) [
    | inl late ↦ let e = for_ever late in rw e before.reached
    | inr early ↦ elim (cases_lt steps after) [
      | inl less ↦
          let e = last early in
          inr (k, after - 1, omega (arith, e, less), now early (omega (arith, less)))
      | inr more ↦
          let e : steps' ≡ steps = (let all = last early in omega (arith, all, more)) in
          rw e before.reached
    ]
  ]

  pub greatest_more : IsGreatestUse table (k + 1) steps'
  greatest_more = record {
    bound = λ q m below is. elim (cases_lt q k) [
      | inl less ↦ (let one = before.bound q m less is in omega (arith, one, no_less))
      | inr more ↦
          let e : k ≡ q = omega (arith, below, more) in
          bound_now m (rw e is)
    ];
    reached = reached_now;
  }

-- a state with a use is the machine's
pub below_states : (states q : ℕ) (x : Next) → x ≡ State q → IsNextOf states x → q < states
below_states states q (State p) is below =
    let same : p ≡ q = cc in
    omega (arith, below, same)
below_states states q Halt is below = cc

pub bound_of_all : (table : Table) (steps : ℕ) → IsMachine table → IsGreatestUse table (length table) steps
    → (q m : ℕ) → IsLastUse table (of_state q) m → m < steps
bound_of_all table steps machine greatest q m is =
    let uses = is.used in
    let named = names_table table machine m uses.transition uses.at in
    greatest.bound q m (below_states (length table) q uses.transition.state uses.is_in named.0) is

pub quasihalts : (table : Table) (steps : ℕ) → IsMachine table → Never table
    → IsGreatestUse table (length table) steps → (steps ≡ 0 → ⊥) → IsQuasihalt table steps
quasihalts table steps machine never greatest some = elim greatest.reached [
  | inl none ↦ absurd (some none)
  | inr found ↦ record {
    never = never;
    state = found.0;
    step = found.1;
    last_of_steps = found.2;
    last = found.3;
    latest = bound_of_all table steps machine greatest;
  }
]

pub never_quasihalts : (table : Table) (steps : ℕ) → IsMachine table → IsGreatestUse table (length table) steps
    → steps ≡ 0 → (n : ℕ) → IsQuasihalt table n → ⊥
never_quasihalts table steps machine greatest none n is =
    let late = bound_of_all table steps machine greatest is.state is.step is.last in
    omega (arith, late, none)
