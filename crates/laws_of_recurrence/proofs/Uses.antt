-- The parts that a run uses for ever, for the last time, or never.
use Rattle.std.proofs.Common.{◌≡◌, ℕ, zero, suc, ◌+◌, ◌-◌, ◌*◌, ◌<◌, ◌≤◌, ◌↔◌, inl, inr, Some, refl, ap, sym}
use Rattle.std.proofs.Common.{subst, ◌∙◌, arith}
use Rattle.std.proofs.Math.Nat.{le-mul_of_pos_right}
use Rattle.std.proofs.lemmas.Bool.{cases_eq, cases_lt, cases_order}
use Rattle.bb_machine.specs.declared.entry.Next.{Next}
use Rattle.bb_machine.specs.declared.entry.Next.TheVariants.{State, Halt}
use Rattle.bb_machine.specs.Machine.{Table}
use Rattle.bb_cert.proofs.Facts.{steps_of_never}
use Rattle.laws_of_recurrence.specs.Recurrence.{Repeats, Transition, transition_at}
use Rattle.laws_of_recurrence.specs.Uses.{IsLastUse, NeverUses, TablePart, Uses, UsesForEver, UsesInPeriod}
use Rattle.laws_of_recurrence.specs.Uses.{KindsOfUseDiffer, LastUseIsSeen, LastUseIsUnique, UnusedIsSeen}
use Rattle.laws_of_recurrence.specs.Uses.{QuasihaltIsUnique, QuasihaltsByLastUse, UsedForEverJustInPeriod}
use Rattle.laws_of_recurrence.specs.Uses.{UsesAreOfThreeKinds, of_state}
use Rattle.laws_of_recurrence.proofs.Decisions.{Decision, decide_use, last_below}
use Rattle.laws_of_recurrence.proofs.Pairs.{transition_at-is, used_by}
use Rattle.laws_of_recurrence.proofs.Sequences.{has_multiples}

module _ (table : Table) (part : TablePart) (start period : ℕ) (repeats : Repeats table start period) where
  -- a use from the start on has one in the first period
  pub in_period_by : (fuel n : ℕ) → n ≤ fuel → start ≤ n → Uses table part n
      → UsesInPeriod table part start period
  in_period_by zero n few late uses =
      let some = repeats.some in
      record { step = n; late = late; soon = omega (arith, few, some); uses = uses }
  in_period_by (suc fuel) n few late uses = elim (cases_lt n (start + period)) [
    | inl soon ↦ record { step = n; late = late; soon = soon; uses = uses }
    | inr past ↦
        let some = repeats.some in
        let back : (n - period) + period ≡ n = omega (arith, past) in
        let late_back : start ≤ n - period = omega (arith, past) in
        in_period_by fuel (n - period) (omega (arith, few, some, past)) late_back (record {
          transition = uses.transition;
          at = sym (repeats.again (n - period) late_back) ∙ ap (transition_at table) back ∙ uses.at;
          is_in = uses.is_in;
        })
  ]

  for_ever_in_period : UsesForEver table part → UsesInPeriod table part start period
  for_ever_in_period ever =
      let late = ever start in in_period_by late.0 late.0 (omega arith) late.1 late.2

  pub in_period_for_ever : UsesInPeriod table part start period → UsesForEver table part
  in_period_for_ever here n =
      let far : n ≤ n * period = le-mul_of_pos_right n repeats.some in (
        here.step + n * period,
        omega (arith, far),
        record {
          transition = here.uses.transition;
          at = has_multiples (transition_at table) start period n repeats.again here.step here.late
              ∙ here.uses.at;
          is_in = here.uses.is_in;
        },
      )

  pub used_for_ever : UsesForEver table part ↔ UsesInPeriod table part start period
  used_for_ever = (for_ever_in_period, in_period_for_ever)

  -- a run without a use from n to the end of the first period has none after n
  pub none_later : (n : ℕ) → n < start → ((m : ℕ) → n < m → m < start + period → Uses table part m → ⊥)
      → (m : ℕ) → n < m → Uses table part m → ⊥
  none_later n early none m later also = elim (cases_lt m (start + period)) [
    | inl soon ↦ none m later soon also
    | inr past ↦
        let within = in_period_by m m (omega arith) (omega (arith, past)) also in
        let late = within.late in
        none within.step (omega (arith, early, late)) within.soon within.uses
  ]

  pub never_used : ((m : ℕ) → m < start + period → Uses table part m → ⊥) → NeverUses table part
  never_used none m uses = elim (cases_lt m (start + period)) [
    | inl soon ↦ none m soon uses
    | inr past ↦
        let within = in_period_by m m (omega arith) (omega (arith, past)) uses in
        none within.step within.soon within.uses
  ]

pub used_for_ever_just_in_period : UsedForEverJustInPeriod
used_for_ever_just_in_period table part start period repeats = used_for_ever table part start period repeats

pub last_use_is_seen : LastUseIsSeen
last_use_is_seen table part start period n repeats early uses none =
    record { used = uses; last = none_later table part start period repeats n early none }

pub unused_is_seen : UnusedIsSeen
unused_is_seen table part start period repeats none = never_used table part start period repeats none

pub comes_in_period : (table : Table) (part : TablePart) (start period n : ℕ) → Repeats table start period
    → start ≤ n → Uses table part n → UsesInPeriod table part start period
comes_in_period table part start period n repeats late uses =
    in_period_by table part start period repeats n n (omega arith) late uses

-- ---- the kinds of use

pub last_use_is_unique : LastUseIsUnique
last_use_is_unique table part n m one two = elim (cases_order n m) [
  | inl same ↦ same
  | inr apart ↦ elim apart [
    | inl less ↦ absurd (one.last m less two.used)
    | inr more ↦ absurd (two.last n more one.used)
  ]
]

pub kinds_of_use_differ : KindsOfUseDiffer
kinds_of_use_differ table part n = (
  (λ never last. never n last.used),
  (λ never ever. let used = ever 0 in never used.0 used.2),
  (λ last ever.
      let later = ever (n + 1) in
      let late = later.1 in
      last.last later.0 (omega (arith, late)) later.2),
)

-- the last use before the start is the last one, if no step of the first period is a use
pub uses_are_of_three_kinds : UsesAreOfThreeKinds
uses_are_of_three_kinds table part start period repeats =
    let P : ℕ → Type 0 = λ n. Uses table part n in
    let decide : (n : ℕ) → Decision (P n) = λ n. decide_use table part n repeats.never in
    elim (last_below P decide (start + period)) [
      | inl found ↦
          let last = found.1 in
          elim (cases_lt found.0 start) [
            | inl before ↦ inr (inl (
              found.0,
              before,
              record {
                used = last.has;
                last = none_later table part start period repeats found.0 before last.none_later;
              },
            ))
            | inr late ↦ inr (inr (in_period_for_ever table part start period repeats
                (record { step = found.0; late = late; soon = last.below; uses = last.has })))
          ]
      | inr none ↦ inl (never_used table part start period repeats none)
    ]

-- ---- quasihalting

pub quasihalt_is_unique : QuasihaltIsUnique
quasihalt_is_unique table n m one two =
    let first = one.latest two.state two.step two.last in
    let second = two.latest one.state one.step one.last in
    omega (arith, first, second, one.last_of_steps, two.last_of_steps)

-- step n is the last use of some state
pub record EndsState (table : Table) (n : ℕ) : Type 0 where
  pub state : ℕ
  pub last : IsLastUse table (of_state state) n

one_state : (t u : Transition) (p q : ℕ) → Some t ≡ Some u → t.state ≡ State p → u.state ≡ State q → p ≡ q
one_state t u p q same at_p at_q =
    let transitions : t ≡ u = cc in
    let states : State p ≡ State q = sym at_p ∙ ap (λ (x : Transition). x.state) transitions ∙ at_q in
    cc

-- whether it is
decide_end : (table : Table) (start period n : ℕ) → Repeats table start period → Decision (EndsState table n)
decide_end table start period n repeats =
    let step = steps_of_never table repeats.never n in
    let at = transition_at-is table n step.here step.exists in
    by_state (used_by step.here) at (used_by step.here).state refl where
      this_state : (t : Transition) → transition_at table n ≡ Some t → (q : ℕ) → t.state ≡ State q
          → EndsState table n → IsLastUse table (of_state q) n
      this_state t at q is ends =
          let uses = ends.last.used in
          let same = one_state uses.transition t ends.state q (sym uses.at ∙ at) uses.is_in is in
          subst (λ s. IsLastUse table (of_state s) n) same ends.last

      by_state : (t : Transition) → transition_at table n ≡ Some t → (state : Next) → t.state ≡ state
          → Decision (EndsState table n)
      by_state t at Halt is = inr (λ ends.
          let uses = ends.last.used in
          let same : Some uses.transition ≡ Some t = sym uses.at ∙ at in
          let transitions : uses.transition ≡ t = cc in
          let clash : State ends.state ≡ Halt =
          sym uses.is_in ∙ ap (λ (x : Transition). x.state) transitions ∙ is in
          cc)
      by_state t at (State q) is = elim (uses_are_of_three_kinds table (of_state q) start period repeats) [
        | inl never ↦ absurd (never n (record { transition = t; at = at; is_in = is }))
        | inr some ↦ elim some [
          | inl last ↦ elim (cases_eq last.0 n) [
            | inl same ↦ inl (record { state = q; last = subst (IsLastUse table (of_state q)) same last.2 })
            | inr apart ↦ inr (λ ends. apart (last_use_is_unique table (of_state q) last.0 n last.2
                (this_state t at q is ends)))
          ]
          | inr ever ↦ inr (λ ends.
              (kinds_of_use_differ table (of_state q) n).2 (this_state t at q is ends) ever)
        ]
      ]

-- a last use comes before the start
pub last_before_start : (table : Table) (part : TablePart) (start period n : ℕ) → Repeats table start period
    → IsLastUse table part n → n < start
last_before_start table part start period n repeats last = elim (cases_lt n start) [
  | inl before ↦ before
  | inr late ↦
      let ever = in_period_for_ever table part start period repeats
      (in_period_by table part start period repeats n n (omega arith) late last.used) in
      absurd ((kinds_of_use_differ table part n).2 last ever)
]

pub quasihalts_by_last_use : QuasihaltsByLastUse
quasihalts_by_last_use table start period repeats = (
  (λ found. let halt = found.1 in (halt.state, halt.step, halt.last)),
  (λ found.
      let before = last_before_start table (of_state found.0) start period found.1 repeats found.2 in
      elim (last_below (EndsState table) (λ n. decide_end table start period n repeats) start) [
        | inl latest ↦
            let last = latest.1 in (
              latest.0 + 1,
              record {
                never = repeats.never;
                state = last.has.state;
                step = latest.0;
                last_of_steps = refl;
                last = last.has.last;
                latest = λ other m ends. elim (cases_lt m (latest.0 + 1)) [
                  | inl no_later ↦ no_later
                  | inr later ↦ absurd (last.none_later m (omega (arith, later))
                      (last_before_start table (of_state other) start period m repeats ends)
                      (record { state = other; last = ends }))
                ];
              },
            )
        | inr none ↦ absurd (none found.1 before (record { state = found.0; last = found.2 }))
      ]),
)
