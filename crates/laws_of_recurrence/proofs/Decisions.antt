-- Decisions on a run that never halts: whether steps use one transition, and bounded searches.
use Rattle.std.proofs.Common.{◌≡◌, ℕ, zero, suc, ◌<◌, ◌≤◌, ◌⊎◌, inl, inr, Option, Some, None, refl, ap, sym}
use Rattle.std.proofs.Common.{subst, ◌∙◌, arith}
use Rattle.std.proofs.lemmas.Bool.{cases_lt, cases_eq}
use Rattle.bb_machine.specs.declared.entry.Next.{Next}
use Rattle.bb_machine.specs.declared.entry.Next.TheVariants.{State, Halt}
use Rattle.bb_machine.specs.Machine.{Table}
use Rattle.bb_sim.specs.Run.{Never}
use Rattle.bb_cert.proofs.Facts.{steps_of_never}
use Rattle.laws_of_recurrence.specs.Recurrence.{Transition}
use Rattle.laws_of_recurrence.specs.Uses.{IsIn, TablePart, Uses, of_state, of_transition}
use Rattle.laws_of_recurrence.proofs.Pairs.{transition_at-is, used_by}

-- it holds or not
abbrev pub Decision : Type 0 → Type 0
Decision P = P ⊎ (P → ⊥)

decide_states : (x y : Next) → Decision (x ≡ y)
decide_states (State a) (State b) = elim (cases_eq a b) [
  | inl same ↦ inl (ap State same)
  | inr apart ↦ inr (λ e. let same : a ≡ b = cc in apart same)
]
decide_states (State a) Halt = inr (λ e. cc)
decide_states Halt (State b) = inr (λ e. cc)
decide_states Halt Halt = inl refl

abbrev made : Next → ℕ → Transition
made state symbol = record { state = state; symbol = symbol }

one_transition : {s t : Next} {a b : ℕ} → s ≡ t → a ≡ b → made s a ≡ made t b
one_transition states symbols = cc

same_transition : (t u : Transition) → t.state ≡ u.state → t.symbol ≡ u.symbol → t ≡ u
same_transition t u states symbols = one_transition states symbols

pub decide_transitions : (t u : Transition) → Decision (t ≡ u)
decide_transitions t u = elim (decide_states t.state u.state) [
  | inl states ↦ elim (cases_eq t.symbol u.symbol) [
    | inl symbols ↦ inl (same_transition t u states symbols)
    | inr apart ↦ inr (λ e. apart (ap (λ (x : Transition). x.symbol) e))
  ]
  | inr apart ↦ inr (λ e. apart (ap (λ (x : Transition). x.state) e))
]

same_some : (t u : Transition) → Some t ≡ Some u → t ≡ u
same_some t u e = cc

-- whether two steps use one transition
pub decide_steps : (x y : Option Transition) → Decision (x ≡ y)
decide_steps None None = inl refl
decide_steps None (Some u) = inr (λ e. cc)
decide_steps (Some t) None = inr (λ e. cc)
decide_steps (Some t) (Some u) = elim (decide_transitions t u) [
  | inl same ↦ inl (ap Some same)
  | inr apart ↦ inr (λ e. apart (same_some t u e))
]

decide_part : (part : TablePart) (t : Transition) → Decision (IsIn part t)
decide_part (of_state state) t = decide_states t.state (State state)
decide_part (of_transition one) t = decide_transitions t one

-- whether a step uses a part
pub decide_use : (table : Table) (part : TablePart) (n : ℕ) → Never table → Decision (Uses table part n)
decide_use table part n never =
    let step = steps_of_never table never n in
    let at = transition_at-is table n step.here step.exists in
    elim (decide_part part (used_by step.here)) [
      | inl is_in ↦ inl (record { transition = used_by step.here; at = at; is_in = is_in })
      | inr not_in ↦ inr (λ uses.
          let same = same_some uses.transition (used_by step.here) (sym uses.at ∙ at) in
          not_in (subst (IsIn part) same uses.is_in))
    ]

-- ---- searches

module _ (P : ℕ → Type 0) (decide : (n : ℕ) → Decision (P n)) where
  -- whether all below a number have it
  pub all_below : (k : ℕ) → Decision ((n : ℕ) → n < k → P n)
  all_below zero = inl (λ n less. absurd (omega (arith, less)))
  all_below (suc k) = elim (all_below k) [
    | inl all ↦ elim (decide k) [
      | inl here ↦ inl (λ n less. elim (cases_lt n k) [
        | inl before ↦ all n before
        | inr last ↦ let e : k ≡ n = omega (arith, less, last) in subst P e here
      ])
      | inr not_here ↦ inr (λ each. not_here (each k (omega arith)))
    ]
    | inr not_all ↦ inr (λ each. not_all (λ n less. each n (omega (arith, less))))
  ]

  -- the least that has it
  pub record IsLeast (m : ℕ) : Type 0 where
    pub has : P m
    pub least : (n : ℕ) → P n → m ≤ n

  -- the least below a number, or none
  least_below : (k : ℕ) → ((m : ℕ) × IsLeast m) ⊎ ((n : ℕ) → n < k → P n → ⊥)
  least_below zero = inr (λ n less. absurd (omega (arith, less)))
  least_below (suc k) = elim (least_below k) [
    | inl found ↦ inl found
    | inr none ↦ elim (decide k) [
      | inl here ↦ inl (
        k,
        record {
          has = here;
          least = λ n has. elim (cases_lt n k) [
            | inl less ↦ absurd (none n less has)
            | inr more ↦ more
          ];
        },
      )
      | inr not_here ↦ inr (λ n less has. elim (cases_lt n k) [
        | inl before ↦ none n before has
        | inr last ↦ let e : n ≡ k = omega (arith, less, last) in not_here (subst P e has)
      ])
    ]
  ]

  pub least_of : (n : ℕ) → P n → (m : ℕ) × IsLeast m
  least_of n has = elim (least_below (suc n)) [
    | inl found ↦ found
    | inr none ↦ absurd (none n (omega arith) has)
  ]

  -- the last below a number that has it
  pub record IsLastBelow (k m : ℕ) : Type 0 where
    pub below : m < k
    pub has : P m
    pub none_later : (n : ℕ) → m < n → n < k → P n → ⊥

  -- the last below a number, or none
  pub last_below : (k : ℕ) → ((m : ℕ) × IsLastBelow k m) ⊎ ((n : ℕ) → n < k → P n → ⊥)
  last_below zero = inr (λ n less. absurd (omega (arith, less)))
  last_below (suc k) = elim (decide k) [
    | inl here ↦ inl (
      k,
      record {
        below = omega arith;
        has = here;
        none_later = λ n more less. absurd (omega (arith, more, less));
      },
    )
    | inr not_here ↦ elim (last_below k) [
      | inl found ↦
          let last = found.1 in
          let below = last.below in
          inl (
            found.0,
            record {
              below = omega (arith, below);
              has = last.has;
              none_later = λ n more less has. elim (cases_lt n k) [
                | inl before ↦ last.none_later n more before has
                | inr at_end ↦ let e : n ≡ k = omega (arith, less, at_end) in not_here (subst P e has)
              ];
            },
          )
      | inr none ↦ inr (λ n less has. elim (cases_lt n k) [
        | inl before ↦ none n before has
        | inr at_end ↦ let e : n ≡ k = omega (arith, less, at_end) in not_here (subst P e has)
      ])
    ]
  ]
