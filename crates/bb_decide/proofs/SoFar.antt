-- What held at no step of a run so far holds at none one step later, and at none inside where the run ends.
use Rattle.std.proofs.Common.{◌≡◌, ℕ, ◌+◌, ◌≤◌, inl, inr, arith, subst}
use Rattle.std.proofs.lemmas.Bool.{cases_lt}
use Rattle.bb_machine.specs.declared.entry.Next.TheVariants.{Halt}
use Rattle.bb_machine.specs.Limits.{Bounds}
use Rattle.bb_machine.specs.Machine.{Table}
use Rattle.bb_tape.specs.TapeView.{TapeView}
use Rattle.bb_sim.specs.declared.meter.Meter.{Meter}
use Rattle.bb_sim.specs.declared.runner.Runner.{Runner}
use Rattle.bb_sim.specs.declared.runner.Moved.{Moved}
use Rattle.bb_sim.specs.Runner.{state_of, steps_of}
use Rattle.bb_sim.specs.Span.{Inside}
use Rattle.bb_decide.specs.inside.Step.{EndsRun}

-- of step n and the next one, m
module _ (P : ℕ → Type 0) {n m : ℕ} (next : m ≡ n + 1) (before : (t : ℕ) → t ≤ n → P t → ⊥) where
  pub none_so_far : (P m → ⊥) → (t : ℕ) → t ≤ m → P t → ⊥
  none_so_far now t few holds = elim (cases_lt n t) [
    | inr earlier ↦ before t earlier holds
    | inl past ↦ let same : t ≡ m = omega (arith, past, few, next) in now (subst P same holds)
  ]

  pub none_earlier : (t : ℕ) → P t → m ≤ t
  none_earlier t holds = elim (cases_lt n t) [
    | inr few ↦ absurd (before t few holds)
    | inl past ↦ omega (arith, past, next)
  ]

pub none_inside : (P : ℕ → Type 0) {table : Table} {bounds : Bounds} {old new : Runner} {view : TapeView}
    {first meter : Meter} {answer : Moved} → EndsRun table bounds old new view first meter answer
    → ((t : ℕ) → t ≤ steps_of old → P t → ⊥) → (state_of new ≡ Halt → P (steps_of new) → ⊥)
    → (t : ℕ) → Inside table bounds t → P t → ⊥
none_inside P ended before in_Z t inside holds =
    let few = ended.last.greatest t inside in
    elim ended.no_further [
      | inl stayed ↦ before t (omega (arith, few, stayed)) holds
      | inr halts ↦ none_so_far P halts.1 before (in_Z halts.0) t few holds
    ]
