-- A runner in Z: there the machine halts.
use Rattle.std.proofs.Common.{◌≡◌, ◌≢◌, ℕ, ◌<◌, Option, Some, None, refl, ap, ◌∙◌}
use Rattle.std.specs.Prelude.{MatchOption}
use Rattle.bb_machine.specs.declared.entry.Next.{Next}
use Rattle.bb_machine.specs.declared.entry.Next.TheVariants.{Halt, State}
use Rattle.bb_machine.specs.Machine.{Table}
use Rattle.bb_tape.specs.TapeView.{TapeView}
use Rattle.bb_sim.specs.Configuration.{Configuration}
use Rattle.bb_sim.specs.declared.runner.Runner.{Runner}
use Rattle.bb_sim.specs.Run.{conf}
use Rattle.bb_sim.specs.Runner.{Stands, position_of, state_of, steps_of}
use Rattle.bb_cert.proofs.Facts.{runs_before}

-- a runner that tells no state is in Z
pub in_no_state : (found : Option ℕ) (state : Next) → MatchOption found (state ≡ Halt) (λ n. state ≡ State n)
    → ((n : ℕ) → found ≢ Some n) → state ≡ Halt
in_no_state None state told apart = told
in_no_state (Some n) state told apart = absurd (apart n refl)

pub is_none : {A : Type 0} (found : Option A) → ((a : A) → found ≢ Some a) → found ≡ None
is_none None apart = refl
is_none (Some a) apart = absurd (apart a refl)

-- one that tells a state isn't
pub not_in_Z : {state : Next} {n : ℕ} → state ≡ State n → state ≢ Halt
not_in_Z is halts = cc

-- in Z a runner is in a state in which it wasn't before
module _ (table : Table) (runner : Runner) (run : TapeView) (stands : Stands table runner run)
    (halts : state_of runner ≡ Halt) where
  pub no_pair_in_Z : (a : ℕ) (c d : Configuration) → a < steps_of runner → conf table a ≡ Some c
      → conf table (steps_of runner) ≡ Some d → c.state ≡ d.state → ⊥
  no_pair_in_Z a c d less at_first at_second same =
      let runs = runs_before table a (steps_of runner) less
      (record { here = d; exists = at_second }) in
      let one : runs.here ≡ c = cc in
      let two : d ≡ record { state = state_of runner; head = position_of runner; tape = run.content } = cc in
      runs.runs (ap (λ (e : Configuration). e.state) one ∙ same ∙ ap (λ (e : Configuration). e.state) two
      ∙ halts)
