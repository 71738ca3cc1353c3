-- Within limits there is a last step: going up from the start, each step is inside or not.
use Rattle.std.proofs.Common.{◌≡◌, ℕ, zero, suc, ◌<◌, ◌≤◌, ◌⊎◌, inl, inr, Option, Some, None, refl}
use Rattle.std.proofs.Common.{arith}
use Rattle.std.proofs.lemmas.Bool.{cases_lt}
use Rattle.bb_machine.specs.Limits.{Bounds}
use Rattle.bb_machine.specs.Machine.{Table}
use Rattle.bb_sim.specs.Configuration.{Configuration}
use Rattle.bb_sim.specs.Run.{conf}
use Rattle.bb_sim.specs.Span.{span, Inside}
use Rattle.bb_sim.specs.Laws.{LastStepExists}
use Rattle.bb_sim.proofs.Steps.{conf-start}
use Rattle.bb_sim.proofs.Outcomes.{span-start}

-- of the steps up to a number, the last one inside
record IsLastUpTo (table : Table) (bounds : Bounds) (most n : ℕ) : Type 0 where
  inside : Inside table bounds n
  greatest : (m : ℕ) → m ≤ most → Inside table bounds m → m ≤ n

module _ (table : Table) (bounds : Bounds) (some : 0 < bounds.cells) where
  start_inside : Inside table bounds 0
  start_inside =
      record {
        here = _;
        exists = conf-start table;
        within_steps = omega arith;
        within_cells = let one = span-start table in omega (arith, one, some);
      }

  -- a step is inside or not
  inside_or_not : (n : ℕ) → n ≤ bounds.steps → (here : Option Configuration) → conf table n ≡ here
      → Inside table bounds n ⊎ (Inside table bounds n → ⊥)
  inside_or_not n few None at = inr (λ inside. let exists = inside.exists in cc)
  inside_or_not n few (Some c) at = elim (cases_lt bounds.cells (span table n)) [
    | inl wide ↦ inr (λ inside. omega (arith, inside.within_cells, wide))
    | inr fits ↦ inl (record { here = c; exists = at; within_steps = few; within_cells = fits })
  ]

  -- the last one up to one step more
  last_next : (most n : ℕ) → IsLastUpTo table bounds most n
      → (Inside table bounds (suc most) ⊎ (Inside table bounds (suc most) → ⊥))
      → (k : ℕ) × IsLastUpTo table bounds (suc most) k
  last_next most n last (inl inside) =
      (suc most, record { inside = inside; greatest = λ m h other. omega (arith, h) })
  last_next most n last (inr never) =
      (n, record { inside = last.inside; greatest = λ m h other. below m h other }) where
        below : (m : ℕ) → m ≤ suc most → Inside table bounds m → m ≤ n
        below m h other = elim (cases_lt most m) [
          | inl past ↦ let e : m ≡ suc most = omega (arith, h, past) in absurd (never (rw e at other))
          | inr few ↦ last.greatest m few other
        ]

  last_up_to : (most : ℕ) → most ≤ bounds.steps → (n : ℕ) × IsLastUpTo table bounds most n
  last_up_to zero h = (0, record { inside = start_inside; greatest = λ m few other. omega (arith, few) })
  last_up_to (suc most) h =
      let before = last_up_to most (omega (arith, h)) in
      last_next most before.0 before.1 (inside_or_not (suc most) h _ refl)

pub last_step_exists : LastStepExists
last_step_exists table bounds some =
    let last = last_up_to table bounds some bounds.steps (omega arith) in (
      last.0,
      record {
        inside = last.1.inside;
        greatest = λ m other. last.1.greatest m other.within_steps other;
      },
    )
