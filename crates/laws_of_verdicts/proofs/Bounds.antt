-- Why a list that covers a size bounds the halts of its machines.
use Rattle.std.proofs.Common.{◌≡◌, ℕ, ◌+◌, List, inl, inr, refl, arith}
use Rattle.std.specs.Prelude.{◌⊎◌, Bool, true, false, IsTrue}
use Rattle.bb_machine.specs.Machine.{Table, IsMachine}
use Rattle.bb_sim.specs.Run.{Never}
use Rattle.laws_of_verdicts.specs.Bound.{CoversBound, CoversBoundGiven, HaltsWithin, IsLeftOpenBeside, TellsAtMost}
use Rattle.laws_of_verdicts.specs.Closed.{HaltsSoon, IsClosed, IsLeftOpen, VerdictLine}
use Rattle.laws_of_verdicts.proofs.Completions.{completions_never_halt}
use Rattle.laws_of_verdicts.proofs.Composed.{never_changed}
use Rattle.laws_of_verdicts.proofs.Covers.{covers_decide}

soon_within : (lines : List VerdictLine) (machine : Table) (steps score : ℕ) → TellsAtMost lines steps score
    → HaltsSoon lines machine → HaltsWithin (steps + 1) (score + 1) machine
soon_within lines machine steps score tells halt = record {
  steps = halt.new_steps;
  score = halt.new_score;
  claim = halt.claim;
  soon = let most = tells.steps halt.line halt.steps halt.score halt.listed halt.says in
      omega (arith, most, halt.soon);
  few = let most = tells.score halt.line halt.steps halt.score halt.listed halt.says in
      omega (arith, most, halt.few);
}

pub covers_bound : CoversBound
covers_bound lines machine steps score is covers tells =
    elim (covers_decide lines machine is covers) [
      | inl halt ↦ inl (soon_within lines machine steps score tells halt)
      | inr rest ↦ inr rest
    ]

module _ (assumed : Table → Bool)
    (never : (table : Table) → IsMachine table → IsTrue (assumed table) → Never table)
    (lines : List VerdictLine) (closed : IsClosed lines) (machine : Table) (left : IsLeftOpen lines machine)
  where
    by_assumption : (known : Bool) → assumed left.line.table ≡ known
        → Never machine ⊎ IsLeftOpenBeside assumed lines machine
    by_assumption true e = inl (completions_never_halt left.changed machine left.completes
        (never_changed left.change left.line.table left.changed left.is_changed
        (never left.line.table (closed.machines left.line left.listed) e)))
    by_assumption false e = inr (record { left = left; beside = e })

pub covers_bound_given : CoversBoundGiven
covers_bound_given assumed never lines machine steps score is covers tells =
    elim (covers_bound lines machine steps score is covers tells) [
      | inl halt ↦ inl halt
      | inr (inl forever) ↦ inr (inl forever)
      | inr (inr left) ↦ inr (by_assumption assumed never lines covers.closed machine left _ refl)
    ]
