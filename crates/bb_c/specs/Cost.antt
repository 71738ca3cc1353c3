-- The cost of the verdict on one line, with a first try under small limits.
use Rattle.std.specs.Prelude.{◌≡◌, ℕ, ◌+◌, ◌*◌, ◌<◌, ◌≤◌, ◌⊎◌, false, max, min}
use Rattle.bb_machine.specs.Limits.{Bounds}
use Rattle.bb_machine.specs.Machine.{Table}
use Rattle.bb_machine.specs.declared.plan.Plan.{Plan}
use Rattle.bb_cert.specs.declared.verdict.Verdict.{Verdict}
use Rattle.bb_decide.specs.Fingerprint.{SearchesCollide, most_steps, named_step}
use Rattle.bb_decide.specs.FingerprintKeys.{spread}
use Rattle.bb_decide.specs.SinglePassCost.{MakesRuns}
use Rattle.bb_decide.specs.Sure.{IsFoundByRun}
use Rattle.bb_decide.specs.Verdict.{IsVerdict}

-- the limit of steps of the first try
abbrev pub first_steps : Bounds → ℕ
first_steps bounds = min bounds.steps 4096

-- the limits of the first try, without a tree
abbrev pub few_bounds : Bounds → Bounds
few_bounds bounds = record { steps = first_steps bounds; cells = min bounds.cells 1024; depth = 0; nodes = 0 }

-- its plan
abbrev pub without_trees : Plan → Plan
without_trees plan = record plan { backward = false }

-- no run within bounds finds a halt or a pair
abbrev pub FindsNothing : Table → Bounds → Plan → Type 0
FindsNothing table bounds plan = (verdict : Verdict) → IsVerdict table bounds plan verdict
    → IsFoundByRun verdict → ⊥

-- one does
pub record FindsByRun (table : Table) (bounds : Bounds) (plan : Plan) : Type 0 where
  pub verdict : Verdict
  pub is_verdict : IsVerdict table bounds plan verdict
  pub by_run : IsFoundByRun verdict

-- deciding in a single pass makes so many steps
pub record AreRunSteps (table : Table) (bounds : Bounds) (plan : Plan) (steps : ℕ) : Type 0 where
  pub latest : ℕ
  pub runs : MakesRuns spread table bounds plan.cyclers plan.translated steps latest

-- the first try finds nothing: its steps, and those within the limits themselves
pub record CountsBoth (table : Table) (bounds : Bounds) (plan : Plan) (steps : ℕ) : Type 0 where
  pub nothing : FindsNothing table (few_bounds bounds) (without_trees plan)
  pub tried : ℕ
  pub is_tried : AreRunSteps table (few_bounds bounds) (without_trees plan) tried
  pub then_made : ℕ
  pub is_then_made : AreRunSteps table bounds plan then_made
  pub sum : steps ≡ tried + then_made

-- so many steps were counted: for a small limit of cells, those within the limits; else those of the first
-- try, and if it finds nothing, those within the limits too
abbrev pub CountsTries : Table → Bounds → Plan → ℕ → Type 0
CountsTries table bounds plan steps = ((bounds.cells ≤ 1024) × AreRunSteps table bounds plan steps)
    ⊎ ((1024 < bounds.cells) × FindsByRun table (few_bounds bounds) (without_trees plan)
    × AreRunSteps table (few_bounds bounds) (without_trees plan) steps)
    ⊎ ((1024 < bounds.cells) × CountsBoth table bounds plan steps)

-- a verdict cost no more steps than its numbers allow, or, if the first try finds nothing, than that and the
-- first try's steps, unless both searches are in use and collide up to there
abbrev pub CostsInTwoTries : Table → Bounds → Plan → ℕ → Verdict → Type 0
CostsInTwoTries table bounds plan steps verdict =
    (SearchesCollide spread table bounds plan (max (named_step bounds verdict) (first_steps bounds)) → ⊥)
    → (steps ≤ most_steps bounds verdict)
    ⊎ (FindsNothing table (few_bounds bounds) (without_trees plan)
    × (steps ≤ most_steps bounds verdict + first_steps bounds))

-- in any case no more than three runs of each
abbrev pub IsWithinTwoTries : Bounds → ℕ → Type 0
IsWithinTwoTries bounds steps = steps ≤ 3 * bounds.steps + 3 * first_steps bounds
