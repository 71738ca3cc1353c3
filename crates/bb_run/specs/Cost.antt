-- The most that checking a list can cost: the steps and nodes that its claims name. This project's own.
use Rattle.std.specs.Prelude.{◌≡◌, ℕ, ◌+◌, ◌-◌, ◌<◌, ◌≤◌, ◌^◌, ◌⊎◌, min, sum_by}
use Rattle.std.specs.Prelude.{List, [], ◌∷◌, ◌++◌, length}
use Rattle.std.specs.List.{AllByRecursion}
use Rattle.bb_machine.specs.Limits.{Bounds}
use Rattle.bb_machine.specs.Machine.{Table}
use Rattle.bb_cert.specs.declared.verdict.reader.Line.TheVariants.{Claim}
use Rattle.bb_cert.specs.declared.verdict.Verdict.{Verdict}
use Rattle.bb_cert.specs.checker.Answer.{IsSettled}
use Rattle.bb_cert.specs.checker.ClaimMeter.{last_step, nodes_of}
use Rattle.bb_cert.specs.verdict.Line.{IsLineOf}
use Rattle.bb_run.specs.declared.cost.CheckCost.{CheckCost}
use Rattle.bb_run.specs.declared.cost.LineCost.{LineCost}

-- nothing
abbrev pub no_cost : LineCost
no_cost = record { steps = 0; nodes = 0 }

-- the steps and nodes that a claim names; nothing if it is answered without a run
abbrev pub IsClaimCost : Bounds → Verdict → LineCost → Type 0
IsClaimCost bounds verdict cost =
    ((IsSettled bounds verdict → ⊥) × (cost.steps ≡ last_step verdict) × (cost.nodes ≡ nodes_of verdict))
    ⊎ (IsSettled bounds verdict × (cost ≡ no_cost))

-- the cost of the claim in a line; nothing if it has none
pub record HasClaimCost (bounds : Bounds) (line : List ℕ) (cost : LineCost) : Type 0 where
  pub table : Table
  pub verdict : Verdict
  pub of : IsLineOf (Claim table verdict) line
  pub is_cost : IsClaimCost bounds verdict cost

abbrev pub IsLineCost : Bounds → List ℕ → LineCost → Type 0
IsLineCost bounds line cost = HasClaimCost bounds line cost
    ⊎ (((table : Table) (verdict : Verdict) → IsLineOf (Claim table verdict) line → ⊥) × (cost ≡ no_cost))

-- a cost for each line, in order
abbrev pub AreLineCosts : Bounds → List (List ℕ) → List LineCost → Type 0
AreLineCosts bounds [] [] = Unit {0}
AreLineCosts bounds (line ∷ lines) (cost ∷ costs) =
    IsLineCost bounds line cost × AreLineCosts bounds lines costs
AreLineCosts bounds lines costs = ⊥

-- the steps and the nodes of a line, together
abbrev pub both : LineCost → ℕ
both cost = cost.steps + cost.nodes

-- no line costs anything
pub record CostNothing (costs : List LineCost) (most index : ℕ) : Type 0 where
  pub nothing : AllByRecursion (λ cost. both cost ≡ 0) costs
  pub none : most ≡ 0
  pub at_first : index ≡ 0

-- the line with this index, counted from 0, costs this much; those before it cost less, and no other costs
-- more
pub record IsMostAt (costs : List LineCost) (most index : ℕ) : Type 0 where
  pub before : List LineCost
  pub cost : LineCost
  pub after : List LineCost
  pub is : costs ≡ before ++ cost ∷ after
  pub at : index ≡ length before
  pub some : 0 < most
  pub is_most : most ≡ both cost
  pub less : AllByRecursion (λ other. both other < most) before
  pub no_more : AllByRecursion (λ other. both other ≤ most) after

-- the sums of all costs, as far as there are numbers for them, and the greatest cost of a line
pub record IsCheckCost (bounds : Bounds) (lines : List (List ℕ)) (cost : CheckCost) : Type 0 where
  pub costs : List LineCost
  pub of_lines : AreLineCosts bounds lines costs
  pub steps : cost.steps ≡ min (sum_by (λ (c : LineCost). c.steps) costs) (2 ^ 64 - 1)
  pub nodes : cost.nodes ≡ min (sum_by (λ (c : LineCost). c.nodes) costs) (2 ^ 64 - 1)
  pub most : CostNothing costs cost.most cost.line ⊎ IsMostAt costs cost.most cost.line
