-- The effect of one more line on the greatest cost of a list.
use Rattle.std.specs.Prelude.{◌≡◌, ℕ, ◌+◌, ◌-◌, ◌<◌, ◌≤◌, ◌^◌, ◌⊎◌, min}
use Rattle.bb_run.specs.declared.cost.CheckCost.{CheckCost}
use Rattle.bb_run.specs.declared.cost.LineCost.{LineCost}
use Rattle.bb_run.specs.Cost.{both}

-- the line costs more than each before it
pub record IsNewMost (old : CheckCost) (index : ℕ) (line : LineCost) (new : CheckCost) : Type 0 where
  pub more : old.most < both line
  pub most : new.most ≡ both line
  pub at : new.line ≡ index

-- it doesn't
pub record IsOldMost (old : CheckCost) (line : LineCost) (new : CheckCost) : Type 0 where
  pub no_more : both line ≤ old.most
  pub most : new.most ≡ old.most
  pub at : new.line ≡ old.line

-- a line with this index was added
pub record AddsLine (old : CheckCost) (index : ℕ) (line : LineCost) (new : CheckCost) : Type 0 where
  pub steps : new.steps ≡ min (old.steps + line.steps) (2 ^ 64 - 1)
  pub nodes : new.nodes ≡ min (old.nodes + line.nodes) (2 ^ 64 - 1)
  pub most : IsNewMost old index line new ⊎ IsOldMost old line new
