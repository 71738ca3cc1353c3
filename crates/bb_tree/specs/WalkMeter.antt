-- What a walk counts: this project's own.
use Rattle.std.specs.Prelude.{◌≡◌, ℕ, ◌+◌, ◌≤◌, max}
use Rattle.bb_sim.specs.declared.meter.Meter.{Meter}

-- a tree of so many levels and nodes was walked through
abbrev pub walked : Meter → ℕ → ℕ → Meter
walked meter levels nodes =
    record meter { nodes = meter.nodes + nodes; most_levels = max meter.most_levels levels }

-- no more than so many levels and nodes were counted
pub record IsWithinWalk (levels nodes : ℕ) (old new : Meter) : Type 0 where
  pub nodes_from : old.nodes ≤ new.nodes
  pub nodes_to : new.nodes ≤ old.nodes + nodes
  pub most_levels_from : old.most_levels ≤ new.most_levels
  pub most_levels_to : new.most_levels ≤ max old.most_levels levels
  pub steps : new.steps ≡ old.steps
  pub most_cells : new.most_cells ≡ old.most_cells
