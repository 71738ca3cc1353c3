-- What is counted: this project's own.
use Rattle.std.specs.Prelude.{◌≡◌, ℕ, ◌+◌, ◌≤◌, max}
use Rattle.bb_sim.specs.declared.meter.Meter.{Meter}
use Rattle.bb_machine.specs.Limits.{Bounds}
use Rattle.bb_machine.specs.Machine.{Table}
use Rattle.bb_tape.specs.Content.{Content}
use Rattle.bb_sim.specs.Span.{span, Inside, IsLastInside}

-- nothing counted
abbrev pub zero_meter : Meter
zero_meter = record { steps = 0; most_cells = 0; nodes = 0; most_levels = 0 }

-- one step more, and a window of so many cells seen
abbrev pub stepped : Meter → ℕ → Meter
stepped meter cells = record meter { steps = meter.steps + 1; most_cells = max meter.most_cells cells }

-- so many steps more, and a window of so many cells seen
abbrev pub counted : Meter → ℕ → ℕ → Meter
counted meter steps cells =
    record meter { steps = meter.steps + steps; most_cells = max meter.most_cells cells }

-- the run from its start to step n was counted: so many steps, and the cells of its span
abbrev pub CountsTo : Table → ℕ → Meter → Meter → Type 0
CountsTo table n old new = new ≡ counted old n (span table n)

-- a whole run within bounds was counted: the run to the last step inside
pub record CountsRun (table : Table) (bounds : Bounds) (old new : Meter) : Type 0 where
  pub last : ℕ
  pub is_last : IsLastInside table bounds last
  pub counts : CountsTo table last old new

-- a run was refused memory: the tape has the cells of a configuration inside, the steps up to it were
-- counted, and the widest window that was counted lies between its span and that of the next step
pub record CountsPart (table : Table) (bounds : Bounds) (tape : Content) (old new : Meter) : Type 0 where
  pub at : ℕ
  pub inside : Inside table bounds at
  pub on_tape : tape ≡ inside.here.tape
  pub steps : new.steps ≡ old.steps + at
  pub cells : max old.most_cells (span table at) ≤ new.most_cells
  pub few_cells : new.most_cells ≤ max old.most_cells (span table (at + 1))

-- no more than a run within bounds was counted
pub record IsWithinRun (bounds : Bounds) (old new : Meter) : Type 0 where
  pub steps : new.steps ≤ old.steps + bounds.steps
  pub most_cells : new.most_cells ≤ max old.most_cells bounds.cells
  pub nodes : new.nodes ≡ old.nodes
  pub most_levels : new.most_levels ≡ old.most_levels

-- the greater of each count
abbrev pub greatest_of : Meter → Meter → Meter
greatest_of a b = record {
  steps = max a.steps b.steps;
  most_cells = max a.most_cells b.most_cells;
  nodes = max a.nodes b.nodes;
  most_levels = max a.most_levels b.most_levels;
}
