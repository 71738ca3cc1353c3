-- A failure before any work: this project's own.
use Rattle.std.specs.Prelude.{◌≡◌, ℕ, List, Option, Result, Err}
use Rattle.bb_lines.specs.declared.fault.Fault.{Fault}
use Rattle.bb_lines.specs.declared.fault.Fault.TheVariants.{Memory}

-- an allocation failed before the work started: nothing is read and nothing written
pub record IsNotBegun {A : Type 0} (left left_then held held_then : Option (List ℕ)) (end : Result A Fault)
    : Type 0 where
  pub fault : end ≡ Err Memory
  pub unread : left_then ≡ left
  pub unwritten : held_then ≡ held
