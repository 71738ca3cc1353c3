-- The recorded entries of a run.
use Rattle.std.specs.Prelude.{◌≡◌, ℕ, ◌+◌, ◌*◌, ◌<◌, Some, slice_index_or}
use Rattle.bb_machine.specs.declared.entry.Next.TheVariants.{State}
use Rattle.bb_machine.specs.declared.machine.TheConstants.{MAX_SYMBOLS}
use Rattle.bb_machine.specs.Machine.{Table}
use Rattle.laws_of_recurrence.specs.Recurrence.{transition_at}
use Rattle.bb_recurrence.specs.declared.history.History.{History}

-- step n uses the entry for this state and symbol
abbrev pub UsesEntry : Table → ℕ → ℕ → ℕ → Type 0
UsesEntry table n state symbol =
    transition_at table n ≡ Some (record { state = State state; symbol = symbol })

-- step n uses the entry with this place: the entries of state A, then those of B, ten places for each state
pub record UsesPlace (table : Table) (n place : ℕ) : Type 0 where
  pub state : ℕ
  pub symbol : ℕ
  pub inside : symbol < MAX_SYMBOLS
  pub is_place : place ≡ MAX_SYMBOLS * state + symbol
  pub at : UsesEntry table n state symbol

-- the places of the steps before step n
abbrev pub IsRecorded : Table → ℕ → History → Type 0
IsRecorded table n history = (m : ℕ) → m < n → UsesPlace table m (slice_index_or history.places m 0)
