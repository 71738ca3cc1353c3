-- When two records agree. Translated cyclers are bbchallenge's; this profile of them is this project's own.
use Rattle.std.specs.Prelude.{◌≡◌, ℕ, ◌+◌, ◌<◌, Some, ℤ, ◌+ℤ◌, ◌-ℤ◌, ◌≤ℤ◌}
use Rattle.bb_machine.specs.Machine.{Table}
use Rattle.bb_tape.specs.Content.{cell}
use Rattle.bb_sim.specs.Configuration.{Configuration}
use Rattle.bb_sim.specs.Run.{conf}
use Rattle.bb_cert.specs.declared.verdict.Side.{Side}
use Rattle.bb_cert.specs.records.Record.{out, head_at, IsRecord, far}

-- steps a and b agree: they have the same state, and the same cells, as the head sees them, from the head at
-- a back to the least of how far out the head is over steps a to b
pub record Agree (table : Table) (side : Side) (a b : ℕ) : Type 0 where
  pub first : Configuration
  pub second : Configuration
  pub at_first : conf table a ≡ Some first
  pub at_second : conf table b ≡ Some second
  pub same_state : first.state ≡ second.state
  pub same_cells : (x : ℤ) → far table side a b ≤ℤ out side x → out side x ≤ℤ out side first.head
      → cell first.tape x ≡ cell second.tape (x +ℤ (second.head -ℤ first.head))

-- two records of a side, the earlier one first, agree
pub record AgreeingRecords (table : Table) (side : Side) (a b : ℕ) : Type 0 where
  pub in_order : a < b
  pub first_number : ℕ
  pub second_number : ℕ
  pub first_record : IsRecord table side first_number a
  pub second_record : IsRecord table side second_number b
  pub agree : Agree table side a b

-- u steps after each of a and b there is a configuration, of the same state; the heads are as far apart as at
-- a and b; and cells that far apart are the same, from the least of how far out the head is over steps a to b
-- outward
pub record GoesAlike (table : Table) (side : Side) (a b u : ℕ) : Type 0 where
  pub first : Configuration
  pub second : Configuration
  pub at_first : conf table (a + u) ≡ Some first
  pub at_second : conf table (b + u) ≡ Some second
  pub same_state : first.state ≡ second.state
  pub shifted : second.head -ℤ first.head ≡ head_at table b -ℤ head_at table a
  pub same_cells : (x : ℤ) → far table side a b ≤ℤ out side x
      → cell first.tape x ≡ cell second.tape (x +ℤ (head_at table b -ℤ head_at table a))
