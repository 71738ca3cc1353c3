-- How two records that agree lie on the tape: this project's own.
use Rattle.std.specs.Prelude.{◌≡◌, ℕ, Option, Some, None, pos, ◌+ℤ◌, ◌-ℤ◌}
use Rattle.bb_machine.specs.Machine.{Table}
use Rattle.bb_cert.specs.declared.verdict.Extent.{Extent}
use Rattle.bb_cert.specs.declared.verdict.Side.{Side}
use Rattle.bb_cert.specs.records.Record.{out, head_at, far}

-- the shift is how much farther out the head is at step b than at step a; the length is how far out it is at
-- a, less the least of how far out it is over steps a to b, plus 1
pub record IsExtent (table : Table) (side : Side) (a b : ℕ) (extent : Extent) : Type 0 where
  pub shift : pos extent.shift ≡ out side (head_at table b) -ℤ out side (head_at table a)
  pub length : pos extent.length ≡ (out side (head_at table a) -ℤ far table side a b) +ℤ pos 1

-- an extent, if given, is right
abbrev pub SaysExtent : Table → Side → ℕ → ℕ → Option Extent → Type 0
SaysExtent table side a b None = Unit {0}
SaysExtent table side a b (Some extent) = IsExtent table side a b extent

-- it is given, and it is right
abbrev pub TellsExtent : Table → Side → ℕ → ℕ → Option Extent → Type 0
TellsExtent table side a b None = ⊥
TellsExtent table side a b (Some extent) = IsExtent table side a b extent
