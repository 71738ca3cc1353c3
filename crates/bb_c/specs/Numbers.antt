-- The numbers that `include/bb.h` and the documents state of the calls.
use Rattle.std.specs.Prelude.{◌≡◌}
use Rattle.bb_c.specs.declared.buffer.TheConstants.{CLEAN, LIMITS, MEMORY, NOT_CLEAN, SHORT}
use Rattle.bb_c.specs.declared.deciding.TheConstants.{FEW_CELLS, FEW_STEPS}

-- the statuses
abbrev pub StatusesAre : Type 0
StatusesAre =
    (CLEAN ≡ 0) × (NOT_CLEAN ≡ 1) × (LIMITS ≡ 2) × (MEMORY ≡ 3) × (SHORT ≡ 4)

-- the limits of the first try
abbrev pub FirstTryIs : Type 0
FirstTryIs = (FEW_STEPS ≡ 4096) × (FEW_CELLS ≡ 1024)
