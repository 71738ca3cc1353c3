-- The numbers of a verdict. Its meaning is defined by the crates that find and check it.
use Rattle.std.specs.Prelude.{◌<◌, ◌^◌, Option, Some, None}
use Rattle.bb_cert.specs.declared.verdict.Extent.{Extent}
use Rattle.bb_cert.specs.declared.verdict.Verdict.{Verdict}
use Rattle.bb_cert.specs.declared.verdict.Verdict.TheVariants.{Halt, Cycler, Translated, Backward, Undecided}

-- both numbers of an extent, where there is one, are below 2 ^ 64
abbrev pub HasExtentNumbers : Option Extent → Type 0
HasExtentNumbers None = Unit {0}
HasExtentNumbers (Some extent) = (extent.shift < 2 ^ 64) × (extent.length < 2 ^ 64)

-- every number of a verdict is below 2 ^ 64
abbrev pub HasNumbers : Verdict → Type 0
HasNumbers (Halt steps score) = (steps < 2 ^ 64) × (score < 2 ^ 64)
HasNumbers (Cycler first second) = (first < 2 ^ 64) × (second < 2 ^ 64)
HasNumbers (Translated side first second extent) =
    (first < 2 ^ 64) × (second < 2 ^ 64) × HasExtentNumbers extent
HasNumbers (Backward levels nodes) = (levels < 2 ^ 64) × (nodes < 2 ^ 64)
HasNumbers (Undecided why) = Unit {0}
