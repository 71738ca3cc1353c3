-- The number that a walk's memory comes from.
use Rattle.std.specs.Prelude.{◌≡◌}
use Rattle.bb_cover.specs.declared.walk.TheConstants.{MAX_FRAMES}

-- as many frames as the largest machine has entries, 25 states with 10 symbols
abbrev pub FramesAre : Type 0
FramesAre = MAX_FRAMES ≡ 250
