-- Weaker statements on both cases of an option.
use Rattle.std.proofs.Common.{Option, Some, None}
use Rattle.std.specs.Option.{MatchOption}

pub MatchOption-weaker : {A : Type 0} (o : Option A) {N N' : Type 0} {P P' : A → Type 0} → MatchOption o N P
    → (N → N') → ((a : A) → P a → P' a) → MatchOption o N' P'
MatchOption-weaker (Some a) holds none some = some a holds
MatchOption-weaker None holds none some = none holds
