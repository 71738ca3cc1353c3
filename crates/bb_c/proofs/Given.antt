-- What a buffer holds, by what holds of the bytes that it was given.
use Rattle.std.proofs.Common.{ℕ, ◌≡◌, List}
use Rattle.bb_c.specs.Buffer.{IsFilled, IsTooShort}

pub filled_by : (Holds : List ℕ → Type 0) (given items old new : List ℕ) (count : ℕ)
    → IsFilled (λ bytes. bytes ≡ given) old new count → given ≡ items → Holds items
    → IsFilled Holds old new count
filled_by Holds given items old new count filled same holds = record {
  bytes = filled.bytes;
  holds = rw (filled.holds, same) holds;
  counted = filled.counted;
  fits = filled.fits;
  filled = filled.filled;
}

pub too_short_by : (Holds : List ℕ → Type 0) (given items old new : List ℕ) (count : ℕ)
    → IsTooShort (λ bytes. bytes ≡ given) old new count → given ≡ items → Holds items
    → IsTooShort Holds old new count
too_short_by Holds given items old new count short same holds = record {
  bytes = short.bytes;
  holds = rw (short.holds, same) holds;
  counted = short.counted;
  longer = short.longer;
  stays = short.stays;
}
