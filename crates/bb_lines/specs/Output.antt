-- Bytes that are sent to a writer: they are written, or wait to be written. This project's own.
use Rattle.std.specs.Prelude.{◌≡◌, ℕ, List, ◌++◌, Option}
use Rattle.std.specs.Io.KnownBytes.{Appends}

-- these bytes were sent: the bytes written and then those buffered now are those buffered before and then
-- these bytes
pub record Sends (held held_then : Option (List ℕ)) (waiting waiting_then bytes : List ℕ) : Type 0 where
  pub written : List ℕ
  pub whole : written ++ waiting_then ≡ waiting ++ bytes
  pub appends : Appends held held_then written
