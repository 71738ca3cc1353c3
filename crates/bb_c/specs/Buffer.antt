-- What a call leaves in its caller's buffer: this project's own.
use Rattle.std.specs.Prelude.{◌≡◌, ℕ, ◌<◌, ◌≤◌, List, ◌++◌, length, drop}

-- bytes with this property now start the buffer; the bytes after them are unchanged, and the count is theirs
pub record IsFilled (Holds : List ℕ → Type 0) (old new : List ℕ) (count : ℕ) : Type 0 where
  pub bytes : List ℕ
  pub holds : Holds bytes
  pub counted : count ≡ length bytes
  pub fits : length bytes ≤ length old
  pub filled : new ≡ bytes ++ drop (length bytes) old

-- there are bytes with this property, as many as the count, more than the buffer has; it is unchanged
pub record IsTooShort (Holds : List ℕ → Type 0) (old new : List ℕ) (count : ℕ) : Type 0 where
  pub bytes : List ℕ
  pub holds : Holds bytes
  pub counted : count ≡ length bytes
  pub longer : length old < length bytes
  pub stays : new ≡ old

-- the buffer stays as it was, and nothing is counted
pub record IsUntouched (old new : List ℕ) (count : ℕ) : Type 0 where
  pub stays : new ≡ old
  pub none : count ≡ 0
