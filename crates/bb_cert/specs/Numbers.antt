-- The numbers that this crate's documents state, as literals.
use Rattle.std.specs.Prelude.{◌≡◌, ℕ}
use Rattle.bb_cert.specs.declared.checker.answer.Answer.{Answer}
use Rattle.bb_cert.specs.declared.checker.answer.Answer.TheVariants as answer
use Rattle.bb_cert.specs.declared.verdict.line.TheConstants.{LINE_BUFFER, LONGEST}

-- the longest verdict line, and the longest line that is read as one, in bytes
pub record NumbersAreStated : Type 0 where
  pub longest : LONGEST ≡ 871
  pub buffer : LINE_BUFFER ≡ 1023

-- the number of each answer
abbrev pub answer_number : Answer → ℕ
answer_number answer.Ok = 1
answer_number answer.Bad = 2
answer_number answer.Over = 3
answer_number answer.Open = 4
