-- The result of a run over lines, and the output written by then. The names follow std's `Appends`: if the
-- bytes of a writer are known, they are related before and after. `Reply` is the relation of a line to its
-- replies. This project's own.
use Rattle.std.specs.Prelude.{◌≡◌, ℕ, ◌<◌, ◌≤◌, List, ◌++◌, length, take, Option, Result, Ok, Err}
use Rattle.std.specs.Io.KnownBytes.{Appends, Consumes, IsAtEnd}
use Rattle.bb_lines.specs.declared.fault.Fault.{Fault}
use Rattle.bb_lines.specs.declared.fault.Fault.TheVariants.{Memory, Read, Write}
use Rattle.bb_lines.specs.Lines.{AreReplies, complete, lines}

-- known bytes grow by a prefix of these
pub record AppendsPrefix (old new : Option (List ℕ)) (bytes : List ℕ) : Type 0 where
  pub prefix : List ℕ
  pub rest : List ℕ
  pub whole : prefix ++ rest ≡ bytes
  pub appends : Appends old new prefix

-- known bytes grow by a reply to each of the lines
pub record AppendsReplies (Reply : List ℕ → List ℕ → Type 0) (old new : Option (List ℕ))
    (lines : List (List ℕ)) : Type 0 where
  pub bytes : List ℕ
  pub are_replies : AreReplies Reply lines bytes
  pub appends : Appends old new bytes

-- known bytes grow by the replies to the first few of the lines, not to all of them
pub record AppendsSome (Reply : List ℕ → List ℕ → Type 0) (old new : Option (List ℕ))
    (lines : List (List ℕ)) : Type 0 where
  pub count : ℕ
  pub not_all : count < length lines
  pub replies : AppendsReplies Reply old new (take count lines)

-- known bytes grow by a prefix of the replies to the first few of the lines, or to all of them
pub record AppendsPrefixOfReplies (Reply : List ℕ → List ℕ → Type 0) (old new : Option (List ℕ))
    (lines : List (List ℕ)) : Type 0 where
  pub count : ℕ
  pub within : count ≤ length lines
  pub bytes : List ℕ
  pub are_replies : AreReplies Reply (take count lines) bytes
  pub prefix : AppendsPrefix old new bytes

-- a fact for each end of a run: without fault, of what it gives, and by each fault
abbrev pub MatchEnd : {S : Type 0} → Result S Fault → (S → Type 0) → Type 0 → Type 0 → Type 0 → Type 0
MatchEnd (Ok summary) fine memory read write = fine summary
MatchEnd (Err Memory) fine memory read write = memory
MatchEnd (Err Read) fine memory read write = read
MatchEnd (Err Write) fine memory read write = write

-- the result of a run over the lines of a reader, by the bytes left in the reader and those of the writer,
-- before and after: without a fault the reader is at its end, the replies to all lines are written, and the
-- run's summary sums up the lines; after an allocation failure the replies to the first few lines, not all;
-- after a failed read those to the lines ended by a newline; after a failed write a prefix
abbrev pub ListEnds : {S : Type 0} → (List ℕ → List ℕ → Type 0) → (List (List ℕ) → S → Type 0)
    → Option (List ℕ) → Option (List ℕ) → Option (List ℕ) → Option (List ℕ) → Result S Fault → Type 0
ListEnds Reply Sums left left_then held held_then end =
    (taken : List ℕ) × Consumes left left_then taken × MatchEnd end
    (λ summary. IsAtEnd left_then × AppendsReplies Reply held held_then (lines taken)
    × Sums (lines taken) summary)
    (AppendsSome Reply held held_then (lines taken))
    (AppendsReplies Reply held held_then (complete taken))
    (AppendsPrefixOfReplies Reply held held_then (lines taken))
