-- The form of replies to the lines of a list, and the number of each kind. It doesn't cover whether a verdict
-- is right. This project's own.
use Rattle.std.specs.Prelude.{◌≡◌, ◌≢◌, ℕ, ◌+◌, ◌==◌, ◌⊎◌, List, [], ◌∷◌, ◌++◌, count_by, length}
use Rattle.bb_machine.specs.Machine.{Table, IsTextOf}
use Rattle.bb_cert.specs.declared.verdict.reader.Line.TheVariants.{Claim}
use Rattle.bb_cert.specs.declared.verdict.Verdict.{Verdict}
use Rattle.bb_cert.specs.declared.verdict.Verdict.TheVariants.{Halt, Cycler, Translated, Backward, Undecided}
use Rattle.bb_cert.specs.declared.verdict.Why.TheVariants.{Steps, Cells}
use Rattle.bb_cert.specs.verdict.Line.{IsLineOf}
use Rattle.bb_lines.specs.Lines.{AreReplies}
use Rattle.bb_run.specs.declared.reply_validation.KindCounts.{KindCounts}
use Rattle.bb_run.specs.declared.reply_validation.ReplyKind.{ReplyKind}
use Rattle.bb_run.specs.declared.reply_validation.ReplyKind.TheVariants as kind
use Rattle.bb_run.specs.Reply.{IsRefusal}

-- the kind of a verdict
abbrev pub kind_of : Verdict → ReplyKind
kind_of (Halt steps score) = kind.Halt
kind_of (Cycler first second) = kind.Cycler
kind_of (Translated side first second extent) = kind.Translated
kind_of (Backward levels nodes) = kind.Backward
kind_of (Undecided Steps) = kind.UndecidedSteps
kind_of (Undecided Cells) = kind.UndecidedCells

-- the line is a machine's text, and the reply is the line of the machine and of a verdict of this kind
pub record SaysVerdict (of_kind : ReplyKind) (line reply : List ℕ) : Type 0 where
  pub table : Table
  pub of : IsTextOf table line
  pub verdict : Verdict
  pub is_reply : IsLineOf (Claim table verdict) reply
  pub is_kind : of_kind ≡ kind_of verdict

-- the reply has the form of one to the line, and is of this kind: a verdict line of the line's machine, or
-- the line's refusal
abbrev pub IsOfKind : ReplyKind → List ℕ → List ℕ → Type 0
IsOfKind of_kind line reply =
    SaysVerdict of_kind line reply ⊎ (IsRefusal line reply × (of_kind ≡ kind.Refused))

-- the reply has the form of one to the line
abbrev pub HasForm : List ℕ → List ℕ → Type 0
HasForm line reply = (of_kind : ReplyKind) × IsOfKind of_kind line reply

-- these bytes are a reply of its form to each of the lines, in order, of these kinds, and a newline after
-- each reply
abbrev pub AreOfKinds : List (List ℕ) → List ReplyKind → List ℕ → Type 0
AreOfKinds [] [] bytes = bytes ≡ []
AreOfKinds (line ∷ lines) (of_kind ∷ kinds) bytes = (reply : List ℕ) × (rest : List ℕ)
    × IsOfKind of_kind line reply × AreOfKinds lines kinds rest × (bytes ≡ (reply ++ 10 ∷ []) ++ rest)
AreOfKinds lines kinds bytes = ⊥

-- a number for each kind, by which kinds differ
abbrev pub number_of : ReplyKind → ℕ
number_of kind.Halt = 0
number_of kind.Cycler = 1
number_of kind.Translated = 2
number_of kind.Backward = 3
number_of kind.UndecidedSteps = 4
number_of kind.UndecidedCells = 5
number_of kind.Refused = 6

-- how many of the kinds are this one
abbrev pub count_of : ReplyKind → List ReplyKind → ℕ
count_of of_kind kinds = count_by (λ k. number_of k == number_of of_kind) kinds

-- how many of the kinds are each
abbrev pub counts_of : List ReplyKind → KindCounts
counts_of kinds = record {
  halt = count_of kind.Halt kinds;
  cycler = count_of kind.Cycler kinds;
  translated = count_of kind.Translated kinds;
  backward = count_of kind.Backward kinds;
  undecided_steps = count_of kind.UndecidedSteps kinds;
  undecided_cells = count_of kind.UndecidedCells kinds;
  refused = count_of kind.Refused kinds;
}

-- all counts together
abbrev pub sum_of : KindCounts → ℕ
sum_of counts = counts.halt + counts.cycler + counts.translated + counts.backward + counts.undecided_steps
    + counts.undecided_cells + counts.refused

-- these bytes are a reply of its form to each of the lines, and there are so many of each kind, and as many
-- as lines together
pub record CountsReplies (lines : List (List ℕ)) (bytes : List ℕ) (counts : KindCounts) (count : ℕ)
    : Type 0 where
  pub kinds : List ReplyKind
  pub are_replies : AreOfKinds lines kinds bytes
  pub are_counts : counts ≡ counts_of kinds
  pub is_sum : count ≡ sum_of counts
  pub is_count : count ≡ length lines

-- the bytes don't begin with a reply of its form to the first of the lines, and a newline; where there is no
-- line, there are bytes
abbrev pub HasNoReply : List (List ℕ) → List ℕ → Type 0
HasNoReply [] bytes = bytes ≢ []
HasNoReply (line ∷ lines) bytes =
    (reply rest : List ℕ) → HasForm line reply → bytes ≡ (reply ++ 10 ∷ []) ++ rest → ⊥

-- the bytes begin with a reply of its form to each of so many first lines, and what is left of them has none
-- to the next
pub record IsFirstWithout (lines : List (List ℕ)) (bytes : List ℕ) (count : ℕ) : Type 0 where
  pub first : List (List ℕ)
  pub others : List (List ℕ)
  pub are_lines : first ++ others ≡ lines
  pub is_count : count ≡ length first
  pub answered : List ℕ
  pub left : List ℕ
  pub are_bytes : answered ++ left ≡ bytes
  pub are_replies : AreReplies HasForm first answered
  pub fails : HasNoReply others left
