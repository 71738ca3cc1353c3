-- How a run ends, from what was kept of its lines.
use Rattle.std.proofs.Common.{◌≡◌, ℕ, ◌<◌, List, [], ◌∷◌, ◌++◌, length, take, ◌∙◌, ap, refl, arith, Option}
use Rattle.std.proofs.Common.{Result, Ok, Err}
use Rattle.std.specs.List.{FoldsTo}
use Rattle.std.proofs.lemmas.List.{append-nil}
use Rattle.std.specs.Io.KnownBytes.{Consumes, IsAtEnd}
use Rattle.bb_lines.specs.declared.fault.Fault.{Fault}
use Rattle.bb_lines.specs.declared.fault.Fault.TheVariants.{Memory, Read, Write}
use Rattle.bb_lines.specs.Lines.{complete, lines, unfinished, unless_empty}
use Rattle.bb_lines.specs.Ends.{MatchEnd, ListEnds, AppendsReplies, AppendsSome, AppendsPrefixOfReplies}
use Rattle.bb_lines.specs.inside.Progress.{prefixes, AreAnswered}
use Rattle.bb_lines.proofs.Replies.{AppendsReplies-prefixes, AppendsSome-prefixes}
use Rattle.bb_lines.proofs.Replies.{AppendsPrefixOfReplies-prefixes, FoldsTo-prefixes}
use Rattle.bb_lines.proofs.Prefixes.{prefixes-lines}

pub unless_empty-some : (line : List ℕ) → 0 < length line → unless_empty line ≡ line ∷ []
unless_empty-some [] some = absurd (omega arith)
unless_empty-some (byte ∷ line) some = refl

pub unless_empty-none : (line : List ℕ) → length line ≡ 0 → unless_empty line ≡ []
unless_empty-none [] none = refl
unless_empty-none (byte ∷ line) none = absurd (omega arith)

module _ {Reply : List ℕ → List ℕ → Type 0} (keep : ℕ)
    (reply_law : (line text : List ℕ) → Reply (take keep line) text → Reply line text)
    (left left' held held' : Option (List ℕ)) (taken : List ℕ) (consumes : Consumes left left' taken) where
  -- a fault, where the first bytes of each line were answered
  pub fault_of_prefixes : {A : Type 0} (saw : A → List ℕ → A → Type 0) (first now : A) (P : Type 0)
      (fault : Fault)
      → MatchEnd {S = Unit {0}} (Err fault) (λ _. P)
      (AppendsSome Reply held held' (prefixes keep (lines taken)))
      (AppendsReplies Reply held held' (prefixes keep (complete taken)))
      (AppendsPrefixOfReplies Reply held held' (prefixes keep (lines taken)))
      → ListEnds {S = Unit {0}} Reply (λ all _. FoldsTo saw first all now) left left' held held' (Err fault)
  fault_of_prefixes saw first now P Memory ends =
      (taken, consumes, AppendsSome-prefixes Reply keep reply_law held held' (lines taken) ends)
  fault_of_prefixes saw first now P Read ends =
      (taken, consumes, AppendsReplies-prefixes Reply keep reply_law held held' (complete taken) ends)
  fault_of_prefixes saw first now P Write ends =
      (taken, consumes, AppendsPrefixOfReplies-prefixes Reply keep reply_law held held' (lines taken) ends)

  -- and an end without a fault of reading
  pub end_of_prefixes : {A : Type 0} {saw : A → List ℕ → A → Type 0}
      (saw_law : (a : A) (line : List ℕ) (b : A) → saw a (take keep line) b → saw a line b) (first now : A)
      (r : Result (Unit {0}) Fault) → IsAtEnd left'
      → MatchEnd r (λ _. AppendsReplies Reply held held' (prefixes keep (lines taken))
      × FoldsTo saw first (prefixes keep (lines taken)) now)
      (AppendsSome Reply held held' (prefixes keep (lines taken))) ⊥
      (AppendsPrefixOfReplies Reply held held' (prefixes keep (lines taken)))
      → ListEnds Reply (λ all _. FoldsTo saw first all now) left left' held held' r
  end_of_prefixes {saw} saw_law first now (Ok u) at_end ends = (
    taken,
    consumes,
    (
      at_end,
      AppendsReplies-prefixes Reply keep reply_law held held' (lines taken) ends.0,
      FoldsTo-prefixes saw keep saw_law first now (lines taken) ends.1,
    ),
  )
  end_of_prefixes {saw} saw_law first now (Err Memory) at_end ends =
      fault_of_prefixes saw first now Unit Memory ends
  end_of_prefixes {saw} saw_law first now (Err Read) at_end ends = absurd ends
  end_of_prefixes {saw} saw_law first now (Err Write) at_end ends =
      fault_of_prefixes saw first now Unit Write ends

-- lines whose replies are written are answered, and nothing waits
pub answered_of_written : {A : Type 0} {Reply : List ℕ → List ℕ → Type 0} (saw : A → List ℕ → A → Type 0)
    {held held' : Option (List ℕ)} {waiting' : List ℕ} {first now : A} {lines : List (List ℕ)}
    → waiting' ≡ [] → AppendsReplies Reply held held' lines → FoldsTo saw first lines now
    → AreAnswered Reply saw held held' [] waiting' first now lines
answered_of_written saw none all seen = record {
  bytes = all.bytes;
  are_replies = all.are_replies;
  sends = record {
    written = all.bytes;
    whole = ap (λ w. all.bytes ++ w) none ∙ append-nil all.bytes;
    appends = all.appends;
  };
  seen = seen;
}

-- the prefixes of all lines, by whether some of the last is kept
pub prefixes-some : (keep : ℕ) (bytes : List ℕ) {kept : List ℕ} → 0 < keep
    → kept ≡ take keep (unfinished bytes) → 0 < length kept
    → prefixes keep (lines bytes) ≡ prefixes keep (complete bytes) ++ kept ∷ []
prefixes-some keep bytes some is full = prefixes-lines keep bytes some is
    ∙ ap (λ l. prefixes keep (complete bytes) ++ l) (unless_empty-some _ full)

pub prefixes-no_more : (keep : ℕ) (bytes : List ℕ) {kept : List ℕ} → 0 < keep
    → kept ≡ take keep (unfinished bytes) → length kept ≡ 0
    → prefixes keep (lines bytes) ≡ prefixes keep (complete bytes)
prefixes-no_more keep bytes some is empty = prefixes-lines keep bytes some is
    ∙ ap (λ l. prefixes keep (complete bytes) ++ l) (unless_empty-none _ empty)
    ∙ append-nil (prefixes keep (complete bytes))
