-- What one reply after another comes to, where bytes are written.
use Rattle.std.proofs.Common.{ℕ, List, [], ◌∷◌, ◌++◌, take, append_assoc, sym, ◌∙◌, subst, ap, Option}
use Rattle.std.specs.List.{FoldsTo}
use Rattle.std.proofs.lemmas.List.{length-map, take-map}
use Rattle.bb_lines.specs.Lines.{AreReplies}
use Rattle.bb_lines.specs.Ends.{AppendsReplies, AppendsSome, AppendsPrefixOfReplies}
use Rattle.bb_lines.specs.inside.Progress.{prefixes}

pub FoldsTo-append : {A : Type 0} (saw : A → List ℕ → A → Type 0) (first now next : A) (xs ys : List (List ℕ))
    → FoldsTo saw first xs now → FoldsTo saw now ys next → FoldsTo saw first (xs ++ ys) next
FoldsTo-append saw first now next [] ys seen more = subst (λ a. FoldsTo saw a ys next) (sym seen) more
FoldsTo-append saw first now next (x ∷ xs) ys seen more =
    (seen.0, seen.1, FoldsTo-append saw seen.0 now next xs ys seen.2 more)

-- where the first bytes of a line decide what it does
pub FoldsTo-prefixes : {A : Type 0} (saw : A → List ℕ → A → Type 0) (keep : ℕ)
    → ((a : A) (line : List ℕ) (b : A) → saw a (take keep line) b → saw a line b)
    → (first now : A) (lines : List (List ℕ)) → FoldsTo saw first (prefixes keep lines) now
    → FoldsTo saw first lines now
FoldsTo-prefixes saw keep law first now [] seen = seen
FoldsTo-prefixes saw keep law first now (line ∷ lines) seen =
    (seen.0, law first line seen.0 seen.1, FoldsTo-prefixes saw keep law seen.0 now lines seen.2)

pub AreReplies-append : (Reply : List ℕ → List ℕ → Type 0) (xs ys : List (List ℕ)) (bytes more : List ℕ)
    → AreReplies Reply xs bytes → AreReplies Reply ys more → AreReplies Reply (xs ++ ys) (bytes ++ more)
AreReplies-append Reply [] ys bytes more are next =
    subst (λ b. AreReplies Reply ys (b ++ more)) (sym are) next
AreReplies-append Reply (x ∷ xs) ys bytes more are next = (
  are.0,
  are.1 ++ more,
  are.2,
  AreReplies-append Reply xs ys are.1 more are.3 next,
  ap (λ b. b ++ more) are.4 ∙ append_assoc (are.0 ++ 10 ∷ []) are.1 more,
)

pub AreReplies-weaker : (Reply Reply' : List ℕ → List ℕ → Type 0)
    → ((line text : List ℕ) → Reply' line text → Reply line text) → (lines : List (List ℕ)) (bytes : List ℕ)
    → AreReplies Reply' lines bytes → AreReplies Reply lines bytes
AreReplies-weaker Reply Reply' law [] bytes are = are
AreReplies-weaker Reply Reply' law (line ∷ lines) bytes are =
    (are.0, are.1, law line are.0 are.2, AreReplies-weaker Reply Reply' law lines are.1 are.3, are.4)

module _ (Reply : List ℕ → List ℕ → Type 0) (keep : ℕ) (law : (line text : List ℕ)
    → Reply (take keep line) text → Reply line text) where
  -- where the first bytes of a line decide which texts are a reply to it
  pub AreReplies-prefixes : (lines : List (List ℕ)) (bytes : List ℕ)
      → AreReplies Reply (prefixes keep lines) bytes → AreReplies Reply lines bytes
  AreReplies-prefixes [] bytes are = are
  AreReplies-prefixes (line ∷ lines) bytes are =
      (are.0, are.1, law line are.0 are.2, AreReplies-prefixes lines are.1 are.3, are.4)

  few : (count : ℕ) (lines : List (List ℕ)) (bytes : List ℕ)
      → AreReplies Reply (take count (prefixes keep lines)) bytes → AreReplies Reply (take count lines) bytes
  few count lines bytes are = AreReplies-prefixes (take count lines) bytes (rw take-map at are)

  module _ (old new : Option (List ℕ)) (lines : List (List ℕ)) where
    pub AppendsReplies-prefixes : AppendsReplies Reply old new (prefixes keep lines)
        → AppendsReplies Reply old new lines
    AppendsReplies-prefixes all =
        record {
          bytes = all.bytes;
          are_replies = AreReplies-prefixes lines all.bytes all.are_replies;
          appends = all.appends;
        }

    pub AppendsSome-prefixes : AppendsSome Reply old new (prefixes keep lines)
        → AppendsSome Reply old new lines
    AppendsSome-prefixes some = record {
      count = some.count;
      not_all = rw length-map at some.not_all;
      replies =
          record {
            bytes = some.replies.bytes;
            are_replies = few some.count lines some.replies.bytes some.replies.are_replies;
            appends = some.replies.appends;
          };
    }

    pub AppendsPrefixOfReplies-prefixes : AppendsPrefixOfReplies Reply old new (prefixes keep lines)
        → AppendsPrefixOfReplies Reply old new lines
    AppendsPrefixOfReplies-prefixes some = record {
      count = some.count;
      within = rw length-map at some.within;
      bytes = some.bytes;
      are_replies = few some.count lines some.bytes some.are_replies;
      prefix = some.prefix;
    }
