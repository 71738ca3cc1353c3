-- What the engine's calls come to, one after another.
use Rattle.std.proofs.Common.{◌≡◌, ℕ, ◌+◌, ◌<◌, ◌≤◌, Bool, true, false, List, [], ◌∷◌, ◌++◌, length, take}
use Rattle.std.proofs.Common.{append_assoc, sym, ◌∙◌, subst, refl, arith, length-append, Option}
use Rattle.std.proofs.Common.{Result, Ok, Err}
use Rattle.std.specs.Prelude.{OnOk, OnErr, IsOkUnless, is_err}
use Rattle.std.specs.List.{FoldsTo}
use Rattle.std.proofs.lemmas.List.{append-nil, take-append-le}
use Rattle.std.proofs.Math.Seq.{take-append-add, take-length}
use Rattle.std.specs.Io.KnownBytes.{Appends}
use Rattle.bb_lines.specs.declared.fault.Fault.{Fault}
use Rattle.bb_lines.specs.declared.fault.Fault.TheVariants.{Memory, Read, Write}
use Rattle.bb_lines.specs.Lines.{AreReplies}
use Rattle.bb_lines.specs.Ends.{MatchEnd, AppendsPrefix, AppendsReplies, AppendsSome, AppendsPrefixOfReplies}
use Rattle.bb_lines.specs.Output.{Sends}
use Rattle.bb_lines.specs.Cost.{high_cost}
use Rattle.bb_lines.specs.inside.Progress.{Answers, AreAnswered, WritesSome, WritesPrefix}
use Rattle.bb_lines.proofs.Replies.{AreReplies-append, AreReplies-weaker, FoldsTo-append}
use Rattle.bb_lines.proofs.Sends.{Sends-none, Sends-trans, Sends-written, AppendsPrefix-after}
use Rattle.bb_lines.proofs.Sends.{AppendsPrefix-further, Appends-further, Appends-sent}

-- how a call over some lines ends, with what is so without fault
abbrev pub CallEnds : {S : Type 0} → Result S Fault → (S → Type 0) → (List ℕ → List ℕ → Type 0)
    → Option (List ℕ) → Option (List ℕ) → List ℕ → List (List ℕ) → Type 0
CallEnds r fine Reply held held' waiting lines =
    MatchEnd r fine (WritesSome Reply held held' waiting lines) ⊥
    (WritesPrefix Reply held held' waiting lines)

module _ {A : Type 0} {Reply : List ℕ → List ℕ → Type 0} {saw : A → List ℕ → A → Type 0} where
  -- no line is answered yet
  pub answered_none : {held : Option (List ℕ)} {waiting : List ℕ} {first : A}
      → AreAnswered Reply saw held held waiting waiting first first []
  answered_none = record { bytes = []; are_replies = refl; sends = Sends-none; seen = refl }

  -- one line is answered
  pub answered_one : {held held' : Option (List ℕ)} {waiting waiting' : List ℕ} {first now : A}
      {line : List ℕ} (text : List ℕ) → Reply line text → saw first line now
      → Sends held held' waiting waiting' (text ++ 10 ∷ [])
      → AreAnswered Reply saw held held' waiting waiting' first now (line ∷ [])
  answered_one {now} text is_reply one sends = record {
    bytes = text ++ 10 ∷ [];
    are_replies = (text, [], is_reply, refl, sym (append-nil (text ++ 10 ∷ [])));
    sends = sends;
    seen = (now, one, refl);
  }

-- what comes after some lines are answered
module _ {A : Type 0} {Reply : List ℕ → List ℕ → Type 0} {saw : A → List ℕ → A → Type 0}
    {held held' : Option (List ℕ)} {waiting waiting' : List ℕ} {first now : A} {lines : List (List ℕ)}
    (before : AreAnswered Reply saw held held' waiting waiting' first now lines) where
  -- all that waits is written
  pub answered_written : {held'' : Option (List ℕ)} → Appends held' held'' waiting'
      → AreAnswered Reply saw held held'' waiting [] first now lines
  answered_written written = record {
    bytes = before.bytes;
    are_replies = before.are_replies;
    sends = rw append-nil at (Sends-trans before.sends (Sends-written written));
    seen = before.seen;
  }

  -- a prefix of what waits is written
  pub prefix_written : {held'' : Option (List ℕ)} → AppendsPrefix held' held'' waiting'
      → WritesPrefix Reply held held'' waiting lines
  prefix_written some = record {
    count = length lines;
    within = omega arith;
    bytes = before.bytes;
    are_replies = rw take-length before.are_replies;
    prefix = AppendsPrefix-after before.sends some;
  }

  module _ {Reply' : List ℕ → List ℕ → Type 0} (law : (line text : List ℕ) → Reply' line text
      → Reply line text) where
    more_replies : (xs : List (List ℕ)) (bytes : List ℕ) → AreReplies Reply' xs bytes
        → AreReplies Reply (lines ++ xs) (before.bytes ++ bytes)
    more_replies xs bytes are =
        AreReplies-append Reply lines xs before.bytes bytes before.are_replies
        (AreReplies-weaker Reply Reply' law xs bytes are)

    -- more lines are answered
    pub answered_more : {held'' : Option (List ℕ)} {waiting'' : List ℕ} {next : A} {more : List (List ℕ)}
        → AreAnswered Reply' saw held' held'' waiting' waiting'' now next more
        → AreAnswered Reply saw held held'' waiting waiting'' first next (lines ++ more)
    answered_more {next} {more} after = record {
      bytes = before.bytes ++ after.bytes;
      are_replies = more_replies more after.bytes after.are_replies;
      sends = Sends-trans before.sends after.sends;
      seen = FoldsTo-append saw first now next lines more before.seen after.seen;
    }

    module _ {all : List (List ℕ)} (more later : List (List ℕ)) (is : all ≡ (lines ++ more) ++ later) where
      count_replies : (count : ℕ) (bytes : List ℕ) → count ≤ length more
          → AreReplies Reply' (take count more) bytes
          → AreReplies Reply (take (length lines + count) all) (before.bytes ++ bytes)
      count_replies count bytes within are =
          let parts : all ≡ lines ++ (more ++ later) = is ∙ append_assoc lines more later in
          rw (parts, take-append-add, take-append-le count more later within)
          (more_replies (take count more) bytes are)

      some_after : {held'' : Option (List ℕ)} → WritesSome Reply' held' held'' waiting' more
          → WritesSome Reply held held'' waiting all
      some_after some = record {
        count = length lines + some.count;
        not_all =
            let few = some.not_all in
            rw is (omega (arith, few, length-append (lines ++ more) later, length-append lines more));
        bytes = before.bytes ++ some.bytes;
        are_replies = count_replies some.count some.bytes (let few = some.not_all in
            omega (arith, few)) some.are_replies;
        appends = Appends-further before.sends _ some.bytes some.appends;
      }

      prefix_after : {held'' : Option (List ℕ)} → WritesPrefix Reply' held' held'' waiting' more
          → WritesPrefix Reply held held'' waiting all
      prefix_after some = record {
        count = length lines + some.count;
        within =
            rw is (omega (arith, some.within, length-append (lines ++ more) later, length-append lines more));
        bytes = before.bytes ++ some.bytes;
        are_replies = count_replies some.count some.bytes some.within some.are_replies;
        prefix = AppendsPrefix-further before.sends some.bytes some.prefix;
      }

      -- a call over more lines ends by a fault
      pub fault_after : (held'' : Option (List ℕ)) (P P' : Type 0) (fault : Fault)
          → CallEnds {S = Unit {0}} (Err fault) (λ _. P) Reply' held' held'' waiting' more
          → CallEnds {S = Unit {0}} (Err fault) (λ _. P') Reply held held'' waiting all
      fault_after held'' P P' Memory ends = some_after ends
      fault_after held'' P P' Read ends = ends
      fault_after held'' P P' Write ends = prefix_after ends

module _ {Reply : List ℕ → List ℕ → Type 0} {held held' : Option (List ℕ)} {lines : List (List ℕ)} where
  -- before the first of these lines, a prefix of what waits is written
  pub prefix_before : {waiting : List ℕ} → AppendsPrefix held held' waiting
      → WritesPrefix Reply held held' waiting lines
  prefix_before some =
      record { count = 0; within = omega arith; bytes = []; are_replies = refl; prefix = rw append-nil some }

  -- a prefix of the replies is one of the replies to more lines
  pub prefix_more : {waiting : List ℕ} (more : List (List ℕ)) → WritesPrefix Reply held held' waiting lines
      → WritesPrefix Reply held held' waiting (lines ++ more)
  prefix_more more some = record {
    count = some.count;
    within = let few = some.within in omega (arith, few, length-append lines more);
    bytes = some.bytes;
    are_replies = rw (take-append-le some.count lines more some.within) some.are_replies;
    prefix = some.prefix;
  }

  -- where nothing waited
  AppendsSome-writes : WritesSome Reply held held' [] lines → AppendsSome Reply held held' lines
  AppendsSome-writes some = record {
    count = some.count;
    not_all = some.not_all;
    replies = record { bytes = some.bytes; are_replies = some.are_replies; appends = some.appends };
  }

  pub AppendsPrefixOfReplies-writes : WritesPrefix Reply held held' [] lines
      → AppendsPrefixOfReplies Reply held held' lines
  AppendsPrefixOfReplies-writes some = record {
    count = some.count;
    within = some.within;
    bytes = some.bytes;
    are_replies = some.are_replies;
    prefix = some.prefix;
  }

-- how a call ends that answers lines, by what its responder stays
module _ {A : Type 0} {Reply : A → List ℕ → List ℕ → Type 0} {saw : A → List ℕ → A → Type 0} {cost : A → ℕ}
    {Keeps : A → A → Type 0} {IsReady : A → Type 0} {grows : Bool} {held held' : Option (List ℕ)}
    {failed : Bool} {waiting waiting' : List ℕ} {first now : A} {lines : List (List ℕ)}
    (keeps : Keeps first now) (ready : IsReady now) where
  pub answers_fine : AreAnswered (Reply first) saw held held' waiting waiting' first now lines
      → (high_cost < cost now → waiting' ≡ []) → failed ≡ false → {u : Unit {0}}
      → Answers Reply saw cost Keeps IsReady grows held held' failed waiting waiting' first now lines (Ok u)
  answers_fine all prompt unmarked = record {
    ends = all;
    prompt = prompt;
    memory = λ e. cc;
    write = (λ e. cc, λ marked. let both : true ≡ false = sym marked ∙ unmarked in cc);
    no_read = λ e. cc;
    keeps = keeps;
    ready = ready;
  }

  pub answers_until_write : failed ≡ true → WritesPrefix (Reply first) held held' waiting lines
      → Answers Reply saw cost Keeps IsReady grows held held' failed waiting waiting' first now lines
      (Err Write)
  answers_until_write marked some = record {
    ends = some;
    prompt = λ _. tt;
    memory = λ e. cc;
    write = (λ _. marked, λ _. refl);
    no_read = λ e. cc;
    keeps = keeps;
    ready = ready;
  }

  -- the lines are answered, and then all that waits was to be written
  pub answers_by_write : {between : Option (List ℕ)} {waited : List ℕ}
      → AreAnswered (Reply first) saw held between waiting waited first now lines
      → (r : Result (Unit {0}) Fault) → OnOk r (Appends between held' waited) → OnOk r (waiting' ≡ [])
      → IsOkUnless r Write → OnErr r (AppendsPrefix between held' waited) → failed ≡ is_err r
      → Answers Reply saw cost Keeps IsReady grows held held' failed waiting waiting' first now lines r
  answers_by_write before (Ok u) ok empty only err mark =
      answers_fine (subst (λ w. AreAnswered (Reply first) saw held held' waiting w first now lines)
      (sym empty) (answered_written before ok)) (λ _. empty) mark
  answers_by_write before (Err Write) ok empty only err mark =
      answers_until_write mark (prefix_written before err)
  answers_by_write before (Err Memory) ok empty only err mark = cc
  answers_by_write before (Err Read) ok empty only err mark = cc

-- where nothing waited at first
module _ {A : Type 0} {Reply : List ℕ → List ℕ → Type 0} {saw : A → List ℕ → A → Type 0}
    {held held' : Option (List ℕ)} {waiting' : List ℕ} {first now : A} {lines : List (List ℕ)}
    (before : AreAnswered Reply saw held held' [] waiting' first now lines) where
  -- all that waits is written, so that the replies are
  pub replies_written : {held'' : Option (List ℕ)} → Appends held' held'' waiting'
      → AppendsReplies Reply held held'' lines
  replies_written {held''} written =
      let all : AreAnswered Reply saw held held'' [] [] first now lines = answered_written before written in
      record { bytes = all.bytes; are_replies = all.are_replies; appends = Appends-sent all.sends }

  -- all lines are answered, and then all that waits was to be written, and may have been
  pub ends_at_last : (held'' : Option (List ℕ)) (r : Result (Unit {0}) Fault)
      → OnOk r (Appends held' held'' waiting') → IsOkUnless r Write
      → OnErr r (AppendsPrefix held' held'' waiting')
      → MatchEnd r (λ _. AppendsReplies Reply held held'' lines × FoldsTo saw first lines now)
      (AppendsSome Reply held held'' lines) ⊥ (AppendsPrefixOfReplies Reply held held'' lines)
  ends_at_last held'' (Ok u) ok only err = (replies_written ok, before.seen)
  ends_at_last held'' (Err Write) ok only err = AppendsPrefixOfReplies-writes (prefix_written before err)
  ends_at_last held'' (Err Memory) ok only err = cc
  ends_at_last held'' (Err Read) ok only err = cc

  -- a call over more lines ends by a fault
  pub fault_after_none : {Reply' : List ℕ → List ℕ → Type 0}
      → ((line text : List ℕ) → Reply' line text → Reply line text)
      → {all : List (List ℕ)} (more later : List (List ℕ)) (held'' : Option (List ℕ))
      → all ≡ (lines ++ more) ++ later → (P P' Q : Type 0) (fault : Fault)
      → CallEnds {S = Unit {0}} (Err fault) (λ _. P) Reply' held' held'' waiting' more
      → MatchEnd {S = Unit {0}} (Err fault) (λ _. P') (AppendsSome Reply held held'' all) Q
      (AppendsPrefixOfReplies Reply held held'' all)
  fault_after_none law more later held'' is P P' Q Memory ends =
      AppendsSome-writes (fault_after before law more later is held'' P P' Memory ends)
  fault_after_none law more later held'' is P P' Q Read ends = absurd ends
  fault_after_none law more later held'' is P P' Q Write ends =
      AppendsPrefixOfReplies-writes (fault_after before law more later is held'' P P' Write ends)
