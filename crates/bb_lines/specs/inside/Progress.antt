-- The progress of a run, for the engine's own functions. No public contract cites it.
use Rattle.std.specs.Prelude.{◌≡◌, ◌≢◌, ◌↔◌, ℕ, ◌<◌, ◌≤◌, Bool, true, List, [], ◌++◌, length, map, take}
use Rattle.std.specs.Prelude.{Option, Result, Err, OnOk, IsTrue}
use Rattle.std.specs.List.{FoldsTo}
use Rattle.std.specs.Io.KnownBytes.{Appends}
use Rattle.bb_lines.specs.declared.fault.Fault.{Fault}
use Rattle.bb_lines.specs.declared.fault.Fault.TheVariants.{Memory, Read, Write}
use Rattle.bb_lines.specs.declared.lines.Engine.{Engine}
use Rattle.bb_lines.specs.Cost.{high_cost}
use Rattle.bb_lines.specs.Ends.{AppendsPrefix, MatchEnd}
use Rattle.bb_lines.specs.Lines.{AreReplies}
use Rattle.bb_lines.specs.Output.{Sends}
use Rattle.bb_lines.specs.Watched.{is_marked, watched_inner}

-- the first bytes of each line
abbrev pub prefixes : ℕ → List (List ℕ) → List (List ℕ)
prefixes keep lines = map (take keep) lines

-- these lines were answered: replies to them were sent, and the responder went over them from `first` to
-- `now`
pub record AreAnswered {A : Type 0} (Reply : List ℕ → List ℕ → Type 0) (saw : A → List ℕ → A → Type 0)
    (held held_then : Option (List ℕ)) (waiting waiting_then : List ℕ) (first now : A)
    (lines : List (List ℕ)) : Type 0 where
  pub bytes : List ℕ
  pub are_replies : AreReplies Reply lines bytes
  pub sends : Sends held held_then waiting waiting_then bytes
  pub seen : FoldsTo saw first lines now

-- what waited was written, and then the replies to the first few of the lines, not to all of them
pub record WritesSome (Reply : List ℕ → List ℕ → Type 0) (held held_then : Option (List ℕ))
    (waiting : List ℕ) (lines : List (List ℕ)) : Type 0 where
  pub count : ℕ
  pub not_all : count < length lines
  pub bytes : List ℕ
  pub are_replies : AreReplies Reply (take count lines) bytes
  pub appends : Appends held held_then (waiting ++ bytes)

-- a prefix was written of what waited and then the replies to the first few of the lines, or to all of them
pub record WritesPrefix (Reply : List ℕ → List ℕ → Type 0) (held held_then : Option (List ℕ))
    (waiting : List ℕ) (lines : List (List ℕ)) : Type 0 where
  pub count : ℕ
  pub within : count ≤ length lines
  pub bytes : List ℕ
  pub are_replies : AreReplies Reply (take count lines) bytes
  pub prefix : AppendsPrefix held held_then (waiting ++ bytes)

module _ {A : Type 0} (Reply : A → List ℕ → List ℕ → Type 0) (saw : A → List ℕ → A → Type 0) (cost : A → ℕ)
    (Keeps : A → A → Type 0) (IsReady : A → Type 0) (grows : Bool) where
  -- how a call ends that answers these lines: without fault they are answered, and no reply of a high cost
  -- waits; after an allocation failure those before the one at work are; after a failed write a prefix of the
  -- replies is written; nothing is read
  pub record Answers (held held_then : Option (List ℕ)) (failed : Bool) (waiting waiting_then : List ℕ)
      (first now : A) (lines : List (List ℕ)) (result : Result (Unit {0}) Fault) : Type 0 where
    pub ends : MatchEnd result
        (λ _. AreAnswered (Reply first) saw held held_then waiting waiting_then first now lines)
        (WritesSome (Reply first) held held_then waiting lines) ⊥
        (WritesPrefix (Reply first) held held_then waiting lines)
    pub prompt : high_cost < cost now → OnOk result (waiting_then ≡ [])
    pub memory : result ≡ Err Memory → IsTrue grows
    pub write : (result ≡ Err Write) ↔ (failed ≡ true)
    pub no_read : result ≢ Err Read
    pub keeps : Keeps first now
    pub ready : IsReady now

  -- the same of a call of the engine
  abbrev pub EngineAnswers : {R W : Type 0} → (W → Option (List ℕ)) → Engine R W A → Engine R W A
      → List (List ℕ) → Result (Unit {0}) Fault → Type 0
  EngineAnswers contents old new lines result = Answers (contents (watched_inner old.writer.now))
      (contents (watched_inner new.writer.now)) (is_marked new.writer.now) old.waiting.items new.waiting.items
      old.responder.now new.responder.now lines result

-- the engine's references still point to the same values
abbrev pub KeepsReferences : {R W A : Type 0} → Engine R W A → Engine R W A → Type 0
KeepsReferences old new = (new.reader.ghost_name ≡ old.reader.ghost_name)
    × (new.writer.ghost_name ≡ old.writer.ghost_name)
    × (new.responder.ghost_name ≡ old.responder.ghost_name)
