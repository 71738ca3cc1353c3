-- What one call after another sends.
use Rattle.std.proofs.Common.{◌≡◌, ℕ, ◌-◌, List, [], ◌++◌, length, take, drop, append_assoc, sym, ◌∙◌, subst}
use Rattle.std.proofs.Common.{ap, refl, arith, Option}
use Rattle.std.proofs.lemmas.Grind.{common_steps}
use Rattle.std.proofs.lemmas.List.{append-nil, take-append-drop}
use Rattle.std.proofs.KnownBytes.{Appends-nil, Appends-trans, Appends-kept}
use Rattle.std.specs.Io.KnownBytes.{Appends, Keeps}
use Rattle.bb_lines.specs.Ends.{AppendsPrefix}
use Rattle.bb_lines.specs.Output.{Sends}

-- what is sliced off from n on is all that is dropped to there
pub slice_from : (n : ℕ) (xs : List ℕ) → take (length xs - n) (drop n xs) ≡ drop n xs
slice_from n xs = grind (arith, common_steps)

-- a beginning is one of more bytes
pub AppendsPrefix-more : {held held' : Option (List ℕ)} {bytes : List ℕ} (more : List ℕ)
    → AppendsPrefix held held' bytes → AppendsPrefix held held' (bytes ++ more)
AppendsPrefix-more more before = record {
  prefix = before.prefix;
  rest = before.rest ++ more;
  whole = sym (append_assoc before.prefix before.rest more) ∙ ap (λ b. b ++ more) before.whole;
  appends = before.appends;
}

-- a call that writes nothing, where as much waits as before
pub Sends-none : {held : Option (List ℕ)} {waiting : List ℕ} → Sends held held waiting waiting []
Sends-none {held} {waiting} =
    record { written = []; whole = sym (append-nil waiting); appends = Appends-nil held }

-- all that waits is written, and nothing waits then
pub Sends-written : {held held' : Option (List ℕ)} {waiting : List ℕ} → Appends held held' waiting
    → Sends held held' waiting [] []
Sends-written {waiting} appends = record { written = waiting; whole = refl; appends = appends }

-- all that was sent is written
pub Appends-sent : {held held' : Option (List ℕ)} {waiting bytes : List ℕ} → Sends held held' waiting [] bytes
    → Appends held held' (waiting ++ bytes)
Appends-sent {held} {held'} sends =
    subst (λ b. Appends held held' b) (sym (append-nil sends.written) ∙ sends.whole) sends.appends

-- what a call writes is a beginning of what waited and what it sends
pub AppendsPrefix-sent : {held held' : Option (List ℕ)} {waiting waiting' bytes : List ℕ}
    → Sends held held' waiting waiting' bytes → AppendsPrefix held held' (waiting ++ bytes)
AppendsPrefix-sent {waiting'} sends =
    record { prefix = sends.written; rest = waiting'; whole = sends.whole; appends = sends.appends }

-- what comes after a call
module _ {held held' : Option (List ℕ)} {waiting waiting' bytes : List ℕ}
    (before : Sends held held' waiting waiting' bytes) where
  -- one call after another
  pub Sends-trans : {held'' : Option (List ℕ)} {waiting'' more : List ℕ}
      → Sends held' held'' waiting' waiting'' more → Sends held held'' waiting waiting'' (bytes ++ more)
  Sends-trans {held''} {waiting''} {more} after = record {
    written = before.written ++ after.written;
    whole = append_assoc before.written after.written waiting'' ∙ ap (λ b. before.written ++ b) after.whole
        ∙ sym (append_assoc before.written waiting' more) ∙ ap (λ b. b ++ more) before.whole
        ∙ append_assoc waiting bytes more;
    appends = Appends-trans held held' held'' before.written after.written before.appends after.appends;
  }

  -- a write took the first n bytes of what waits
  pub Sends-write : {held'' : Option (List ℕ)} (n : ℕ) → Appends held' held'' (take n waiting')
      → Sends held held'' waiting (take (length waiting' - n) (drop n waiting')) bytes
  Sends-write {held''} n took = record {
    written = before.written ++ take n waiting';
    whole = rw slice_from (append_assoc before.written (take n waiting') (drop n waiting')
        ∙ ap (λ b. before.written ++ b) (take-append-drop n waiting') ∙ before.whole);
    appends = Appends-trans held held' held'' before.written (take n waiting') before.appends took;
  }

  -- a call that changes no byte
  pub Sends-kept : {held'' : Option (List ℕ)} → Keeps held' held'' → Sends held held'' waiting waiting' bytes
  Sends-kept {held''} same = record {
    written = before.written;
    whole = before.whole;
    appends = Appends-kept held held' held'' before.written before.appends same;
  }

  -- what was sent, and then what still waits and more bytes
  further : (more : List ℕ) → before.written ++ (waiting' ++ more) ≡ waiting ++ (bytes ++ more)
  further more = sym (append_assoc before.written waiting' more) ∙ ap (λ b. b ++ more) before.whole
      ∙ append_assoc waiting bytes more

  -- then all that waits is written, and more bytes
  pub Appends-further : (held'' : Option (List ℕ)) (more : List ℕ) → Appends held' held'' (waiting' ++ more)
      → Appends held held'' (waiting ++ (bytes ++ more))
  Appends-further held'' more after =
      subst (λ b. Appends held held'' b) (further more)
      (Appends-trans held held' held'' before.written (waiting' ++ more) before.appends after)

  -- then a prefix of what waits and of more bytes is written
  pub AppendsPrefix-further : {held'' : Option (List ℕ)} (more : List ℕ)
      → AppendsPrefix held' held'' (waiting' ++ more) → AppendsPrefix held held'' (waiting ++ (bytes ++ more))
  AppendsPrefix-further {held''} more after = record {
    prefix = before.written ++ after.prefix;
    rest = after.rest;
    whole = append_assoc before.written after.prefix after.rest ∙ ap (λ b. before.written ++ b) after.whole
        ∙ further more;
    appends = Appends-trans held held' held'' before.written after.prefix before.appends after.appends;
  }

  -- then a beginning of what waits is written
  pub AppendsPrefix-after : {held'' : Option (List ℕ)} → AppendsPrefix held' held'' waiting'
      → AppendsPrefix held held'' (waiting ++ bytes)
  AppendsPrefix-after {held''} after =
      rw append-nil at (AppendsPrefix-further {held'' = held''} [] (rw append-nil after))

  -- then all that waits is written
  pub Appends-after : (held'' : Option (List ℕ)) → Appends held' held'' waiting'
      → Appends held held'' (waiting ++ bytes)
  Appends-after held'' after = rw append-nil at (Appends-further held'' [] (rw append-nil after))
