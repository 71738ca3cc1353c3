-- A line that is sent piece by piece.
use Rattle.std.proofs.Common.{◌≡◌, ℕ, List, [], ◌++◌, Option, Result, Ok, Err, OnErr, take, drop, ap, subst, ◌∙◌}
use Rattle.std.proofs.Common.{append_assoc}
use Rattle.std.proofs.lemmas.List.{take-append-drop}
use Rattle.bb_lines.specs.Ends.{AppendsPrefix}
use Rattle.bb_lines.specs.Output.{Sends}
use Rattle.bb_lines.proofs.Facts.{AppendsPrefix-more}

-- the bytes of a line before the rest were sent
pub record SendsPart (held held_then : Option (List ℕ)) (waiting line rest : List ℕ) : Type 0 where
  pub past : List ℕ
  pub whole : past ++ rest ≡ line
  pub sends : Sends held held_then [] waiting past

-- the line again, with one piece more sent
pub whole_after : (past rest line : List ℕ) (n : ℕ) → past ++ rest ≡ line
    → (past ++ take n rest) ++ drop n rest ≡ line
whole_after past rest line n is =
    append_assoc past (take n rest) (drop n rest) ∙ ap (λ b. past ++ b) (take-append-drop n rest) ∙ is

-- what is written of the bytes sent is a beginning of the line
pub begins : {held held_then held_last : Option (List ℕ)} {waiting line rest : List ℕ}
    (sent : SendsPart held held_then waiting line rest) → AppendsPrefix held held_last sent.past
    → AppendsPrefix held held_last line
begins {held} {held_then} {held_last} {waiting} {line} {rest} sent prefix =
    subst (λ b. AppendsPrefix held held_last b) sent.whole (AppendsPrefix-more rest prefix)

pub on_err : {T E : Type 0} (result : Result T E) {P Q : Type 0} → OnErr result P → (P → Q) → OnErr result Q
on_err (Ok value) holds so = tt
on_err (Err error) holds so = so holds
