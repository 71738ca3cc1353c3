use Rattle.std.proofs.Common.{◌≡◌, ℕ, ◌+◌, ◌-◌, List, ◌∷◌, ◌++◌, length, take, drop, ap, ◌∙◌, subst, arith}
use Rattle.std.proofs.lemmas.List.{length-drop, take_all}
use Rattle.bb_cert.proofs.verdict_lemmas.Spaces.{HasNoSpace, no_space_before, no_space_within, space_split}
use Rattle.bb_cert.proofs.verdict.reader.split_at_space.Goals as goal

pub returns-in_err-space : goal.returns-in_err-space
returns-in_err-space c =
    let bytes = c.args.bytes.now in
    let before = no_space_before bytes (length bytes) (omega arith) c.in_err-space.ensures in
    let none = subst HasNoSpace (take_all (length bytes) bytes (omega arith)) before in
    rw c.from_residual.ensures (λ prefix rest is. no_space_within prefix rest bytes none is)

pub returns : goal.returns
returns c =
    let bytes = c.args.bytes.now in
    let first = c.in_ok-space.ensures in
    let place = c.in_ok-space.space in
    let rest : List ℕ = drop (place + 1) bytes in
    let whole : take (length bytes - (place + 1)) rest ≡ rest =
    take_all (length bytes - (place + 1)) rest (omega (arith, length-drop (place + 1) bytes)) in (
      no_space_before bytes place (omega (arith, first.0.high)) first.0.before,
      ap (λ after. take place bytes ++ 32 ∷ after) whole ∙ space_split bytes place first.0.high first.1,
    )
