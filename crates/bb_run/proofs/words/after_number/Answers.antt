use Rattle.std.proofs.Common.{◌≡◌, ◌-◌, ◌<◌, ◌≤◌, length, take, drop, get_or, arith}
use Rattle.std.proofs.lemmas.List.{length-drop, take_all}
use Rattle.bb_run.proofs.VerdictWords.{number_at_first}
use Rattle.bb_run.proofs.words.after_number.Goals as goal
use Rattle.bb_run.proofs.words.after_number.Goals.{else-bytes-eq48-via-else-bytes-eq48}
use Rattle.bb_run.proofs.words.after_number.Goals.{
  else-bytes-eq48-via-then-bytes-eq48+else-digits-gt1,
}

pub returns : goal.returns
returns c =
    let bytes = c.args.bytes.now in
    let count = c.digits_at_first-digits.result in
    let some : 0 < count = omega arith in
    let few : count ≤ 19 = omega arith in
    let no_zero : get_or bytes 0 0 ≡ 48 → count ≡ 1 = λ zero. elim c.else-bytes-eq48.branch [
      | else-bytes-eq48-via-then-bytes-eq48+else-digits-gt1 w ↦ omega (arith, w.if-digits-gt1.false)
      | else-bytes-eq48-via-else-bytes-eq48 w ↦ absurd (w.if-bytes-eq48.false zero)
    ] in
    let whole : take (length bytes - count) (drop count bytes) ≡ drop count bytes =
    take_all (length bytes - count) (drop count bytes) (omega (arith, length-drop count bytes)) in
    rw whole (number_at_first bytes count c.digits_at_first-digits.ensures.within
    c.digits_at_first-digits.ensures.digits some few no_zero)
