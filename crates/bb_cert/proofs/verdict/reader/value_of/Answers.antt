use Rattle.std.proofs.lemmas.Option.{MatchOption-at_none}
use Rattle.bb_cert.proofs.verdict_lemmas.Numbers.{value_at_end, value_too_large}
use Rattle.bb_cert.proofs.verdict.reader.value_of.Goals as goal

pub returns-in_err-value : goal.returns-in_err-value
returns-in_err-value c =
    let loop = c.loop-digit.invariant in
    let large = MatchOption-at_none _ _ c.in_err-value.was c.with_digit.ensures in
    rw c.from_residual.ensures (value_too_large c.args.digits.now c.loop-digit.rest.now c.loop-digit.value
    c.in-Some.digit.now c.in-Some.others.now c.in-Some.ensures.cases.0 loop.ahead loop.value large)

pub returns : goal.returns
returns c =
    let loop = c.loop-digit.invariant in
    let all = value_at_end c.args.digits.now c.loop-digit.rest.now c.loop-digit.value c.in_default.ensures.cases
    loop.read loop.value in
    (loop.fits, all.0, all.1)
