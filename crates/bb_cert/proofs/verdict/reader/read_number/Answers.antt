use Rattle.std.proofs.Common.{rules, ◌≡◌, ◌≢◌, ◌<◌, length, get_or, ◌∙◌, ap, sym, inl, inr, arith}
use Rattle.std.proofs.lemmas.Fmt.{decimal_nonempty}
use Rattle.std.proofs.lemmas.Option.{get_or_from_slice_get}
use Rattle.bb_cert.proofs.verdict_lemmas.Options.{MatchOption-weaker}
use Rattle.bb_cert.proofs.verdict_lemmas.Numbers.{decimal_no_zero, no_number_read, number_read}
use Rattle.bb_cert.proofs.verdict.reader.read_number.Goals as goal

pub returns-in_err-first : goal.returns-in_err-first
returns-in_err-first c =
    let empty : length c.args.digits.now ≡ 0 = search rules in
    rw c.from_residual.ensures (λ n fits is. omega (arith, decimal_nonempty n fits, ap length is))

pub returns-then-digits-gt1 : goal.returns-then-digits-gt1
returns-then-digits-gt1 c = λ n fits is.
    let head = get_or_from_slice_get c.args.digits.now 0 c.in_ok-first.field-0.now 0
    (sym c.in_ok-first.ensures.value) in
    decimal_no_zero n fits (omega (arith, c.if-digits-gt1.true, ap length is))
    (ap (λ digits. get_or digits 0 0) is ∙ head ∙ c.if-first-eq48.true)

pub returns : goal.returns
returns c =
    let head = get_or_from_slice_get c.args.digits.now 0 c.in_ok-first.field-0.now 0
    (sym c.in_ok-first.ensures.value) in
    let some : 0 < length c.args.digits.now = search rules in
    let no_zero : 1 < length c.args.digits.now → get_or c.args.digits.now 0 0 ≢ 48 = λ long zero.
    elim c.else-first-eq48.either [ inl short ↦ omega (arith, short.1, long) | inr other ↦ other (sym head ∙ zero) ] in
    MatchOption-weaker c.value_of.result c.value_of.ensures
    (λ large. no_number_read c.args.digits.now large)
    (λ n read. (read.0, number_read c.args.digits.now n read.1 some no_zero read.0 read.2))
