use Rattle.std.proofs.Common.{◌≡◌, ◌++◌, codes, decimal, Some, sym, ◌∙◌, ap, arith}
use Rattle.std.proofs.lemmas.Bool.Decides.{Decides-eqb}
use Rattle.std.proofs.lemmas.Fmt.{decimal_injective}
use Rattle.std.proofs.lemmas.List.{append_cancel_left}
use Rattle.std.proofs.lemmas.Slice.Eq.{strip_prefix_is}
use Rattle.bb_cert.proofs.verdict.reader.read_refusal.Goals as goal
use Rattle.bb_cert.proofs.verdict.reader.read_refusal.Goals.{then-column-eq0-via-then-column-eq0}
use Rattle.bb_cert.proofs.verdict.reader.read_refusal.Goals.{then-column-eq0-via-else-column-eq0+then-column}

pub returns-then-column-eq0 : goal.returns-then-column-eq0
returns-then-column-eq0 c = λ column some few is.
    let rest = c.in_ok-digits.digits.now in
    let prefix = strip_prefix_is Decides-eqb c.args.bytes.now c.as_slice.result.now
    (Some c.in_ok-digits.digits) c.in_ok-digits.ensures.cases in
    let digits = append_cancel_left (codes "refused ") (decimal column) rest
    (is ∙ prefix ∙ ap (λ word. word ++ rest) c.as_slice.ensures) in
    let same : column ≡ c.in_ok-column.column = decimal_injective column c.in_ok-column.column (omega arith)
    c.in_ok-column.ensures.0 (digits ∙ sym c.in_ok-column.ensures.1) in
    elim c.then-column-eq0.branch [
      | then-column-eq0-via-then-column-eq0 w ↦ omega arith
      | then-column-eq0-via-else-column-eq0+then-column w ↦ omega arith
    ]

pub returns : goal.returns
returns c =
    let rest = c.in_ok-digits.digits.now in
    let prefix = strip_prefix_is Decides-eqb c.args.bytes.now c.as_slice.result.now
    (Some c.in_ok-digits.digits) c.in_ok-digits.ensures.cases in
    let bytes = prefix ∙ ap (λ word. word ++ rest) c.as_slice.ensures in (
      omega arith,
      c.if-column.false,
      ap (λ digits. codes "refused " ++ digits) c.in_ok-column.ensures.1 ∙ sym bytes,
    )
