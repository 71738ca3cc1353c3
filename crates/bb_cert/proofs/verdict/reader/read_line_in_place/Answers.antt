use Rattle.bb_cert.specs.declared.verdict.reader.Line.{Line}
use Rattle.bb_cert.specs.verdict.Line.{IsLineOf}
use Rattle.bb_cert.proofs.verdict_lemmas.Lines.{no_line}
use Rattle.bb_cert.proofs.verdict.reader.read_line_in_place.Goals as goal

pub returns-in-Err-clause-none : goal.returns-in-Err-clause-none
returns-in-Err-clause-none c =
    no_line c.in_ok-text.text.now c.in_ok-text.words.now c.args.bytes.now c.in_ok-text.ensures.0
    c.in_ok-text.ensures.1 c.in_default.ensures
    (λ table _ machine is _ _. c.in-Err.ensures.none table machine is)

no_verdict : (c : goal.After-from_residual-in_err-verdict) (line : Line) → IsLineOf line c.args.bytes.now → ⊥
no_verdict c =
    no_line c.in_ok-text.text.now c.in_ok-text.words.now c.args.bytes.now c.in_ok-text.ensures.0
    c.in_ok-text.ensures.1 c.in_default.ensures
    (λ _ verdict _ _ numbers is. c.in_err-verdict.ensures verdict numbers is)

pub returns-in_err-verdict-clause-none : goal.returns-in_err-verdict-clause-none
returns-in_err-verdict-clause-none c = rw c.from_residual-in_err-verdict.ensures (no_verdict c)
