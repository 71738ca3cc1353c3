use Rattle.std.proofs.Common.{arith, length-append}
use Rattle.bb_machine.specs.Machine.{text}
use Rattle.bb_cert.specs.verdict.Line.{verdict_text}
use Rattle.bb_cert.proofs.verdict_lemmas.Lengths.{length-verdict_text}
use Rattle.bb_cert.proofs.verdict.line.lines_are_short.Goals as goal

pub returns : goal.returns
returns c = λ table verdict short fits.
    let words = length-verdict_text verdict fits in
    let whole = length-append (text table) (verdict_text verdict) in
    omega arith
