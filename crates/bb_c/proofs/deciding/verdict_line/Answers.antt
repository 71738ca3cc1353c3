use Rattle.std.proofs.Common.{arith, ap, length}
use Rattle.bb_machine.specs.declared.machine.TheConstants.{MAX_STATES, MAX_SYMBOLS}
use Rattle.bb_machine.proofs.Facts.{text_short}
use Rattle.bb_c.proofs.deciding.verdict_line.Goals as goal

pub line_into-requires : goal.line_into-requires
line_into-requires c =
    let short = text_short MAX_STATES MAX_SYMBOLS c.args.machine.now c.requires.machine in
    let long = c.lines_are_short.ensures c.args.machine.now c.in_ok-verdict.verdict (omega (arith, short))
    c.in_ok-verdict.ensures.numbers in
    omega (arith, long, ap length c.requires.empty)
