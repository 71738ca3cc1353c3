use Rattle.std.proofs.Common.{rules, ◌≡◌, ◌+◌, ap, arith, length, length-append}
use Rattle.arrayvec.specs.ArrayVec.{array_vec_len}
use Rattle.bb_machine.specs.declared.machine.TheConstants.{MAX_STATES, MAX_SYMBOLS}
use Rattle.bb_machine.specs.Machine.{text}
use Rattle.bb_machine.proofs.Facts.{text_short}
use Rattle.bb_cert.specs.verdict.Line.{verdict_text}
use Rattle.bb_run.proofs.tally.Tally.reply.Goals as goal

pub unwrap-requires : goal.unwrap-requires
unwrap-requires c =
    let short = text_short MAX_STATES MAX_SYMBOLS c.args.self.now.machine c.requires.of.machine in
    let empty = ap length c.requires.empty in
    c.try_extend_from_slice.ensures.variant.1 (omega (arith, short, ap length c.requires.of.is_text, empty))

pub verdict_into-requires : goal.verdict_into-requires
verdict_into-requires c =
    let short = text_short MAX_STATES MAX_SYMBOLS c.args.self.now.machine c.requires.of.machine in
    let long = c.lines_are_short.ensures c.args.self.now.machine c.args.verdict.now (omega (arith, short))
    c.requires.numbers in
    let whole = length-append (text c.args.self.now.machine) (verdict_text c.args.verdict.now) in
    let filled : array_vec_len c.try_extend_from_slice.new.self ≡ array_vec_len c.args.text.now + length
    c.args.line.now = search rules in
    omega (arith, long, whole, filled, ap length c.requires.of.is_text, ap length c.requires.empty)
