use Rattle.std.proofs.Common.{rules}
use Rattle.bb_machine.specs.declared.machine.TheConstants.{MAX_STATES}
use Rattle.bb_machine.proofs.Entries.{stop_first, stop_dash, stop_dashes, stop_second, stop_third}
use Rattle.bb_machine.proofs.entry.Entry.read.Goals as goal

pub returns-then-second-ne45-clause-stop : goal.returns-then-second-ne45-clause-stop
returns-then-second-ne45-clause-stop c =
    stop_dash MAX_STATES c.args.symbols c.args.bytes.now (search rules) (search rules)

pub returns-then-third-ne45-clause-stop : goal.returns-then-third-ne45-clause-stop
returns-then-third-ne45-clause-stop c =
    stop_dashes MAX_STATES c.args.symbols c.args.bytes.now (search rules) (search rules) (search rules)

pub returns-in_default-read-clause-stop : goal.returns-in_default-read-clause-stop
returns-in_default-read-clause-stop c =
    let digit = c.in-Some.ensures in
    stop_second MAX_STATES c.args.symbols c.args.bytes.now c.in-Some.write digit.0 (search rules)
    (λ d same. c.in_default-read.ensures d (cc))

pub returns-in_default-read-2-clause-stop : goal.returns-in_default-read-2-clause-stop
returns-in_default-read-2-clause-stop c =
    let digit = c.in-Some.ensures in
    stop_third MAX_STATES c.args.symbols c.args.bytes.now c.in-Some.write c.in-Some-read.dir digit.0
    (search rules) (search rules) (λ n is same. c.in_default-read-2.ensures n is (cc))

pub returns-in_default-clause-stop : goal.returns-in_default-clause-stop
returns-in_default-clause-stop c =
    stop_first MAX_STATES c.args.symbols c.args.bytes.now (search rules)
    (λ w below same. c.in_default.ensures w below (cc))
