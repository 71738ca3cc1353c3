use Rattle.std.proofs.Common.{◌≡◌, ◌<◌, length, rules, arith}
use Rattle.bb_machine.specs.declared.machine.TheConstants.{MAX_STATES, MAX_SYMBOLS}
use Rattle.bb_machine.specs.inside.Draft.{symbols_limit}
use Rattle.bb_machine.proofs.Stops.{bar_stop, full_stop, entry_stop}
use Rattle.bb_machine.proofs.machine.reader.Draft.step.Goals as goal
use Rattle.bb_machine.proofs.machine.reader.Draft.step.Goals.{then-self-ge-MAX_STATES-via-then-self-ge-MAX_STATES}
use Rattle.bb_machine.proofs.machine.reader.Draft.step.Goals.{then-self-ge-MAX_STATES-via-else-self-ge-MAX_STATES+then-not-is_whole}

pub returns-then-self-ge-MAX_STATES-clause-stop : goal.returns-then-self-ge-MAX_STATES-clause-stop
returns-then-self-ge-MAX_STATES-clause-stop c b draft =
    bar_stop MAX_STATES MAX_SYMBOLS (omega arith) (omega arith) b draft.begun c.args.bytes.now (search rules)
    (search rules)
    (λ room whole.
    elim c.then-self-ge-MAX_STATES.branch [
      | then-self-ge-MAX_STATES-via-then-self-ge-MAX_STATES w ↦
          omega (arith, draft.states_is, w.if-self-ge-MAX_STATES.true)
      | then-self-ge-MAX_STATES-via-else-self-ge-MAX_STATES+then-not-is_whole w ↦
          (let yes = (w.is_whole.ensures b draft).1 whole in search rules)
    ])

pub returns-then-self-clause-stop : goal.returns-then-self-clause-stop
returns-then-self-clause-stop c b draft =
    let full : length b.group ≡ symbols_limit MAX_SYMBOLS b.groups =
    omega (arith, draft.begun.fits, draft.filled_is, draft.symbols_is, c.if-self.true) in
    full_stop MAX_STATES MAX_SYMBOLS (omega arith) (omega arith) b draft.begun c.args.bytes.now (search rules)
    (search rules) full

pub returns-in-Err-clause-stop : goal.returns-in-Err-clause-stop
returns-in-Err-clause-stop c b draft =
    let room : length b.group < symbols_limit MAX_SYMBOLS b.groups =
    omega (arith, draft.filled_is, draft.symbols_is, c.if-self.false) in
    entry_stop MAX_STATES MAX_SYMBOLS (omega arith) (omega arith) b draft.begun c.args.bytes.now
    c.in-Err.prefix (search rules) (search rules) room (rw draft.symbols_is c.in-Err.ensures.stop)
