use Rattle.std.proofs.Common.{◌≡◌, ◌≤◌, Some, inl, inr, ap, arith}
use Rattle.std.proofs.lemmas.Bool.{cases_lt}
use Rattle.bb_machine.specs.Machine.{symbols_of}
use Rattle.bb_machine.proofs.Checked.{group_end, inside_group}
use Rattle.bb_machine.proofs.machine.reader.symbols_at_first.Goals as goal
use Rattle.bb_machine.proofs.machine.reader.symbols_at_first.Goals.{then-line-symbols-via-then-line-symbols}
use Rattle.bb_machine.proofs.machine.reader.symbols_at_first.Goals.{then-line-symbols-via-else-line-symbols+then-line-symbols-eq95}

pub loop-symbols-preserved : goal.loop-symbols-preserved
loop-symbols-preserved c gs machine is =
    let least : c.loop-symbols.symbols ≤ symbols_of gs = c.loop-symbols.invariant gs machine is in
    elim (cases_lt c.loop-symbols.symbols (symbols_of gs)) [
      | inl below ↦ omega arith
      | inr above ↦
          (let same : symbols_of gs ≡ c.loop-symbols.symbols = omega arith in
          elim (group_end c.args.line.now gs machine is) [
            | inl long ↦ absurd (omega (arith, long, same, c.if-line-symbols.false))
            | inr bar ↦ absurd (c.if-line-symbols-eq95.false (rw same at bar))
          ])
    ]

pub returns-then-line-symbols-clause-machine : goal.returns-then-line-symbols-clause-machine
returns-then-line-symbols-clause-machine c gs machine is =
    let least : c.loop-symbols.symbols ≤ symbols_of gs = c.loop-symbols.invariant gs machine is in
    elim (cases_lt c.loop-symbols.symbols (symbols_of gs)) [
      | inl below ↦
          (let inside = inside_group c.args.line.now gs machine is c.loop-symbols.symbols below in
          elim c.then-line-symbols.branch [
            | then-line-symbols-via-then-line-symbols w ↦
                absurd (omega (arith, inside.0, w.if-line-symbols.true))
            | then-line-symbols-via-else-line-symbols+then-line-symbols-eq95 w ↦
                absurd (inside.1 w.if-line-symbols-eq95.true)
          ])
      | inr above ↦ (let same : c.loop-symbols.symbols ≡ symbols_of gs = omega arith in ap Some same)
    ]
