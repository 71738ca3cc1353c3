use Rattle.std.proofs.Common.{ap, refl, sym, subst, ◌∙◌, arith}
use Rattle.laws_of_verdicts.specs.LineOf.{IsOnWay}
use Rattle.laws_of_verdicts.proofs.Facts.{begins}
use Rattle.bb_machine.specs.Machine.{Table}
use Rattle.bb_cover.specs.declared.line.How.{How}
use Rattle.bb_cover.specs.declared.line.Line.{Line}
use Rattle.bb_cover.specs.declared.naming.Naming.{Naming}
use Rattle.bb_cover.specs.Line.{IsLine, change_of}
use Rattle.bb_cover.proofs.FoundLines.{not_in_Z, on_undefined, runs, stops}
use Rattle.bb_cover.proofs.line.line_of.Goals as goal

-- the line that ends so
abbrev with_how : Table → Naming → How → Line
with_how machine change how = record { machine = machine; change = change; how = how }

pub loop-halted-init : goal.loop-halted-init
loop-halted-init g c = record {
  is_machine = c.show_machine.ensures.machine;
  on_way = subst (λ m. IsOnWay (change_of c.own.result) c.args.limits.now m c.args.machine.now)
      (sym c.blank_like.ensures)
      (begins (change_of c.own.result) c.args.limits.now c.args.machine.now c.show_machine.ensures.machine
      c.own.ensures.mirrored
      c.own.ensures.states c.own.ensures.symbols);
  limit = c.requires.limit;
}

pub returns-in_default-clause-line : goal.returns-in_default-clause-line
returns-in_default-clause-line g c =
    let none = rw c.in_default.is at c.in_ok-halted.ensures.ends in
    subst (IsLine c.args.machine.now c.args.limits.now) (sym c.end.ensures)
    (runs c.loop-halted.way.change c.args.limits.now c.loop-halted.way.machine c.args.machine.now
    c.loop-halted.invariant.on_way none)

pub unreachable-requires : goal.unreachable-requires
unreachable-requires g c =
    let ends = rw c.in-Some.is at c.in_ok-halted.ensures.ends in
    not_in_Z c.loop-halted.way.change c.args.limits.now c.loop-halted.way.machine c.args.machine.now
    c.loop-halted.invariant.on_way c.in-Some.halted ends c.in_default-undefined.is

pub returns-then-not-has_other_undefined-clause-line :
    goal.returns-then-not-has_other_undefined-clause-line
returns-then-not-has_other_undefined-clause-line g c =
    let ends = rw c.in-Some.is at c.in_ok-halted.ensures.ends in
    subst (IsLine c.args.machine.now c.args.limits.now)
    (sym (c.end-then-not-has_other_undefined.ensures
    ∙ ap (with_how c.loop-halted.way.machine c.loop-halted.way.change) c.halt_of.ensures))
    (stops c.loop-halted.way.change c.args.limits.now c.loop-halted.way.machine c.args.machine.now
    c.loop-halted.invariant.on_way c.in-Some.halted ends c.in-Some-undefined.undefined c.in-Some-undefined.is
    c.own_entry-entry.result c.own_entry-entry.ensures.value
    (λ write to dir other e. c.if-not-has_other_undefined.ensures.none refl other))

pub returns-in_default-step_to_state-clause-line : goal.returns-in_default-step_to_state-clause-line
returns-in_default-step_to_state-clause-line g c =
    let ends = rw c.in-Some.is at c.in_ok-halted.ensures.ends in
    subst (IsLine c.args.machine.now c.args.limits.now)
    (sym (c.end-in_default-step_to_state.ensures
    ∙ ap (with_how c.loop-halted.way.machine c.loop-halted.way.change) c.halt_of-in_default-step_to_state.ensures))
    (stops c.loop-halted.way.change c.args.limits.now c.loop-halted.way.machine c.args.machine.now
    c.loop-halted.invariant.on_way c.in-Some.halted ends c.in-Some-undefined.undefined c.in-Some-undefined.is
    c.own_entry-entry.result c.own_entry-entry.ensures.value
    (λ write to dir other e. rw c.in_default-step_to_state.is at c.step_to_state.ensures write to dir e))

pub loop-halted-preserved : goal.loop-halted-preserved
loop-halted-preserved g c =
    let ends = rw c.in-Some.is at c.in_ok-halted.ensures.ends in
    let there = on_undefined c.loop-halted.way.change c.args.limits.now c.loop-halted.way.machine
    c.args.machine.now c.loop-halted.invariant.on_way c.in-Some.halted ends c.in-Some-undefined.undefined
    c.in-Some-undefined.is in
    let is = rw c.in-Some-step_to_state.is at c.step_to_state.ensures in
    record {
      is_machine = c.loop-halted.invariant.is_machine;
      on_way = c.fill-way.ensures.on_way c.args.limits.now c.args.machine.now c.in-Some.halted.steps
          c.loop-halted.invariant.is_machine c.loop-halted.invariant.on_way there.0 ends.inside
          (c.if-not-has_other_undefined.ensures.some refl)
          (sym c.own_entry-entry.ensures.value ∙ is);
      limit = c.in_ok-halted.ensures.limit ∙ c.loop-halted.invariant.limit;
    }

pub loop-halted-smaller : goal.loop-halted-smaller
loop-halted-smaller g c = let fewer = c.fill-way.ensures.fewer in omega (arith, fewer)
