use Rattle.std.proofs.Common.{◌-◌, ◌∙◌, ap, arith, refl}
use Rattle.bb_sim.specs.Meter.{counted}
use Rattle.bb_sim.specs.Runner.{steps_of}
use Rattle.bb_sim.specs.Span.{Inside}
use Rattle.bb_sim.proofs.Facts.{count_is_within, inside_here}
use Rattle.bb_registers.proofs.Facts.{counted_at_end, counted_so_far}
use Rattle.bb_decide.proofs.RegisterEnds.{finds_in_registers, not_stopped_in_registers}
use Rattle.bb_decide.proofs.single_pass.run_single_pass.Given as given
use Rattle.bb_decide.proofs.single_pass.run_single_pass.Goals as goal
use Rattle.bb_decide.proofs.single_pass.run_single_pass.Goals.{After-run_register_pass-end}

-- the run in registers is inside
inside : (g : given.Over) (c : After-run_register_pass-end g)
    → Inside c.args.machine.now c.args.limits.now (steps_of c.run_register_pass-end.ensures.run.runner)
inside g c =
    let known = c.run_register_pass-end.ensures.run in
    inside_here _ known.runner known.view _ known.stands known.sound known.limit (omega (arith, known.steps_is, known.few))

pub count-requires-in-Ran-clause-room : goal.count-requires-in-Ran-clause-room
count-requires-in-Ran-clause-room g c =
    let ends = rw c.in-Ran.is at c.run_register_pass-end.ensures.ends in
    let end = ends.0 c.run_register_pass-end.ensures.run in
    omega (
      arith,
      c.last_step.ensures,
      end.made,
      end.last.inside.within_steps,
      c.requires.room,
      c.show_accepted.ensures.accepted.steps,
    )

-- a cycle, or two records that agree
pub returns-in-Found : goal.returns-in-Found
returns-in-Found g c =
    let known = c.run_register_pass-end.ensures.run in
    let ends = rw c.in-Found.is at c.run_register_pass-end.ensures.ends in
    let counts = counted_so_far known c.args.meter.now _ refl c.count.ensures in
    let made = finds_in_registers known (c.is_small.ensures.0 c.if-not-is_small.false).0
    (c.is_small.ensures.0 c.if-not-is_small.false).1
    (g.K.FingerprintKeys.key_of c.args.keys.now) c.args.meter.now c.count.new.meter c.in-Found.verdict ends.0 ends.1
    counts in
    record {
      single_pass = made.0;
      cut = tt;
      within = count_is_within _ _ _ _ _ (inside g (goal.at.returns-in-Found g c).After-run_register_pass-end) counts;
      promised = record { claim = made.1; numbers = ends.2; memory = tt };
      tapes = c.requires.tapes;
      path = refl;
    }

-- as any run ends
pub returns-in-Ran : goal.returns-in-Ran
returns-in-Ran g c =
    let known = c.run_register_pass-end.ensures.run in
    let ends = rw c.in-Ran.is at c.run_register_pass-end.ensures.ends in
    let end = ends.0 known in
    let counts = counted_at_end known c.args.meter.now _ end (c.count-in-Ran.ensures
    ∙ ap (λ n. counted c.args.meter.now n (c.args.limits.now.cells - c.run_register_pass-end.result.pass.run.room))
    c.last_step.ensures) in
    record {
      single_pass = (
        ends.2,
        record { last = steps_of end.runner; is_last = end.last; counts = counts },
        end.is_outcome,
        ends.1,
        not_stopped_in_registers known (c.is_small.ensures.0 c.if-not-is_small.false).0
            (c.is_small.ensures.0 c.if-not-is_small.false).1 end,
      );
      cut = tt;
      within = count_is_within _ _ _ _ _ end.last.inside counts;
      promised = record { claim = tt; numbers = tt; memory = tt };
      tapes = c.requires.tapes;
      path = refl;
    }
