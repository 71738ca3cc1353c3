use Rattle.std.proofs.Common.{◌≡◌, ℕ, ◌<◌, Bool, Ok, ap, arith, rules}
use Rattle.std.proofs.lemmas.Result.{err_from_is_err_and}
use Rattle.bb_machine.specs.Limits.{Bounds}
use Rattle.bb_machine.specs.Machine.{Table}
use Rattle.bb_tape.specs.TapeView.{TapeView}
use Rattle.bb_sim.specs.declared.runner.Runner.{Runner}
use Rattle.bb_sim.specs.Runner.{Stands, steps_of}
use Rattle.bb_sim.proofs.Facts.{fits_at_halt, inside_here, wide_at_end}
use Rattle.bb_run.specs.declared.tracing.RunStatus.{RunStatus}
use Rattle.bb_run.specs.inside.RunningOn.{RunsOn, RunsOnTo}
use Rattle.bb_run.proofs.SampledRuns.{ends_within, next_wanted}
use Rattle.bb_run.proofs.tracing.make_steps.Goals as goal

-- what a call that doesn't fail promises
went : {grows : Bool} {table : Table} {bounds : Bounds} {old new : Runner} {view_old view_new : TapeView}
    {count : ℕ} (ran : RunStatus) → Stands table new view_new → view_new.limit ≡ view_old.limit
    → RunsOnTo table bounds (steps_of old) count (steps_of new) ran
    → RunsOn grows table bounds old new view_old view_new count (Ok ran)
went ran stands limit to = record { stands = stands; ran = to; limit = limit; memory = tt; wanted = tt }

pub returns-in_err-advance : goal.returns-in_err-advance
returns-in_err-advance g c =
    let p = err_from_is_err_and c.from_residual.result c.from_residual.ensures.1 in
    let call = c.in_err-advance.ensures in
    let few : c.loop.counter < c.args.count = search rules in
    rw p.1 (record {
      stands = tt;
      ran = tt;
      limit = cc;
      memory = call.memory;
      wanted = next_wanted c.loop.invariant.made few call.before call.wanted.0 call.wanted.1 call.wanted.2;
    })

pub returns-in-Halted : goal.returns-in-Halted
returns-in-Halted g c =
    let call = c.in_ok-advance.ensures in
    let stays = rw c.in-Halted.is at call.moves in
    let last = rw c.in-Halted.is at call.reaches in
    let halts = rw c.in-Halted.is at call.answers in
    let few : c.loop.counter < c.args.count = search rules in
    went _ call.stands (cc) (
      ends_within c.loop.invariant.made few (ap steps_of stays.runner) last,
      fits_at_halt _ _ _ call.before halts,
    )

pub returns-in-NoCells : goal.returns-in-NoCells
returns-in-NoCells g c =
    let call = c.in_ok-advance.ensures in
    let stays = rw c.in-NoCells.is at call.moves in
    let last = rw c.in-NoCells.is at call.reaches in
    let answers = rw c.in-NoCells.is at call.answers in
    let few : c.loop.counter < c.args.count = search rules in
    went _ call.stands (cc) (
      ends_within c.loop.invariant.made few (ap steps_of stays.runner) last,
      wide_at_end _ _ _ call.before answers.2 answers.1,
    )

pub returns : goal.returns
returns g c =
    let here = c.loop.invariant in
    went _ here.stands (cc) (
      inside_here _ _ _ _ here.stands (g.met.T.Tape.sound c.loop.tape) here.limit here.within,
      omega (arith, here.made, c.loop-test.false, c.loop.auto.counter-end),
    )
