use Rattle.std.proofs.Common.{◌≡◌, ◌∙◌, ap, rules, sym}
use Rattle.bb_tape.specs.Content.{score}
use Rattle.bb_tape.specs.TapeView.{TapeView}
use Rattle.bb_sim.specs.Runner.{steps_of}
use Rattle.bb_sim.proofs.Counting.{cut_here, has_stepped}
use Rattle.bb_sim.proofs.Endings.{simulated}
use Rattle.bb_sim.proofs.Outcomes.{halted_end, no_halt_inside, wide_at_end}
use Rattle.bb_sim.proofs.RunLaws.{count_is_within}
use Rattle.bb_sim.specs.declared.runner.Moved.{Moved}
use Rattle.bb_sim.specs.declared.runner.Moved.TheVariants.{Halted, NoSteps, NoCells, Stepped}
use Rattle.bb_sim.proofs.simulation.run_machine.Goals as goal

halted_apart : (moved : Moved) → moved ≡ Halted → moved ≡ Stepped → ⊥
halted_apart moved is stepped = cc

no_steps_apart : (moved : Moved) → moved ≡ NoSteps → moved ≡ Stepped → ⊥
no_steps_apart moved is stepped = cc

no_cells_apart : (moved : Moved) → moved ≡ NoCells → moved ≡ Stepped → ⊥
no_cells_apart moved is stepped = cc

pub loop-runner-init : goal.loop-runner-init
loop-runner-init g c = record {
  run = λ begun counts. record { stands = c.requires.stands; steps = c.requires.steps; counts = counts };
  limit = c.requires.limit;
}

pub loop-runner-preserved : goal.loop-runner-preserved
loop-runner-preserved g c =
    let here = c.loop-runner.invariant in
    let call = c.in_ok-advance.ensures in
    record {
      run = λ begun counts. has_stepped (here.run begun counts) call.stands _ call.reaches call.moves c.in-Stepped.is;
      limit = call.limit ∙ here.limit;
    }

pub returns-in-Halted : goal.returns-in-Halted
returns-in-Halted g c begun counts =
    let here = c.loop-runner.invariant in
    let run = here.run begun counts in
    let call = c.in_ok-advance.ensures in
    let stays = rw c.in-Halted.is at call.moves in
    simulated run call.stands _ _ (halted_apart _ c.in-Halted.is) call.reaches call.moves
    (call.limit ∙ here.limit ∙ sym c.requires.limit)
    (λ last. halted_end run.stands last.inside (rw c.in-Halted.is at call.answers) _ _
    (c.steps.ensures ∙ ap steps_of stays.runner)
    (c.score.ensures ∙ ap (λ (s : TapeView). score s.content) stays.view))

pub returns-in-NoSteps : goal.returns-in-NoSteps
returns-in-NoSteps g c begun counts =
    let here = c.loop-runner.invariant in
    let call = c.in_ok-advance.ensures in
    let asked = rw c.in-NoSteps.is at call.answers in
    simulated (here.run begun counts) call.stands _ _ (no_steps_apart _ c.in-NoSteps.is) call.reaches
    call.moves
    (call.limit ∙ here.limit ∙ sym c.requires.limit)
    (λ last. (no_halt_inside _ _ _ last.inside last asked.0, rw (← asked.1) last.inside.within_cells))

pub returns-in-NoCells : goal.returns-in-NoCells
returns-in-NoCells g c begun counts =
    let here = c.loop-runner.invariant in
    let call = c.in_ok-advance.ensures in
    let asked = rw c.in-NoCells.is at call.answers in
    simulated (here.run begun counts) call.stands _ _ (no_cells_apart _ c.in-NoCells.is) call.reaches
    call.moves
    (call.limit ∙ here.limit ∙ sym c.requires.limit)
    (λ last. (no_halt_inside _ _ _ last.inside last asked.0, wide_at_end _ _ _ last.inside asked.2 asked.1))

pub returns-in_err-advance : goal.returns-in_err-advance
returns-in_err-advance g c begun counts =
    let here = c.loop-runner.invariant in
    let run = here.run begun counts in
    let call = c.in_err-advance.ensures in
    let part = cut_here run call.before call.unwritten call.uncounted in
    record {
      outcome = search rules;
      counted = search rules;
      cut = search (rules, part);
      within = count_is_within _ _ _ _ _ call.before (call.uncounted ∙ run.counts);
      limit = call.limit ∙ here.limit ∙ sym c.requires.limit;
      memory = search rules;
    }
