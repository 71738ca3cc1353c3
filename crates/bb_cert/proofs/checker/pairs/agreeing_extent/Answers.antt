use Rattle.std.proofs.Common.{◌≡◌, ◌↔◌, Bool, false, IsTrue, sym, ap, ◌∙◌}
use Rattle.bb_registers.specs.Registers.{IsRegisterRun}
use Rattle.bb_cert.specs.inside.Runs.{IsViewAt, made_of, saved_steps}
use Rattle.bb_cert.specs.records.Follow.{AgreesWithKept, IsKeptInStateOf}
use Rattle.bb_cert.specs.records.Word.{AgreesInWord, IsComparableInWord}
use Rattle.bb_cert.proofs.checker_lemmas.InRegisters.{same_cells_of}
use Rattle.bb_cert.proofs.record_lemmas.KeptReplays.{IsPairRun, comparable_at, extent_at, no_pair_at, no_record, pair_at}
use Rattle.bb_cert.proofs.record_lemmas.Stretches.{are_narrow}
use Rattle.bb_cert.proofs.record_lemmas.Word.{narrow_there}
use Rattle.bb_cert.proofs.checker.pairs.agreeing_extent.Given as given
use Rattle.bb_cert.proofs.checker.pairs.agreeing_extent.Goals as goal
use Rattle.bb_cert.proofs.checker.pairs.agreeing_extent.Goals.{After-of_bits-saved_cells, In-OnTape}

unseen : (found : Bool) → found ≡ false → IsTrue found → ⊥
unseen found isnt is = cc

-- no record is made
pub returns-then-not-replay-clause-agree : goal.returns-then-not-replay-clause-agree
returns-then-not-replay-clause-agree g c =
    no_record c.args.machine.now c.args.limits.now c.args.replay.now c.args.run.now (g.T.Tape.view c.args.pair.now.run)
    (g.T.Tape.view c.args.pair.now.saved) c.requires.run c.requires.saved c.requires.order c.requires.kept
    (unseen _ c.if-not-replay.true)

-- ---- in registers

module _ (g : given.Over) (c : After-of_bits-saved_cells g) where
  one : IsRegisterRun c.args.machine.now c.args.limits.now c.in-InRegisters.active.run
  one = rw c.in-InRegisters.is at c.requires.run

  other : IsRegisterRun c.args.machine.now c.args.limits.now c.in-InRegisters.saved
  other = rw c.in-InRegisters.is at c.requires.saved

  in_registers : IsPairRun c.args.machine.now c.args.replay.now.records.side
      (saved_steps c.args.run.now) (made_of c.args.run.now) c.args.replay.now c.runner-runner.result one.view
      other.view
  in_registers =
      let here : IsViewAt c.args.machine.now (saved_steps c.args.run.now) other.view = record {
        runner = other.runner;
        stands = other.stands;
        at = sym other.steps_is ∙ sym (ap saved_steps c.in-InRegisters.is);
      } in
      record {
        kept = c.requires.kept other.view here;
        stands = c.runner-runner.ensures.stands one;
        at = c.runner-runner.ensures.steps ∙ sym (ap made_of c.in-InRegisters.is);
        order = c.requires.order;
      }

  comparable : IsTrue c.args.replay.now.is_record
      → IsKeptInStateOf c.args.replay.now.records c.runner-runner.result
      → IsComparableInWord c.args.replay.now.records c.runner-runner.result c.of_bits-saved_cells.result
      c.of_bits-cells.result
  comparable makes kept = record {
    saved_view = other.view;
    run_view = one.view;
    comparable = comparable_at in_registers makes kept;
    saved_is = other.at.content ∙ sym c.of_bits-saved_cells.ensures;
    run_is = one.at.content ∙ sym c.of_bits-cells.ensures;
    low_in_word = one.window_is.low_in_word;
    high_in_word = one.window_is.high_in_word;
  }

  -- the cells in registers are those of these tapes
  on_views : AgreesInWord c.args.replay.now.records c.runner-runner.result c.of_bits-saved_cells.result
      c.of_bits-cells.result
      ↔ AgreesWithKept c.args.replay.now.records c.runner-runner.result other.view one.view
  on_views =
      let saved_is = other.at.content ∙ sym c.of_bits-saved_cells.ensures in
      let run_is = one.at.content ∙ sym c.of_bits-cells.ensures in (
        λ agree. (
          agree.0,
          same_cells_of c.args.replay.now.records c.runner-runner.result
              (sym saved_is) (sym run_is) agree.1,
        ),
        λ agree. (
          agree.0,
          same_cells_of c.args.replay.now.records c.runner-runner.result
              saved_is run_is agree.1,
        ),
      )

pub agrees_in_registers-requires : goal.agrees_in_registers-requires
agrees_in_registers-requires g c =
    comparable g (goal.at.agrees_in_registers-requires g c).After-of_bits-saved_cells c.if-not-replay.false

pub extent-requires : goal.extent-requires
extent-requires g c =
    let at = (goal.at.extent-requires g c).After-of_bits-saved_cells in
    let both = c.agrees_in_registers.ensures.0 c.if-not-agrees_in_registers.false in
    let is = comparable g at c.if-not-replay.false both.0 in
    let n = narrow_there is in
    record { nearest = n.nearest; kept = n.kept; order = is.comparable.order; later = is.comparable.later }

pub returns-then-not-agrees_in_registers-clause-agree : goal.returns-then-not-agrees_in_registers-clause-agree
returns-then-not-agrees_in_registers-clause-agree g c =
    let at = (goal.at.returns-then-not-agrees_in_registers-clause-agree g c).After-of_bits-saved_cells in
    no_pair_at (in_registers g at) (λ makes both. unseen _ c.if-not-agrees_in_registers.true
    (c.agrees_in_registers.ensures.1 ((on_views g at).1 both)))

pub returns-else-not-agrees_in_registers-clause-agree : goal.returns-else-not-agrees_in_registers-clause-agree
returns-else-not-agrees_in_registers-clause-agree g c =
    let at = (goal.at.returns-else-not-agrees_in_registers-clause-agree g c).After-of_bits-saved_cells in
    let both = (on_views g at).0 (c.agrees_in_registers.ensures.0 c.if-not-agrees_in_registers.false) in (
      pair_at (in_registers g at) c.if-not-replay.false both,
      extent_at (in_registers g at) c.if-not-replay.false both c.extent.ensures,
    )

-- ---- on tapes

on_tapes : (g : given.Over) (c : In-OnTape g)
    → IsPairRun c.args.machine.now c.args.replay.now.records.side (saved_steps c.args.run.now)
    (made_of c.args.run.now) c.args.replay.now c.in-OnTape.runner (g.T.Tape.view c.args.pair.now.run)
    (g.T.Tape.view c.args.pair.now.saved)
on_tapes g c =
    let one = rw c.in-OnTape.is at c.requires.run in
    let other = rw c.in-OnTape.is at c.requires.saved in
    let here : IsViewAt c.args.machine.now (saved_steps c.args.run.now) (g.T.Tape.view c.args.pair.now.saved) =
    record { runner = _; stands = other; at = sym (ap saved_steps c.in-OnTape.is) } in
    record {
      kept = c.requires.kept (g.T.Tape.view c.args.pair.now.saved) here;
      stands = one;
      at = sym (ap made_of c.in-OnTape.is);
      order = c.requires.order;
    }

pub agrees-requires-clause-comparable : goal.agrees-requires-clause-comparable
agrees-requires-clause-comparable g c =
    comparable_at (on_tapes g (goal.at.agrees-requires-clause-comparable g c).In-OnTape) c.if-not-replay.false

pub extent-requires-in-OnTape : goal.extent-requires-in-OnTape
extent-requires-in-OnTape g c =
    let at = (goal.at.extent-requires-in-OnTape g c).In-OnTape in
    let both = c.agrees.ensures.agree.0 c.if-not-agrees.false in
    let is = comparable_at (on_tapes g at) c.if-not-replay.false both.0 in
    let n = are_narrow (g.met.T.Tape.sound c.args.pair.now.saved) (g.met.T.Tape.sound c.args.pair.now.run) is in
    record { nearest = n.nearest; kept = n.kept; order = is.order; later = is.later }

pub returns-then-not-agrees-clause-agree : goal.returns-then-not-agrees-clause-agree
returns-then-not-agrees-clause-agree g c =
    let at = (goal.at.returns-then-not-agrees-clause-agree g c).In-OnTape in
    no_pair_at (on_tapes g at) (λ makes both. unseen _ c.if-not-agrees.true (c.agrees.ensures.agree.1 both))

pub returns-else-not-agrees-clause-agree : goal.returns-else-not-agrees-clause-agree
returns-else-not-agrees-clause-agree g c =
    let at = (goal.at.returns-else-not-agrees-clause-agree g c).In-OnTape in
    let both = c.agrees.ensures.agree.0 c.if-not-agrees.false in (
      pair_at (on_tapes g at) c.if-not-replay.false both,
      extent_at (on_tapes g at) c.if-not-replay.false both c.extent-in-OnTape.ensures,
    )
