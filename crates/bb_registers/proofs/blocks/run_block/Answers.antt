use Rattle.std.proofs.Common.{ap, arith}
use Rattle.bb_sim.specs.declared.meter.Meter.{Meter}
use Rattle.bb_registers.specs.declared.blocks.BlockRun.{BlockRun}
use Rattle.bb_registers.proofs.Counts.{counted_inside}
use Rattle.bb_registers.proofs.InBlocks.{steps_in_block}
use Rattle.bb_registers.proofs.blocks.run_block.Goals as goal

pub loop-table-preserved : goal.loop-table-preserved
loop-table-preserved g c =
    let step = c.loop-table-test.ensures in
    record {
      run = steps_in_block c.show_machine.ensures.machine c.requires.table c.loop-table.invariant.run step
          (omega (arith, c.steps.ensures));
      more = omega (arith, step.steps, c.loop-table.invariant.more);
    }

pub overflow_add-meter : goal.overflow_add-meter
overflow_add-meter g c =
    let last = ap (λ (run : BlockRun). run.steps) c.loop-table-test.ensures.0 in
    let steps = ap (λ (meter : Meter). meter.steps) c.requires.counted.1 in
    let kept = c.loop-table.invariant in
    omega (arith, last, steps, c.requires.counted.2, c.take-start.ensures.steps, kept.run.few, kept.more)

pub returns : goal.returns
returns g c =
    let last = ap (λ (run : BlockRun). run.steps) c.loop-table-test.ensures.0 in
    let kept = c.loop-table.invariant in
    let start = c.take-start.ensures.steps in
    let put = c.put.ensures in
    record {
      stands = put.stands;
      limit = put.limit;
      few = omega (arith, last, put.steps, kept.run.few);
      more = omega (arith, last, put.steps, start, kept.more);
      counts = λ begun counts.
          counted_inside begun _ _ c.requires.stands put.stands put.low put.high
          (omega (arith, last, put.steps, start, kept.more)) counts;
    }
