use Rattle.std.proofs.Common.{◌∙◌, ap}
use Rattle.bb_tape.specs.TapeView.{TapeView}
use Rattle.bb_run.proofs.rings.ring_bench.Goals as goal

pub new-requires-4-clause-left : goal.new-requires-4-clause-left
new-requires-4-clause-left c =
    ap (λ (view : TapeView). view.limit) c.in_ok-left.ensures ∙ c.cells-cells.ensures.value
