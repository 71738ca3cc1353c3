use Rattle.std.proofs.Common.{ap, ◌*◌, ◌/◌, ◌+◌, length, count_by, ◌∙◌}
use Rattle.bb_tape.proofs.Slices.{count_parts, whole_rest, nonzero}
use Rattle.bb_tape.proofs.kernels.count_nonzero.Goals as goal

pub returns : goal.returns
returns c =
    let n = length c.args.a.now / 32 * 32 in
    let a = c.args.a.now in
    let rest = c.count_one_by_one.ensures ∙ ap (count_by nonzero) (whole_rest n a) in
    (λ i. c.count_by_lanes.ensures i + rest i) ∙ count_parts n a
