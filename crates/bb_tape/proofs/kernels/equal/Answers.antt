use Rattle.std.proofs.Common.{ap, drop, ◌*◌, ◌/◌, length, sym, ◌∙◌}
use Rattle.bb_tape.proofs.Slices.{equal_halves, whole_rest}
use Rattle.bb_tape.proofs.kernels.equal.Goals as goal

pub returns-then-equal_by_lanes : goal.returns-then-equal_by_lanes
returns-then-equal_by_lanes c =
    let n = length c.args.a.now / 32 * 32 in
    let a = c.args.a.now in
    let b = c.args.b.now in (
      λ t. equal_halves a b n (c.equal_by_lanes.ensures.0 c.if-equal_by_lanes.true) (sym (whole_rest n a)
          ∙ c.equal_one_by_one.ensures.0 t ∙ whole_rest n b),
      λ e. c.equal_one_by_one.ensures.1 (whole_rest n a ∙ ap (drop n) e ∙ sym (whole_rest n b)),
    )
