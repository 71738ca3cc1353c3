use Rattle.std.proofs.Common.{◌++◌, sym, ◌∙◌}
use Rattle.bb_tape.proofs.FromPieces.{append_parts}
use Rattle.bb_tape.proofs.ring.equal_to_joined.Goals as goal

pub returns-then-equal : goal.returns-then-equal
returns-then-equal c =
    let split = c.split_at.ensures in (
      λ t. split.by_index.0 ∙ (λ i. c.equal.ensures.0 c.if-equal.true i ++ c.equal-then-equal.ensures.0 t i),
      λ e.
          c.equal-then-equal.ensures.1
          (append_parts c.split_at.result.0.now c.split_at.result.1.now c.args.c.now c.args.d.now
          split.front_len (sym split.by_index.0 ∙ e)).1,
    )

pub returns-else-equal : goal.returns-else-equal
returns-else-equal c =
    let split = c.split_at.ensures in (
      λ t. cc,
      λ e.
          c.equal.ensures.1 (append_parts c.split_at.result.0.now c.split_at.result.1.now c.args.c.now
          c.args.d.now split.front_len (sym split.by_index.0 ∙ e)).0,
    )
