use Rattle.std.proofs.Common.{◌≡◌, ◌++◌, ap, sym, ◌∙◌, append_assoc, List, ℕ}
use Rattle.bb_tape.proofs.FromPieces.{append_parts}
use Rattle.bb_tape.proofs.ring.equal_from_shorter.Goals as goal

pub returns-then-equal : goal.returns-then-equal
returns-then-equal c =
    let split = c.split_at.ensures in
    let front = c.split_at.result.0.now in
    let rest : List ℕ = c.split_at.result.1.now ++ c.args.d.now in
    let joined : c.args.c.now ++ c.args.d.now ≡ front ++ rest = ap (λ x. x ++ c.args.d.now) split.by_index.0
    ∙ append_assoc front c.split_at.result.1.now c.args.d.now in (
      λ t. (λ i. c.equal.ensures.0 c.if-equal.true i ++ c.equal_to_joined.ensures.0 t i) ∙ sym joined,
      λ e.
          c.equal_to_joined.ensures.1 (append_parts c.args.a.now c.args.b.now front rest (sym split.front_len)
          (e ∙ joined)).1,
    )

pub returns-else-equal : goal.returns-else-equal
returns-else-equal c =
    let split = c.split_at.ensures in
    let front = c.split_at.result.0.now in
    let rest : List ℕ = c.split_at.result.1.now ++ c.args.d.now in
    let joined : c.args.c.now ++ c.args.d.now ≡ front ++ rest = ap (λ x. x ++ c.args.d.now) split.by_index.0
    ∙ append_assoc front c.split_at.result.1.now c.args.d.now in (
      λ t. cc,
      λ e.
          c.equal.ensures.1 (append_parts c.args.a.now c.args.b.now front rest (sym split.front_len)
          (e ∙ joined)).0,
    )
