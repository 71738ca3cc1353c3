use Rattle.std.proofs.Common.{◌≡◌, ◌+◌, ◌∙◌, pos, neg_ℤ, ◌≤ℤ◌, refl, ap, sym, arith, rules, of_z, w64, FitsSigned}
use Rattle.std.specs.Int.{int_min}
use Rattle.std.proofs.lemmas.Int.{clamps, ints, to_z-of_z}
use Rattle.bb_sim.specs.CellsBetween.{cells_between}
use Rattle.bb_registers.specs.BitCells.{IsInWord}
use Rattle.bb_decide.specs.inside.RegisterRecords.{CanCompareCells, KnowsHeads}
use Rattle.bb_decide.proofs.RegisterCells.{head_in_word, in_other_state, in_same_state, kept_in_word, moved_fits, moved_is}
use Rattle.bb_decide.proofs.RegisterCells.{here_in_word, there_in_word, same_cells, small_is}
use Rattle.bb_decide.proofs.register_records.RegisterRecords.agrees.Goals as goal
use Rattle.bb_decide.proofs.register_records.RegisterRecords.agrees.Goals.{After-abs_diff-length}

pub returns-then-kept-eq0 : goal.returns-then-kept-eq0
returns-then-kept-eq0 c at =
    let zero : c.args.kept ≡ pos 0 = omega (arith, ints, c.if-kept-eq0.true, c.ranges.kept) in (
      λ yes. absurd cc,
      λ agrees. absurd (agrees.0.0 (sym at.kept_is ∙ zero)),
    )

pub returns-then-self-run : goal.returns-then-self-run
returns-then-self-run c at = (
  λ yes. absurd cc,
  λ agrees. absurd (in_other_state at.comparison c.if-self-run.true agrees.0),
)

module _ (c : After-abs_diff-length) (at : KnowsHeads c.args.machine.now c.args.limits.now c.args.side
    c.args.self.now c.args.run.now c.args.kept c.args.head) where
  -- a record is kept in this state
  can : CanCompareCells c.args.machine.now c.args.limits.now c.args.side c.args.self.now c.args.run.now
      c.args.kept c.args.head
  can = record {
    known = at;
    same = in_same_state at.comparison (λ e. c.if-kept-eq0.false (ap (of_z w64) (at.kept_is ∙ e))) c.if-self-run.false;
  }

  -- what the code computes
  record Computed : Type 0 where
    nearest : c.position_of_bit-nearest.result ≡ at.comparison.records.nearest
    from : c.min-from.result ≡ int_min c.position_of_bit-nearest.result c.args.kept
    len : c.abs_diff-length.result + 1 ≡ cells_between c.position_of_bit-nearest.result c.args.kept
    kept : IsInWord c.args.kept
    head : IsInWord c.args.head
    low : neg_ℤ (pos 32) ≤ℤ c.min-from.result
    high : c.min-from.result ≤ℤ pos 32

  computed : Computed
  computed =
      let keeps = at.comparison.keeps in
      let nearest_fits : FitsSigned w64 c.position_of_bit-nearest.result = search rules in
      let kept_fits : FitsSigned w64 c.args.kept = c.ranges.kept in
      let from = simp to_z-of_z at c.min-from.ensures.value in
      let near = kept_in_word at in
      record {
        nearest = c.position_of_bit-nearest.ensures.is keeps.place keeps.within keeps.nearest ∙ sym keeps.nearest_is;
        from = from;
        len = ap (λ n. n + 1) (simp to_z-of_z at c.abs_diff-length.ensures);
        kept = near;
        head = head_in_word at;
        low = omega (arith, ints, clamps, from, near, c.position_of_bit-nearest.ensures.low);
        high = omega (arith, ints, clamps, from, near, c.position_of_bit-nearest.ensures.high);
      }

pub overflow_add-from : goal.overflow_add-from
overflow_add-from c =
    let is = computed (goal.at.overflow_add-from c).After-abs_diff-length c.requires in
    moved_fits _ _ _ is.kept is.head is.low is.high

pub agrees-requires-clause-here : goal.agrees-requires-clause-here
unfolding can
agrees-requires-clause-here c =
    let at = (goal.at.agrees-requires-clause-here c).After-abs_diff-length in
    let is = computed at c.requires in
    let from = small_is c.min-from.result is.low is.high in
    rw from (here_in_word (can at c.requires) _ _ _ _ is.nearest is.from refl is.len)

pub agrees-requires-clause-there : goal.agrees-requires-clause-there
unfolding can
agrees-requires-clause-there c =
    let at = (goal.at.agrees-requires-clause-there c).After-abs_diff-length in
    let is = computed at c.requires in
    let sum = to_z-of_z w64 _ (moved_fits c.min-from.result c.args.head c.args.kept is.kept is.head is.low is.high) in
    let other = moved_is c.min-from.result c.args.head c.args.kept is.kept is.head is.low is.high in
    rw (sum, other) (there_in_word (can at c.requires) _ _ _ _ is.nearest is.from refl is.len)

pub returns : goal.returns
unfolding can
returns c at =
    let here = (goal.at.returns c).After-abs_diff-length in
    let is = computed here at in
    let both = can here at in
    let from = small_is c.min-from.result is.low is.high in
    let sum = to_z-of_z w64 _ (moved_fits c.min-from.result c.args.head c.args.kept is.kept is.head is.low is.high) in
    let other = moved_is c.min-from.result c.args.head c.args.kept is.kept is.head is.low is.high in
    let same = same_cells both _ _ _ _ is.nearest is.from refl is.len in
    let tells = rw (sum, other, from, c.of_bits-saved.ensures, c.of_bits-now.ensures) at c.agrees.ensures in
    (λ yes. (both.same, same.0 (tells.0 yes)), λ cells. tells.1 (same.1 cells.1))
