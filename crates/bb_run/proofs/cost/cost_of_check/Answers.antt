use Rattle.std.proofs.Common.{rules, ap, subst, ◌∙◌, arith}
use Rattle.bb_lines.specs.Lines.{lines}
use Rattle.bb_run.proofs.Costs.{IsAddedUp, all_added, none_added, one_added}
use Rattle.bb_run.proofs.Newlines.{lines_of_none}
use Rattle.bb_run.proofs.cost.cost_of_check.Goals as goal

pub loop-line-init : goal.loop-line-init
loop-line-init c = record {
  added = none_added c.args.limits.now (lines c.args.list.now) c.default-cost.result (search rules)
      (search rules) (search rules) (search rules);
  few = omega arith;
}

pub loop-line-preserved : goal.loop-line-preserved
loop-line-preserved c =
    let here = c.loop-line.invariant in
    let cut = c.in-Some.ensures in
    record {
      added = one_added _ _ _ _ _ _ _ _ c.cost_of_line-line_cost.ensures.cost c.add.ensures
          (subst (λ left. IsAddedUp c.args.limits.now (lines c.args.list.now) left c.loop-line.index
          c.loop-line.cost) cut.0 here.added);
      few = omega (arith, here.few, cut.2);
    }

pub add-requires : goal.add-requires
add-requires c =
    let small = c.cost_of_line-line_cost.ensures.small in
    let accepted = c.show_accepted.ensures.accepted in
    omega (arith, small.0, small.1, accepted.steps, accepted.nodes)

pub returns : goal.returns
returns c = all_added _ _ _ _
    (subst (λ left. IsAddedUp c.args.limits.now (lines c.args.list.now) left c.loop-line.index
    c.loop-line.cost) (ap lines c.in_default.ensures ∙ lines_of_none) c.loop-line.invariant.added)
