use Rattle.bb_run.proofs.FewCells.{few_cells_are_replied}
use Rattle.bb_run.proofs.Replies.{verdicts_are_borne_out}
use Rattle.bb_run.proofs.Summaries.{ends_by, summed_in_single_pass}
use Rattle.bb_run.proofs.deciding.run_decide_in_single_pass.Goals as goal

pub returns-clause-ends : goal.returns-clause-ends
returns-clause-ends g c =
    ends_by _ _ _ _ _ (summed_in_single_pass c.texts_differ.ensures c.args.limits.now c.args.plan) _
    c.reply_to_lines.ensures.ends

pub returns-clause-borne_out : goal.returns-clause-borne_out
returns-clause-borne_out g c = verdicts_are_borne_out c.args.limits.now c.args.plan

pub returns-clause-few_cells : goal.returns-clause-few_cells
returns-clause-few_cells g c = few_cells_are_replied c.args.limits.now c.args.plan
