use Rattle.bb_run.proofs.Summaries.{saw_lines}
use Rattle.bb_run.proofs.decider.reply_to_lines.Goals as goal

pub returns-clause-ends : goal.returns-clause-ends
returns-clause-ends g c =
    let ends = c.in_ok-run.ensures.ends in
    let saw = saw_lines g.D.Decide.counts (λ d. d.limits) (λ d. d.plan) (λ d. d.tally.summary)
    (λ d. d.tally.last_cost) _ _ _ c.new.ensures ends.2.2 in
    (ends.0, ends.1, (ends.2.0, ends.2.1, saw))
