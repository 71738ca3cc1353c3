use Rattle.std.proofs.Common.{inr, rules}
use Rattle.bb_cert.specs.declared.verdict.reader.Line.TheVariants.{Claim}
use Rattle.bb_run.proofs.CheckReplies.{never_both}
use Rattle.bb_run.proofs.cost.cost_of_line.Goals as goal

pub returns-in-Some-Refusal-clause-cost : goal.returns-in-Some-Refusal-clause-cost
returns-in-Some-Refusal-clause-cost c = inr (
  λ table verdict of. never_both c.args.line.now table verdict _ of
      (rw c.in-Some-Refusal.field-0-is at c.in-Some-Refusal.ensures.found),
  search rules,
)

pub returns-in-None-clause-cost : goal.returns-in-None-clause-cost
returns-in-None-clause-cost c = inr (
  λ table verdict of. c.in-None.ensures.none (Claim table verdict) of,
  search rules,
)
