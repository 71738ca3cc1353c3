use Rattle.bb_cert.specs.declared.verdict.reader.Line.TheVariants.{Claim}
use Rattle.bb_cover.proofs.Steps.{never_both}
use Rattle.bb_cover.proofs.content.read_verdict.Goals as goal

pub returns-in-Some-Refusal-clause-none : goal.returns-in-Some-Refusal-clause-none
returns-in-Some-Refusal-clause-none c table verdict of =
    never_both c.args.line.now table verdict c.in-Some-Refusal.field-0-0 of
    (rw c.in-Some-Refusal.field-0-is at c.in-Some-Refusal.ensures.found)

pub returns-in-None-clause-none : goal.returns-in-None-clause-none
returns-in-None-clause-none c table verdict of = c.in-None.ensures.none (Claim table verdict) of
