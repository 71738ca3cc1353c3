use Rattle.std.proofs.Common.{true, ap}
use Rattle.bb_sim.specs.declared.meter.Meter.{Meter}
use Rattle.bb_run.specs.declared.summary.Summary.{Summary}
use Rattle.bb_recurrence.proofs.RecurrenceSummaries.{recurrences_summed}
use Rattle.bb_recurrence.proofs.recurrences.run_recurrence.Goals as goal

pub returns-clause-ends : goal.returns-clause-ends
returns-clause-ends g c =
    let ends = c.in_ok-run.ensures.ends in
    let begin = ap (λ (m : Meter). let s : Summary = record { clean = true; peak = m } in s) c.new.ensures in
    let sums = recurrences_summed (λ d. d.limits) (λ d. d.summary) (λ d. d.last_cost) _ _ _
    c.show_accepted.ensures.accepted begin ends.2.2 in
    (ends.0, ends.1, (ends.2.0, ends.2.1, sums))
