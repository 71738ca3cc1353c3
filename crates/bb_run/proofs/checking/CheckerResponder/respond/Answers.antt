use Rattle.std.proofs.Common.{rules, refl, inl, inr}
use Rattle.bb_run.proofs.checking.CheckerResponder.respond.Goals as goal

pub returns-in-Some-Refusal-clause-reply : goal.returns-in-Some-Refusal-clause-reply
returns-in-Some-Refusal-clause-reply g c = inr (inl (record {
  column = c.in-Some-Refusal.field-0-0;
  of = rw c.in-Some-Refusal.field-0-is at c.in-Some-Refusal.ensures.found;
  is_reply = rw c.put.ensures (search rules);
}))

pub returns-clause-saw : goal.returns-clause-saw
returns-clause-saw g c = (
  refl,
  inl (record {
    table = c.read_line_in_place.new.machine;
    verdict = c.in-Some-Claim.verdict;
    of = rw c.in-Some-Claim.field-0-is at c.in-Some-Claim.ensures.found;
    given = c.in-Ok.answer;
    is_answer = c.in-Ok.ensures.answer;
    meter = c.check.new.meter;
    counted = c.in-Ok.ensures.counted;
    within = c.check.ensures.within;
    checked = c.in-Ok.ensures.cost;
    window = c.in-Ok.ensures.window;
    clean = rw c.is_fine.ensures refl;
    peak = c.greatest-self.ensures;
    is_cost = refl;
  }),
)
