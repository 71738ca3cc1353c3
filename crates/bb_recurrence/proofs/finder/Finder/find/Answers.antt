use Rattle.std.proofs.Common.{◌+◌, ◌*◌, ◌≤◌, ap, arith, rules}
use Rattle.bb_sim.specs.declared.meter.Meter.{Meter}
use Rattle.bb_recurrence.proofs.ConfirmedPairs.{counts_second, named_pair}
use Rattle.bb_recurrence.proofs.Counting.{counts_pair, counts_recorded, few_in_all}
use Rattle.bb_recurrence.proofs.finder.Finder.find.Given as given
use Rattle.bb_recurrence.proofs.finder.Finder.find.Goals as goal
use Rattle.bb_recurrence.proofs.finder.Finder.find.Goals.{After-find_recurrence-found}

-- ---- a recorded run

pub recurrence-requires-clause-recorded : goal.recurrence-requires-clause-recorded
recurrence-requires-clause-recorded g c =
    let pair = named_pair _ _ _ c.in-Some.ensures in
    ((rw pair.1 at (c.in_ok-answer.ensures.along (search rules) pair.0)) c.reset.ensures).entries
    c.if-second-le-MAX_RECORDED.true

pub returns-then-second-le-MAX_RECORDED-clause-found : goal.returns-then-second-le-MAX_RECORDED-clause-found
returns-then-second-le-MAX_RECORDED-clause-found g c =
    let pair = named_pair _ _ _ c.in-Some.ensures in (
      search rules,
      record {
        first = c.in-Some.first;
        second = c.in-Some.second;
        names = c.in-Some.ensures;
        early = c.recurrence.ensures.early;
        whole = c.recurrence.ensures.whole;
        exact = c.recurrence.ensures.exact;
        shift = c.recurrence.ensures.shift;
        uses = ((rw pair.1 at (c.in_ok-answer.ensures.along (search rules) pair.0)) c.reset.ensures).seen;
      },
    )

pub returns-then-second-le-MAX_RECORDED-clause-counted : goal.returns-then-second-le-MAX_RECORDED-clause-counted
returns-then-second-le-MAX_RECORDED-clause-counted g c =
    counts_recorded _ _ _ _ _ _ _ c.in-Some.ensures
    (counts_second _ _ _ _ c.in-Some.ensures (c.in_ok-answer.ensures.counted (search rules)))
    c.in_ok-answer.ensures.window c.if-second-le-MAX_RECORDED.true

-- ---- a longer one

pub returns-clause-found : goal.returns-clause-found
returns-clause-found g c = (
  search rules,
  record {
    first = c.in-Some.first;
    second = c.in-Some.second;
    names = c.in-Some.ensures;
    early = c.in_ok-found.ensures.early;
    whole = c.in_ok-found.ensures.whole;
    exact = c.in_ok-found.ensures.exact;
    shift = c.in_ok-found.ensures.shift;
    uses = c.in_ok-found.ensures.uses;
  },
)

in_all : (g : given.Over) (c : After-find_recurrence-found g)
    → c.check.new.meter.steps + c.find_recurrence-found.new.meter.steps ≤ 160 * c.args.limits.now.steps
in_all g c =
    let checked = c.in_ok-answer-2.ensures.within in
    let inside = c.show_repeats-2.ensures.inside in
    few_in_all _ _ _ _ _ _ c.find_recurrence-found.ensures.few c.show_repeats-2.ensures.order inside.within_steps
    c.show_accepted.ensures.accepted.steps checked.steps (ap (λ (m : Meter). m.steps) c.new-own.ensures)

pub overflow_add-meter : goal.overflow_add-meter
overflow_add-meter g c =
    let few = in_all g (goal.at.overflow_add-meter g c).After-find_recurrence-found in
    omega (arith, few, c.show_accepted.ensures.accepted.steps)

pub returns-clause-counted : goal.returns-clause-counted
returns-clause-counted g c =
    counts_pair _ _ _ _ _ _ _ c.in-Some.ensures
    (counts_second _ _ _ _ c.in-Some.ensures (c.in_ok-answer-2.ensures.counted (search rules)))
    c.in_ok-answer-2.ensures.window _ _ (let many = c.if-second-le-MAX_RECORDED.false in omega (arith, many))
    (ap (λ (m : Meter). m.steps) c.new-own.ensures) c.in_ok-found.ensures.counted

pub returns-in_err-found-clause-few_steps : goal.returns-in_err-found-clause-few_steps
returns-in_err-found-clause-few_steps g c =
    in_all g (goal.at.returns-in_err-found-clause-few_steps g c).After-find_recurrence-found

pub returns-clause-few_steps : goal.returns-clause-few_steps
returns-clause-few_steps g c = in_all g (goal.at.returns-clause-few_steps g c).After-find_recurrence-found
