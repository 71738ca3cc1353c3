use Rattle.std.proofs.Common.{◌∙◌, arith, refl}
use Rattle.std.proofs.lemmas.Int.{ints}
use Rattle.bb_recurrence.proofs.Counting.{at_most, counts_long, short_at_most}
use Rattle.bb_recurrence.proofs.Quotients.{exact_of_parts, shift_of_start}
use Rattle.bb_recurrence.proofs.Reductions.{room_after_tests}
use Rattle.bb_recurrence.proofs.finder.Finder.find_recurrence.Goals as goal

-- ---- a run that is recorded

pub run_to-requires-clause-at : goal.run_to-requires-clause-at
run_to-requires-clause-at g c = record {
  stands = c.start-runner.ensures.stands;
  steps = refl;
  limit = c.start-runner.ensures.limit ∙ c.requires.tapes.pair.run;
}

pub returns-in_err-run_to-clause-few : goal.returns-in_err-run_to-clause-few
returns-in_err-run_to-clause-few g c =
    let none = c.start-runner.ensures.steps in
    let few = c.run_to.ensures.few in
    short_at_most _ _ _ _ c.requires.pair.order (omega (arith, few, none))

pub returns-then-pair-le-MAX_RECORDED-clause-uses : goal.returns-then-pair-le-MAX_RECORDED-clause-uses
returns-then-pair-le-MAX_RECORDED-clause-uses g c =
    ((rw c.start-runner.ensures.steps at c.in_ok-run_to.ensures.goes_on) c.reset.ensures).seen

pub returns-then-pair-le-MAX_RECORDED-clause-few : goal.returns-then-pair-le-MAX_RECORDED-clause-few
returns-then-pair-le-MAX_RECORDED-clause-few g c =
    let none = c.start-runner.ensures.steps in
    let few = c.in_ok-run_to.ensures.few in
    short_at_most _ _ _ _ c.requires.pair.order (omega (arith, few, none))

-- ---- a longer one

pub find_shift-requires-clause-saved : goal.find_shift-requires-clause-saved
find_shift-requires-clause-saved g c = record {
  goes_on = record { never = c.requires.pair.repeats.never; inside = c.requires.pair.inside };
  at = rw c.least_period.ensures.saved c.in_ok-start.ensures.at;
}

pub find_shift-requires-clause-room : goal.find_shift-requires-clause-room
find_shift-requires-clause-room g c =
    let accepted = c.show_accepted.ensures.accepted in
    let inside = c.requires.pair.inside in
    let few = c.least_period.ensures.few in
    let within = c.in_ok-period.ensures.within in
    let started = c.in_ok-start.ensures.few in
    let order = c.requires.pair.order in
    let room = c.requires.room in
    let steps = inside.within_steps in
    let enough = room_after_tests _ _ _ c.in_ok-period.period few (omega (arith, steps, accepted.steps))
    (omega (arith, started, room, order, steps, accepted.steps)) (omega (arith, within, order, steps, accepted.steps)) in
    omega (arith, enough)

pub returns-in_err-shift-clause-few : goal.returns-in_err-shift-clause-few
returns-in_err-shift-clause-few g c =
    at_most _ _ _ _ _ c.in_ok-start.ensures.counted c.in_ok-period.ensures.few _ _ c.in_ok-period.ensures.within
    c.find_shift.ensures.few

pub returns-clause-few : goal.returns-clause-few
returns-clause-few g c =
    at_most _ _ _ _ _ c.in_ok-start.ensures.counted c.in_ok-period.ensures.few _ _ c.in_ok-period.ensures.within
    c.in_ok-shift.ensures.few

pub returns-clause-counted : goal.returns-clause-counted
returns-clause-counted g c =
    let many = c.if-pair-le-MAX_RECORDED.false in
    record {
      short = λ few. absurd (omega (arith, few, many));
      long = λ late. counts_long _ _ _ _ _ c.in_ok-start.ensures.counted c.in_ok-period.ensures.few _ _
          c.in_ok-period.ensures.no_less c.in_ok-shift.ensures.counted;
    }

pub returns-clause-exact : goal.returns-clause-exact
returns-clause-exact g c =
    exact_of_parts _ _ _ _ _ c.requires.pair.repeats c.in_ok-period.ensures.least c.in_ok-start.ensures.start

pub returns-clause-shift : goal.returns-clause-shift
returns-clause-shift g c =
    let exact =
    exact_of_parts _ _ _ _ _ c.requires.pair.repeats c.in_ok-period.ensures.least c.in_ok-start.ensures.start in
    let early = c.in_ok-start.ensures.start.no_later in
    let is = shift_of_start _ _ _ _ _ exact early c.in_ok-shift.ensures.shift in
    let low = c.in_ok-shift.ensures.near.low in
    let high = c.in_ok-shift.ensures.near.high in
    omega (arith, ints, is, low, high)
