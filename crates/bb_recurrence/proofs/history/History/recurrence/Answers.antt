use Rattle.std.proofs.Common.{◌≡◌, ◌+◌, ◌-◌, FitsSigned, subst, arith, rules, w64}
use Rattle.std.proofs.lemmas.Int.{to_z-of_z}
use Rattle.laws_of_recurrence.specs.Recurrence.{RepeatsExactly}
use Rattle.laws_of_recurrence.specs.Shift.{IsShift}
use Rattle.bb_recurrence.specs.History.{IsRecorded}
use Rattle.bb_recurrence.specs.Pairs.{distance_of}
use Rattle.bb_recurrence.proofs.Quotients.{exact_of_parts, shift_of_start}
use Rattle.bb_recurrence.proofs.history.History.recurrence.Goals as goal
use Rattle.bb_recurrence.proofs.history.History.recurrence.Goals.{After-period-period}

recorded : (c : After-period-period)
    → IsRecorded c.args.pair.now.machine.now (c.args.pair.now.first + distance_of c.args.pair.now)
    c.args.self.now
recorded c m soon = c.requires.recorded m (let order = c.requires.order in omega (arith, soon, order))

exact : (c : After-period-period)
    → RepeatsExactly c.args.pair.now.machine.now c.start-start.result c.period-period.result
exact c = exact_of_parts _ _ _ _ _ c.requires.repeats
    (c.period-period.ensures.least c.args.pair.now.machine.now (recorded c) c.requires.repeats)
    (c.start-start.ensures c.args.pair.now.machine.now (recorded c))

pub returns-clause-exact : goal.returns-clause-exact
returns-clause-exact c = exact (goal.at.returns-clause-exact c).After-period-period

pub returns-clause-shift : goal.returns-clause-shift
returns-clause-shift c =
    let at = (goal.at.returns-clause-shift c).After-period-period in
    let begins = c.start-start.ensures c.args.pair.now.machine.now (recorded at) in
    let span : (c.args.pair.now.first + c.period-period.result) - c.args.pair.now.first ≡ c.period-period.result =
    omega arith in
    let fits : FitsSigned w64 c.shift-shift.result = search rules in
    let whole =
    subst (λ p. IsShift c.args.pair.now.machine.now c.args.pair.now.first p c.shift-shift.result) span
    c.shift-shift.ensures in
    simp to_z-of_z (shift_of_start _ _ _ _ _ (exact at) begins.no_later whole)
