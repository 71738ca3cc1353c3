use Rattle.std.proofs.Common.{◌≡◌, ◌≢◌, Ok, refl, ap, ◌∙◌, arith, rules, w64, w8, FitsSigned}
use Rattle.std.proofs.lemmas.Int.{ints, to_z-of_z}
use Rattle.bb_machine.specs.declared.entry.Next.TheVariants.{State, Halt}
use Rattle.bb_tape.specs.Content.{cell}
use Rattle.bb_sim.specs.Configuration.{entry_at}
use Rattle.bb_sim.specs.declared.runner.Runner.{Runner}
use Rattle.bb_sim.specs.declared.runner.Moved.TheVariants.{Stepped}
use Rattle.bb_sim.specs.inside.Advancing.{Advances}
use Rattle.std.specs.Int.{int_max, int_min}
use Rattle.bb_sim.specs.CellsBetween.{cells_between}
use Rattle.bb_sim.specs.Meter.{stepped}
use Rattle.bb_sim.specs.Runner.{high_of, low_of, steps_of}
use Rattle.bb_sim.specs.inside.Widening.{StepsTo, IsWidened}
use Rattle.bb_sim.proofs.Outcomes.{halts_last, steps_last, cells_last}
use Rattle.bb_sim.proofs.Standing.{near_head, head_inside}
use Rattle.bb_sim.proofs.Stepping.{halts_undefined, running, moves_on, next-span, wanted, made, into_state}
use Rattle.bb_sim.proofs.Stepping.{Goes, Leads, cells_stay, goes, inside_visited, leads, widened_span}
use Rattle.bb_sim.proofs.runner.Runner.advance.Goals.{After-offset_by-position, In-Some}
use Rattle.bb_sim.proofs.runner.Runner.advance.Goals as goal
use Rattle.bb_sim.proofs.runner.Runner.advance.Given as given

pub returns-in_default-clause-answers : goal.returns-in_default-clause-answers
returns-in_default-clause-answers g c =
    halts_undefined c.args.machine.now c.args.self.now (g.T.Tape.view c.args.tape.now) c.requires.stands
    (rw c.in_default.is refl)

pub returns-in_default-clause-reaches : goal.returns-in_default-clause-reaches
returns-in_default-clause-reaches g c =
    halts_last _ _ _ c.show_inside.ensures (returns-in_default-clause-answers g c)

pub read_inside-symbol-requires : goal.read_inside-symbol-requires
read_inside-symbol-requires g c =
    let old = c.args.self.now in
    let fits : FitsSigned w64 old.position = search rules in
    let is = c.in-State.is in
    let running_here : old.state ≢ Halt = λ e. cc in
    simp to_z-of_z
    (head_inside c.args.machine.now old (g.T.Tape.view c.args.tape.now) c.requires.stands running_here)

-- the entry that applies, and where it leads
goes_here : (g : given.Over) (c : In-Some g)
    → Goes c.args.machine.now (entry_at c.args.machine.now c.args.self.now.state
    (cell (g.T.Tape.view c.args.tape.now).content c.args.self.now.position)) c.in-Some.step
goes_here g c =
    let fits : FitsSigned w64 c.args.self.now.position = search rules in
    goes c.args.self.now (g.T.Tape.view c.args.tape.now) c.in-State.is
    (simp to_z-of_z at c.read_inside-symbol.ensures) c.in-Some.ensures.value c.in-Some.ensures.named

led_here : (g : given.Over) (c : After-offset_by-position g)
    → Leads c.args.machine.now c.args.self.now (g.T.Tape.view c.args.tape.now) c.in-Some.step
    c.offset_by-position.result
led_here g c =
    let fits : FitsSigned w64 c.args.self.now.position = search rules in
    let offset_fits : FitsSigned w8 c.in-Some.step.offset = search rules in
    leads _ _ c.in-State.is (simp to_z-of_z at c.read_inside-symbol.ensures) c.in-Some.ensures.value
    c.in-Some.ensures.named (simp to_z-of_z at c.offset_by-position.ensures)

pub returns-then-self-steps-clause-answers : goal.returns-then-self-steps-clause-answers
returns-then-self-steps-clause-answers g c =
    let by = goes_here g (goal.at.returns-then-self-steps-clause-answers g c).In-Some in
    (moves_on c.requires.stands by.here, cc)

pub returns-then-self-steps-clause-reaches : goal.returns-then-self-steps-clause-reaches
returns-then-self-steps-clause-reaches g c =
    steps_last _ _ _ c.show_inside.ensures cc

pub offset_by-position-requires : goal.offset_by-position-requires
offset_by-position-requires g c =
    let by = goes_here g (goal.at.offset_by-position-requires g c).In-Some in
    let fits : FitsSigned w64 c.args.self.now.position = search rules in
    let near = near_head _ _ _ by.dir c.requires.stands (running c.requires.stands by.here)
    (g.met.T.Tape.sound c.args.tape.now) in
    record { low = omega (arith, ints, near.small.0); high = omega (arith, ints, near.small.1) }

pub enter-requires-clause-near : goal.enter-requires-clause-near
enter-requires-clause-near g c =
    let led = led_here g (goal.at.enter-requires-clause-near g c).After-offset_by-position in
    let result_fits : FitsSigned w64 c.offset_by-position.result = search rules in
    let near = near_head _ c.args.self.now _ led.goes.dir c.requires.stands
    (running c.requires.stands led.goes.here) (g.met.T.Tape.sound c.args.tape.now) in
    simp to_z-of_z (rw led.there near.near)

pub returns-then-not-enter-clause-answers : goal.returns-then-not-enter-clause-answers
returns-then-not-enter-clause-answers g c =
    let led = led_here g (goal.at.returns-then-not-enter-clause-answers g c).After-offset_by-position in
    let result_fits : FitsSigned w64 c.offset_by-position.result = search rules in
    let full = rw led.there at (simp to_z-of_z at c.if-not-enter.ensures.0) in
    let spans = next-span c.requires.stands led.goes.here in (
      moves_on c.requires.stands led.goes.here,
      λ e. c.if-self-steps.false cc,
      omega (arith, spans, full, c.requires.limit),
    )

pub returns-then-not-enter-clause-reaches : goal.returns-then-not-enter-clause-reaches
returns-then-not-enter-clause-reaches g c =
    let wide = (returns-then-not-enter-clause-answers g c).2 in
    let same : c.enter.new.self.steps ≡ c.args.self.now.steps =
    ap (λ (r : Runner). r.steps) c.if-not-enter.ensures.2 in
    rw same (cells_last _ _ _ c.show_inside.ensures wide)

pub returns-then-not-enter-clause-moves : goal.returns-then-not-enter-clause-moves
returns-then-not-enter-clause-moves g c =
    record { runner = c.if-not-enter.ensures.2; view = c.if-not-enter.ensures.1; meter = refl }

pub step_to-requires-clause-symbol : goal.step_to-requires-clause-symbol
step_to-requires-clause-symbol g c =
    let by = goes_here g (goal.at.step_to-requires-clause-symbol g c).In-Some in
    omega (arith, by.named.0, c.in-Some.ensures.machine.symbols)

pub step_to-requires-clause-inside : goal.step_to-requires-clause-inside
step_to-requires-clause-inside g c =
    let led = led_here g (goal.at.step_to-requires-clause-inside g c).After-offset_by-position in
    let result_fits : FitsSigned w64 c.offset_by-position.result = search rules in
    let near = near_head _ c.args.self.now _ led.goes.dir c.requires.stands
    (running c.requires.stands led.goes.here) (g.met.T.Tape.sound c.args.tape.now) in
    let wider : IsWidened c.args.self.now c.enter.new.self c.offset_by-position.result =
    simp to_z-of_z at c.if-not-enter.ensures.2 in
    rw wider.head (inside_visited (g.T.Tape.view c.args.tape.now) _ _ c.args.self.now.position
    (simp to_z-of_z at c.if-not-enter.ensures.1) near.here)

pub returns-in_default-step_to-clause-wanted : goal.returns-in_default-step_to-clause-wanted
returns-in_default-step_to-clause-wanted g c =
    let led = led_here g (goal.at.returns-in_default-step_to-clause-wanted g c).After-offset_by-position in
    let result_fits : FitsSigned w64 c.offset_by-position.result = search rules in
    wanted c.requires.stands led.goes.here c.args.limits.now (λ e. c.if-self-steps.false cc)
    c.requires.limit (rw led.there at (simp to_z-of_z at c.if-not-enter.ensures.0))

pub returns-in_default-step_to-clause-unmade : goal.returns-in_default-step_to-clause-unmade
returns-in_default-step_to-clause-unmade g c =
    let result_fits : FitsSigned w64 c.offset_by-position.result = search rules in
    let wider : IsWidened c.args.self.now c.enter.new.self c.offset_by-position.result =
    simp to_z-of_z at c.if-not-enter.ensures.2 in
    ap steps_of c.in_default-step_to.ensures.unmoved ∙ wider.steps

pub returns-in_default-step_to-clause-window : goal.returns-in_default-step_to-clause-window
returns-in_default-step_to-clause-window g c =
    let led = led_here g (goal.at.returns-in_default-step_to-clause-window g c).After-offset_by-position in
    let result_fits : FitsSigned w64 c.offset_by-position.result = search rules in
    let wider : IsWidened c.args.self.now c.enter.new.self c.offset_by-position.result =
    simp to_z-of_z at c.if-not-enter.ensures.2 in
    ap (λ r. cells_between (low_of r) (high_of r)) c.in_default-step_to.ensures.unmoved
    ∙ widened_span c.requires.stands led.goes.here _ _
    (wider.low ∙ ap (int_min (low_of c.args.self.now)) led.there)
    (wider.high ∙ ap (int_max (high_of c.args.self.now)) led.there)

-- what all clauses of a step follow from
made_here : (g : given.Over) (c : goal.In-Ok g)
    → Advances g.T.Tape.GROWS c.args.machine.now c.args.limits.now c.args.self.now c.step_to.new.self
    (g.T.Tape.view c.args.tape.now) (g.T.Tape.view c.step_to.new.tape) c.args.meter.now c.step_to.new.meter
    (Ok Stepped)
made_here g c =
    let led = led_here g (goal.at.returns-clause-answers g c).After-offset_by-position in
    let result_fits : FitsSigned w64 c.offset_by-position.result = search rules in
    let visited_is = simp to_z-of_z at c.if-not-enter.ensures.1 in
    let wider : IsWidened c.args.self.now c.enter.new.self c.offset_by-position.result =
    simp to_z-of_z at c.if-not-enter.ensures.2 in
    let room = rw led.there at (simp to_z-of_z at c.if-not-enter.ensures.0) in
    let steps : StepsTo c.enter.new.self c.step_to.new.self (State
    c.in-Some.step.state) c.offset_by-position.result = simp to_z-of_z at c.in-Ok.ensures.steps in
    let stepped_is =
    into_state _ _ _ c.in-Some.step.write led.goes.dir c.in-Some.step.state c.requires.stands led.goes.here
    c.enter.new.self c.step_to.new.self (g.T.Tape.view c.enter.new.tape) (g.T.Tape.view c.step_to.new.tape)
    c.offset_by-position.result led.there wider visited_is steps c.in-Ok.ensures.written in
    made c.requires.stands led.goes.here c.args.limits.now c.step_to.new.self
    (g.T.Tape.view c.step_to.new.tape) c.args.meter.now c.step_to.new.meter
    (g.met.T.Tape.sound c.args.tape.now) led.goes.named c.requires.limit c.requires.steps
    (λ e. c.if-self-steps.false cc) room stepped_is
    (c.in-Ok.ensures.counted
    ∙ ap (stepped c.args.meter.now) (cells_stay c.enter.new.self c.step_to.new.self _ _ steps))

pub returns-clause-answers : goal.returns-clause-answers
returns-clause-answers g c = (made_here g c).answers

pub returns-clause-moves : goal.returns-clause-moves
returns-clause-moves g c = (made_here g c).moves

pub returns-clause-reaches : goal.returns-clause-reaches
returns-clause-reaches g c = (made_here g c).reaches

pub returns-clause-stands : goal.returns-clause-stands
returns-clause-stands g c = (made_here g c).stands
