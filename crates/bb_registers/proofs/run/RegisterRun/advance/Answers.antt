use Rattle.std.proofs.Common.{◌≡◌, ◌-◌, ◌∙◌, IsTrue, refl, arith}
use Rattle.std.specs.Int.{bit_at}
use Rattle.bb_registers.proofs.Ending.{ends_by_cells, ends_by_steps}
use Rattle.bb_registers.proofs.Entries.{entry_known}
use Rattle.bb_registers.proofs.Moving.{can, goes_on, goes_on_inside, goes_on_outside, leaves, too_wide}
use Rattle.bb_registers.proofs.run.RegisterRun.advance.Goals as goal
use Rattle.bb_registers.proofs.run.RegisterRun.advance.Goals.{After-steps}
use Rattle.bb_registers.proofs.run.RegisterRun.advance.Goals.{then-self-next-eq0+else-self-eq0+else-next-eq0, else-self-next-eq0}

pub end-requires-clause-entry : goal.end-requires-clause-entry
end-requires-clause-entry c known = entry_known known c.requires.table c.next-next.ensures

-- the entry goes to a state
on : (c : After-steps) → bit_at c.next-next.result.entry 8 ≡ 1 → ⊥
on c one = let yes : IsTrue c.stops.result = c.stops.ensures.1 one in absurd cc

pub returns-then-self-steps : goal.returns-then-self-steps
returns-then-self-steps c = (
  refl,
  λ known.
      let go = can c.show_machine.ensures.machine c.requires.table known c.next-next.ensures
      (on (goal.at.returns-then-self-steps c).After-steps) in
      ends_by_steps known (goes_on go) (c.if-self-steps.true ∙ c.steps.ensures.value),
)

pub returns-then-self-eq0 : goal.returns-then-self-eq0
returns-then-self-eq0 c = (
  refl,
  λ known.
      let m = c.show_machine.ensures.machine in
      let goes = on (goal.at.returns-then-self-eq0 c).After-steps in
      let go = can m c.requires.table known c.next-next.ensures goes in
      ends_by_cells known (goes_on go) (λ e. c.if-self-steps.false cc)
      (too_wide m c.requires.table known c.next-next.ensures goes
      c.if-self-next-eq0.true c.if-self-eq0.true),
)

pub returns-then-next-eq0 : goal.returns-then-next-eq0
returns-then-next-eq0 c = (
  refl,
  λ known.
      leaves c.show_machine.ensures.machine c.requires.table known c.next-next.ensures
      (on (goal.at.returns-then-next-eq0 c).After-steps) c.if-self-next-eq0.true c.if-next-eq0.true
      c.if-self-eq0.false (λ e. c.if-self-steps.false cc),
)

pub returns : goal.returns
returns c =
    let m = c.show_machine.ensures.machine in
    let goes = on (goal.at.returns c).After-steps in
    elim c.if-self-next-eq0.branch [
      | then-self-next-eq0+else-self-eq0+else-next-eq0 w ↦
          rw w.self-is (
            λ known.
                goes_on_outside m c.requires.table known c.next-next.ensures goes
                w.if-self-next-eq0.true w.if-self-eq0.false w.if-next-eq0.false (λ e. c.if-self-steps.false cc)
                (c.args.self.now.room - 1) (omega (arith, w.if-self-eq0.false)),
            refl,
          )
      | else-self-next-eq0 w ↦
          rw w.self-is (
            λ known.
                goes_on_inside m c.requires.table known c.next-next.ensures goes
                w.if-self-next-eq0.false (λ e. c.if-self-steps.false cc),
            refl,
          )
    ]
