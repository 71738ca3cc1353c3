use Rattle.std.proofs.Common.{◌∙◌, ◌<◌, ◌^◌, ℕ, IsTrue, ap, subst, arith}
use Rattle.std.specs.Int.Count.{ones}
use Rattle.bb_registers.proofs.Ending.{ends_by_steps, ends_in_Z, ends_undefined, goes_into_Z}
use Rattle.bb_registers.proofs.Entries.{goes_to_Z}
use Rattle.bb_registers.proofs.run.RegisterRun.end.Goals as goal

pub returns-then-not-halts : goal.returns-then-not-halts
returns-then-not-halts c known =
    ends_undefined known c.args.entry c.from.result (c.requires.entry known) c.requires.stops
    (λ one. let yes : IsTrue c.halts.result = c.halts.ensures.1 one in absurd cc) (omega arith) c.from.ensures

pub returns-then-self-steps : goal.returns-then-self-steps
returns-then-self-steps c known =
    let goes = goes_to_Z c.args.entry _ _ (c.requires.entry known) c.requires.stops
    (c.halts.ensures.0 c.if-not-halts.false) in
    ends_by_steps known (goes_into_Z known c.requires.symbols goes)
    (c.if-self-steps.true ∙ c.steps.ensures.value)

pub returns : goal.returns
returns c known =
    let goes = goes_to_Z c.args.entry _ _ (c.requires.entry known) c.requires.stops
    (c.halts.ensures.0 c.if-not-halts.false) in
    ends_in_Z known c.requires.symbols goes c.from-2.result (λ e. c.if-self-steps.false cc)
    (subst (λ (n : ℕ). n < 2 ^ 64) c.flipped_bits.ensures (omega arith)) (c.from-2.ensures ∙ ap ones c.flipped_bits.ensures)
