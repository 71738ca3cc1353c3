use Rattle.std.proofs.Common.{◌+◌, ◌∙◌, IsTrue, ap, arith, inl, inr, refl, subst, sym}
use Rattle.bb_sim.specs.Runner.{steps_of}
use Rattle.bb_registers.specs.declared.run.RegisterRun.{RegisterRun}
use Rattle.bb_registers.specs.Registers.{EndsWith, IsRegisterRun, StaysInWord}
use Rattle.bb_cert.specs.claims.Repeat.{Same}
use Rattle.bb_decide.specs.inside.RegisterPass.{IsPassIn}
use Rattle.bb_decide.specs.inside.RegisterRecords.{HasCompared}
use Rattle.bb_decide.proofs.RegisterPasses.{can_compare_left, can_compare_right, ends_unfound, finds_cycle, finds_left}
use Rattle.bb_decide.proofs.RegisterPasses.{finds_right, register_pass_on, register_pass_on_left, register_pass_on_right}
use Rattle.bb_decide.proofs.RegisterPasses.{not_again}
use Rattle.bb_decide.proofs.register_pass.RegisterPass.advance.Goals as goal
use Rattle.bb_decide.proofs.register_pass.RegisterPass.advance.Goals.{After-pass-2}

pub returns-in-Ended : goal.returns-in-Ended
returns-in-Ended c =
    let here = c.requires.pass in
    let e = c.in-Ended.ensures in
    let none = ends_unfound here (e.1 here.is_run) in (
      subst (IsRegisterRun c.args.machine.now c.args.limits.now) (sym e.0) here.is_run,
      (
        subst (λ (r : RegisterRun). (known : IsRegisterRun c.args.machine.now c.args.limits.now r)
            → EndsWith known c.in-Ended.outcome) (sym e.0) e.1,
        none.0,
        none.1,
      ),
    )

pub returns-in-Outside : goal.returns-in-Outside
returns-in-Outside c =
    let here = c.requires.pass in
    let e = c.in-Outside.ensures in
    let steps = ap (λ (r : RegisterRun). r.steps + 1) e.0 ∙ ap (λ n. n + 1) here.is_run.steps_is in (
      subst (IsRegisterRun c.args.machine.now c.args.limits.now) (sym e.0) here.is_run,
      (
        subst (λ (r : RegisterRun). IsPassIn c.args.machine.now c.args.limits.now r c.args.self.now.kept
            c.args.self.now.right c.args.self.now.left) (sym e.0) here,
        λ fits. e.1 here.is_run (subst (StaysInWord c.args.machine.now) steps fits.word),
      ),
    )

pub returns-then-has_same_configuration : goal.returns-then-has_same_configuration
returns-then-has_same_configuration c =
    let here = c.requires.pass in
    let step = c.in-Stepped.ensures.0 here.is_run in (
      step.next,
      (
        inl (finds_cycle here step step.next.at.fits here.kept_is_run.at.fits
            (c.has_same_configuration.ensures.0 c.if-has_same_configuration.true)),
        refl,
        (omega arith, omega arith),
      ),
    )

differs : (c : After-pass-2) → Same c.args.machine.now (steps_of c.requires.pass.kept_is_run.runner)
    (steps_of (c.in-Stepped.ensures.0 c.requires.pass.is_run).next.runner) → ⊥
differs c =
    let here = c.requires.pass in
    let step = c.in-Stepped.ensures.0 here.is_run in
    not_again here step step.next.at.fits here.kept_is_run.at.fits (λ same.
    let yes : IsTrue c.has_same_configuration.result = c.has_same_configuration.ensures.1 same in
    let no = c.if-has_same_configuration.false in
    absurd cc)

pub returns-then-self-window : goal.returns-then-self-window
returns-then-self-window c =
    let here = c.requires.pass in
    let d = (goal.at.returns-then-self-window c).After-pass-2 in
    let step = c.in-Stepped.ensures.0 here.is_run in (
      register_pass_on here step _ _ c.pass.ensures c.pass-2.ensures _ c.keep_in_turn.ensures (differs d) c.if-self-window.true,
      c.in-Stepped.ensures.1,
    )

pub compare-requires : goal.compare-requires
compare-requires c =
    let here = c.requires.pass in
    let d = (goal.at.compare-requires c).After-pass-2 in
    let step = c.in-Stepped.ensures.0 here.is_run in
    can_compare_right here step _ _ c.pass.ensures c.pass-2.ensures _ c.keep_in_turn.ensures (differs d)
    here.is_run.window_is.fits step.next.window_is.fits c.if-self-window.false (c.went_right.ensures.0 c.if-went_right.true)

pub returns-in-Some : goal.returns-in-Some
returns-in-Some c =
    let here = c.requires.pass in
    let d = (goal.at.returns-in-Some c).After-pass-2 in
    let step = c.in-Stepped.ensures.0 here.is_run in
    let can = can_compare_right here step _ _ c.pass.ensures c.pass-2.ensures _ c.keep_in_turn.ensures (differs d)
    here.is_run.window_is.fits step.next.window_is.fits c.if-self-window.false (c.went_right.ensures.0 c.if-went_right.true) in
    let found = finds_right here step _ _ c.pass.ensures c.pass-2.ensures _ c.keep_in_turn.ensures (differs d)
    here.is_run.window_is.fits step.next.window_is.fits c.if-self-window.false (c.went_right.ensures.0 c.if-went_right.true)
    _ _ (subst (λ found. HasCompared can c.compare.new.self found) c.in-Some.is (c.compare.ensures.compared can)) in
    (step.next, (inr found.0, found.1, rw c.in-Some.is at c.compare.ensures.numbers))

pub returns-in-None : goal.returns-in-None
returns-in-None c =
    let here = c.requires.pass in
    let d = (goal.at.returns-in-None c).After-pass-2 in
    let step = c.in-Stepped.ensures.0 here.is_run in
    let can = can_compare_right here step _ _ c.pass.ensures c.pass-2.ensures _ c.keep_in_turn.ensures (differs d)
    here.is_run.window_is.fits step.next.window_is.fits c.if-self-window.false (c.went_right.ensures.0 c.if-went_right.true) in (
      register_pass_on_right here step _ _ c.pass.ensures c.pass-2.ensures _ c.keep_in_turn.ensures (differs d)
          here.is_run.window_is.fits step.next.window_is.fits c.if-self-window.false (c.went_right.ensures.0 c.if-went_right.true)
          _ (subst (λ found. HasCompared can c.compare.new.self found) c.in-None.is (c.compare.ensures.compared can)),
      c.in-Stepped.ensures.1,
    )

pub compare-requires-2 : goal.compare-requires-2
compare-requires-2 c =
    let here = c.requires.pass in
    let d = (goal.at.compare-requires-2 c).After-pass-2 in
    let step = c.in-Stepped.ensures.0 here.is_run in
    can_compare_left here step _ _ c.pass.ensures c.pass-2.ensures _ c.keep_in_turn.ensures (differs d)
    here.is_run.window_is.fits step.next.window_is.fits c.if-self-window.false (λ one.
    let yes : IsTrue c.went_right.result = c.went_right.ensures.1 one in let no = c.if-went_right.false in absurd cc)

pub returns-in-Some-compare : goal.returns-in-Some-compare
returns-in-Some-compare c =
    let here = c.requires.pass in
    let d = (goal.at.returns-in-Some-compare c).After-pass-2 in
    let step = c.in-Stepped.ensures.0 here.is_run in
    let can = can_compare_left here step _ _ c.pass.ensures c.pass-2.ensures _ c.keep_in_turn.ensures (differs d)
    here.is_run.window_is.fits step.next.window_is.fits c.if-self-window.false (λ one.
    let yes : IsTrue c.went_right.result = c.went_right.ensures.1 one in let no = c.if-went_right.false in absurd cc) in
    let found = finds_left here step _ _ c.pass.ensures c.pass-2.ensures _ c.keep_in_turn.ensures (differs d)
    here.is_run.window_is.fits step.next.window_is.fits c.if-self-window.false (λ one.
    let yes : IsTrue c.went_right.result = c.went_right.ensures.1 one in let no = c.if-went_right.false in absurd cc)
    _ _ (subst (λ found. HasCompared can c.compare-2.new.self found) c.in-Some-compare.is (c.compare-2.ensures.compared can)) in
    (step.next, (inr found.0, found.1, rw c.in-Some-compare.is at c.compare-2.ensures.numbers))

pub returns-in-None-compare : goal.returns-in-None-compare
returns-in-None-compare c =
    let here = c.requires.pass in
    let d = (goal.at.returns-in-None-compare c).After-pass-2 in
    let step = c.in-Stepped.ensures.0 here.is_run in
    let can = can_compare_left here step _ _ c.pass.ensures c.pass-2.ensures _ c.keep_in_turn.ensures (differs d)
    here.is_run.window_is.fits step.next.window_is.fits c.if-self-window.false (λ one.
    let yes : IsTrue c.went_right.result = c.went_right.ensures.1 one in let no = c.if-went_right.false in absurd cc) in (
      register_pass_on_left here step _ _ c.pass.ensures c.pass-2.ensures _ c.keep_in_turn.ensures (differs d)
          here.is_run.window_is.fits step.next.window_is.fits c.if-self-window.false (λ one.
          let yes : IsTrue c.went_right.result = c.went_right.ensures.1 one in let no = c.if-went_right.false in absurd cc)
          _ (subst (λ found. HasCompared can c.compare-2.new.self found) c.in-None-compare.is (c.compare-2.ensures.compared can)),
      c.in-Stepped.ensures.1,
    )
