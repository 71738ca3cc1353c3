use Rattle.bb_machine.specs.Limits.{Bounds}
use Rattle.bb_machine.specs.Machine.{Table}
use Rattle.bb_sim.specs.declared.meter.Meter.{Meter}
use Rattle.bb_sim.specs.Meter.{CountsRun, zero_meter}
use Rattle.bb_cert.specs.declared.checker.answer.Answer.{Answer}
use Rattle.bb_cert.specs.declared.checker.answer.Answer.TheVariants as answer
use Rattle.bb_cert.specs.declared.verdict.Verdict.{Verdict}
use Rattle.bb_cert.specs.checker.Answer.{IsSettled}
use Rattle.bb_cert.specs.checker.ClaimMeter.{CountsCheck, CountsWindow, IsOfPair, IsOfTree, IsReplayed}
use Rattle.bb_cert.specs.checker.ClaimMeter.{replay_bounds}
use Rattle.bb_tree.specs.Tree.{EndsWithin}
use Rattle.std.proofs.Common.{◌≡◌, ℕ, Result, subst}
use Rattle.std.specs.Prelude.{IfOk}
use Rattle.bb_cert.specs.declared.verdict.Verdict.TheVariants.{Backward, Cycler, Translated}
use Rattle.bb_cert.proofs.checker_lemmas.AnswerRules.{where_ok}
use Rattle.bb_cert.proofs.checker_lemmas.ClaimChecks.{replay_counts, replay_window, tree_counts}
use Rattle.bb_cert.proofs.checker.checking.check_claim.Goals as goal

-- what a replay that answers has counted
pair_cost : (table : Table) (bounds : Bounds) (verdict : Verdict) (meter : Meter) {E : Type 0}
    (result : Result Answer E)
    → IsReplayed bounds verdict → (IsOfTree verdict → ⊥)
    → IfOk result (λ given. CountsRun table (replay_bounds bounds verdict) zero_meter meter)
    → IfOk result (λ given. CountsCheck table bounds verdict meter)
pair_cost table bounds verdict meter result replayed no_tree =
    where_ok (λ (given : Answer). CountsRun table (replay_bounds bounds verdict) zero_meter meter)
    (λ (given : Answer). CountsCheck table bounds verdict meter) result
    (λ given run. replay_counts table bounds verdict meter replayed no_tree run)

pub returns-in-Translated-clause-cost : goal.returns-in-Translated-clause-cost
returns-in-Translated-clause-cost g c =
    pair_cost _ _ _ _ _ (c.requires.open, rw c.in-Translated.is tt) (rw c.in-Translated.is (λ tree. tree))
    (rw c.in-Translated.is (rw c.with_steps-limits-in-Translated.ensures at c.check_translated.ensures.replayed))

pub returns-in-Cycler-clause-cost : goal.returns-in-Cycler-clause-cost
returns-in-Cycler-clause-cost g c =
    pair_cost _ _ _ _ _ (c.requires.open, rw c.in-Cycler.is tt) (rw c.in-Cycler.is (λ tree. tree))
    (rw c.in-Cycler.is (rw c.with_steps-limits.ensures at c.check_cycler.ensures.replayed))

pub returns-in-Backward-clause-cost : goal.returns-in-Backward-clause-cost
returns-in-Backward-clause-cost g c =
    let table = c.args.machine.now in
    let bounds = c.args.limits.now in
    let meter = c.check_backward.new.meter in
    let levels = c.in-Backward.levels in
    let nodes = c.in-Backward.nodes in
    let unsettled : IsSettled bounds (Backward levels nodes) → ⊥
    = subst (λ (v : Verdict). IsSettled bounds v → ⊥) c.in-Backward.is c.requires.open in
    rw c.in-Backward.is (where_ok (λ (given : Answer). (h k : ℕ) → EndsWithin table levels nodes h k
    → (meter.most_levels ≡ h) × (meter.nodes ≡ k))
    (λ (given : Answer). CountsCheck table bounds (Backward levels nodes) meter) _
    (λ given ended. tree_counts table levels nodes meter bounds unsettled c.check_backward.ensures.within ended)
    c.check_backward.ensures.ended)

pub returns-in-Cycler-clause-counted : goal.returns-in-Cycler-clause-counted
returns-in-Cycler-clause-counted g c =
    rw c.in-Cycler.is (rw c.with_steps-limits.ensures at c.check_cycler.ensures.counted)

pub returns-in-Cycler-clause-tapes : goal.returns-in-Cycler-clause-tapes
returns-in-Cycler-clause-tapes g c = rw c.with_steps-limits.ensures at c.check_cycler.ensures.tapes

pub returns-in-Cycler-clause-window : goal.returns-in-Cycler-clause-window
returns-in-Cycler-clause-window g c =
    let table = c.args.machine.now in
    let bounds = c.args.limits.now in
    let meter = c.check_cycler.new.meter in
    where_ok (λ (given : Answer). CountsRun table (replay_bounds bounds c.args.verdict) zero_meter meter)
    (λ (given : Answer). CountsWindow table bounds c.args.verdict meter.most_cells) _
    (λ given run. replay_window table bounds c.args.verdict meter
    (c.requires.open, rw c.in-Cycler.is tt) run)
    (rw c.in-Cycler.is (rw c.with_steps-limits.ensures at c.check_cycler.ensures.replayed))

pub returns-in-Cycler-clause-along : goal.returns-in-Cycler-clause-along
returns-in-Cycler-clause-along g c =
    let goes : Type 0 = g.A.Course.goes_on c.args.machine.now 0 c.in-Cycler.second c.args.along.now
    c.check_cycler.new.along in
    let claim : Verdict = Cycler c.in-Cycler.first c.in-Cycler.second in
    rw c.in-Cycler.is (where_ok (λ (given : Answer). given ≡ answer.Ok → goes)
    (λ (given : Answer). given ≡ answer.Ok → IsOfPair claim → goes) _
    (λ given along ok pair. along ok) (rw c.with_steps-limits.ensures at c.check_cycler.ensures.along))

pub returns-in-Translated-clause-counted : goal.returns-in-Translated-clause-counted
returns-in-Translated-clause-counted g c =
    rw c.in-Translated.is (rw c.with_steps-limits-in-Translated.ensures at c.check_translated.ensures.counted)

pub returns-in-Translated-clause-tapes : goal.returns-in-Translated-clause-tapes
returns-in-Translated-clause-tapes g c =
    rw c.with_steps-limits-in-Translated.ensures at c.check_translated.ensures.tapes

pub returns-in-Translated-clause-window : goal.returns-in-Translated-clause-window
returns-in-Translated-clause-window g c =
    let table = c.args.machine.now in
    let bounds = c.args.limits.now in
    let meter = c.check_translated.new.meter in
    where_ok (λ (given : Answer). CountsRun table (replay_bounds bounds c.args.verdict) zero_meter meter)
    (λ (given : Answer). CountsWindow table bounds c.args.verdict meter.most_cells) _
    (λ given run. replay_window table bounds c.args.verdict meter
    (c.requires.open, rw c.in-Translated.is tt) run)
    (rw c.in-Translated.is
    (rw c.with_steps-limits-in-Translated.ensures at c.check_translated.ensures.replayed))

pub returns-in-Translated-clause-along : goal.returns-in-Translated-clause-along
returns-in-Translated-clause-along g c =
    let goes : Type 0 = g.A.Course.goes_on c.args.machine.now 0 c.in-Translated.second c.args.along.now
    c.check_translated.new.along in
    let claim : Verdict = Translated c.in-Translated.side c.in-Translated.first c.in-Translated.second
    c.in-Translated.extent in
    rw c.in-Translated.is (where_ok (λ (given : Answer). given ≡ answer.Ok → goes)
    (λ (given : Answer). given ≡ answer.Ok → IsOfPair claim → goes) _
    (λ given along ok pair. along ok)
    (rw c.with_steps-limits-in-Translated.ensures at c.check_translated.ensures.along))
