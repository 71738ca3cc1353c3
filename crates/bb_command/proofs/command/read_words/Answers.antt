use Rattle.std.proofs.Common.{◌≡◌, ◌∙◌, ℕ, Bor, List, ap, codes, inl, inr, map, rules, subst, sym}
use Rattle.std.specs.Prelude.{Some}
use Rattle.std.proofs.lemmas.Result.{IfErr-weaker, IfOk-weaker}
use Rattle.clap.specs.Words.{Text, found_of, rows_of}
use Rattle.bb_command.specs.Command.{Gives}
use Rattle.bb_command.proofs.CommandLines.{gives, names_decide, stops_by_kind, stops_by_limits}
use Rattle.bb_command.proofs.command.read_words.Goals.{Joined-matches, Joined-matches-2, Joined-matches-3}
use Rattle.bb_command.proofs.command.read_words.Goals as goal

pub returns-in-Err-clause-stop : goal.returns-in-Err-clause-stop
returns-in-Err-clause-stop c = stops_by_kind _ c.in_ok-program.ensures _ c.in-Err.error
    c.in-Err.ensures.kinds _ c.in_ok-stop_of_words-in-Err.ensures

as_trace : (c : Joined-matches)
    → Gives (map (λ word. word.now) c.args.words.now) (codes "trace")
    (rows_of (found_of c.in-Some.values.now))
as_trace c =
    let is_trace : c.in-Some.name.now ≡ codes "trace" = search rules in
    gives _ c.in_ok-program.ensures _ c.in-Ok.matches c.in-Ok.ensures.kinds c.in-Ok.ensures.matches _ _
    (sym c.in-Some.ensures.name ∙ ap Some is_trace) (sym c.in-Some.ensures.rows)

as_check : (c : Joined-matches-2)
    → Gives (map (λ word. word.now) c.args.words.now) (codes "check")
    (rows_of (found_of c.in-Some.values.now))
as_check c =
    let is_check : c.in-Some.name.now ≡ codes "check" = search rules in
    gives _ c.in_ok-program.ensures _ c.in-Ok.matches c.in-Ok.ensures.kinds c.in-Ok.ensures.matches _ _
    (sym c.in-Some.ensures.name ∙ ap Some is_check) (sym c.in-Some.ensures.rows)

as_decide : (c : Joined-matches-3)
    → Gives (map (λ word. word.now) c.args.words.now) (codes "decide")
    (rows_of (found_of c.in-Some.values.now))
as_decide c =
    let words = map (λ (word : Bor (List ℕ)). word.now) c.args.words.now in
    let rows = rows_of (found_of c.in-Some.values.now) in
    let not_trace : c.in-Some.name.now ≡ codes "trace" → ⊥ = search rules in
    let not_check : c.in-Some.name.now ≡ codes "check" → ⊥ = search rules in
    let named = gives _ c.in_ok-program.ensures words c.in-Ok.matches c.in-Ok.ensures.kinds
    c.in-Ok.ensures.matches c.in-Some.name.now rows
    (sym c.in-Some.ensures.name) (sym c.in-Some.ensures.rows) in
    subst (λ (name : Text). Gives words name rows) (names_decide words _ rows named not_trace not_check) named

pub returns-then-eq-clause-asked : goal.returns-then-eq-clause-asked
returns-then-eq-clause-asked c =
    IfOk-weaker c.trace_of.result _ _ (λ asked is. (_, inr (inr (as_trace c, is)))) c.trace_of.ensures.asked

pub returns-then-eq-clause-stop : goal.returns-then-eq-clause-stop
returns-then-eq-clause-stop c =
    IfErr-weaker c.trace_of.result _ _
    (stops_by_limits _ _ (λ fault is. record { rows = _; refused = inr (inr (as_trace c, is)) }))
    c.trace_of.ensures.stop

pub returns-then-eq-2-clause-asked : goal.returns-then-eq-2-clause-asked
returns-then-eq-2-clause-asked c =
    IfOk-weaker c.check_of.result _ _ (λ asked is. (_, inr (inl (as_check c, is)))) c.check_of.ensures.asked

pub returns-then-eq-2-clause-stop : goal.returns-then-eq-2-clause-stop
returns-then-eq-2-clause-stop c =
    IfErr-weaker c.check_of.result _ _
    (stops_by_limits _ _ (λ fault is. record { rows = _; refused = inr (inl (as_check c, is)) }))
    c.check_of.ensures.stop

pub returns-clause-asked : goal.returns-clause-asked
returns-clause-asked c = IfOk-weaker c.decide_of.result _ _ (λ asked is. (_, inl (as_decide c, is)))
    c.decide_of.ensures.asked

pub returns-clause-stop : goal.returns-clause-stop
returns-clause-stop c =
    IfErr-weaker c.decide_of.result _ _
    (stops_by_limits _ _ (λ fault is. record { rows = _; refused = inl (as_decide c, is) }))
    c.decide_of.ensures.stop
