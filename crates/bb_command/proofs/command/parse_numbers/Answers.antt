use Rattle.std.proofs.Common.{◌≡◌, ◌∙◌, ℕ, Bor, List, ap, codes, inl, inr, map, rules, subst, sym}
use Rattle.std.specs.Prelude.{Some}
use Rattle.clap.specs.Words.{Text, found_of, rows_of}
use Rattle.bb_command.specs.Command.{Gives}
use Rattle.bb_command.proofs.CommandLines.{gives, names_a_list, no_numbers_by_kind}
use Rattle.bb_command.proofs.command.parse_numbers.Goals as goal

pub returns-in-Err-clause-stop : goal.returns-in-Err-clause-stop
returns-in-Err-clause-stop c = no_numbers_by_kind _ c.in_ok-program.ensures _ c.in-Err.error
    c.in-Err.ensures.kinds _ c.in_ok-stop_of_words-in-Err.ensures

pub returns-then-eq-clause-given : goal.returns-then-eq-clause-given
returns-then-eq-clause-given c =
    let is_trace : c.in-Some.name.now ≡ codes "trace" = search rules in
    let given = gives _ c.in_ok-program.ensures _ c.in-Ok.matches c.in-Ok.ensures.kinds
    c.in-Ok.ensures.matches _ _
    (sym c.in-Some.ensures.name ∙ ap Some is_trace) (sym c.in-Some.ensures.rows) in
    inr (inr (_, given, c.trace_numbers.ensures.given, c.trace_numbers.ensures.trace))

pub returns-clause-given : goal.returns-clause-given
returns-clause-given c =
    let words = map (λ (word : Bor (List ℕ)). word.now) c.args.words.now in
    let rows = rows_of (found_of c.in-Some.values.now) in
    let not_trace : c.in-Some.name.now ≡ codes "trace" → ⊥ = search rules in
    let named = gives _ c.in_ok-program.ensures words c.in-Ok.matches c.in-Ok.ensures.kinds
    c.in-Ok.ensures.matches
    c.in-Some.name.now rows (sym c.in-Some.ensures.name) (sym c.in-Some.ensures.rows) in
    elim (names_a_list words _ rows named not_trace) [
      | inl is ↦ inl (
        _,
        subst (λ (name : Text). Gives words name rows) is named,
        c.list_numbers.ensures.given,
        c.list_numbers.ensures.trace,
      )
      | inr is ↦ inr (inl (
        _,
        subst (λ (name : Text). Gives words name rows) is named,
        c.list_numbers.ensures.given,
        c.list_numbers.ensures.trace,
      ))
    ]
