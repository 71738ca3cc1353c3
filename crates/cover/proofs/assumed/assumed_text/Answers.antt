use Rattle.std.proofs.Common.{◌++◌, List, ℕ, Some, ap, codes, sym, ◌∙◌}
use Rattle.std.proofs.lemmas.Bool.Decides.{Decides-eqb}
use Rattle.std.proofs.lemmas.Slice.Eq.{strip_suffix_is}
use Rattle.cover.proofs.assumed.assumed_text.Goals as goal

pub returns-in-Ok-clause-found : goal.returns-in-Ok-clause-found
returns-in-Ok-clause-found c =
    let found = c.in-Ok.ensures.found in
    let whole = strip_suffix_is Decides-eqb c.args.line.now c.as_slice.result.now (Some c.in_ok-words.words)
    c.in_ok-words.ensures.cases in
    record {
      table = c.in-Ok.machine;
      machine = found.0;
      words_are = sym c.machine_text.ensures;
      whole = ap (λ (x : List ℕ). x ++ codes " nonhalt") (c.machine_text.ensures ∙ found.1)
          ∙ sym (whole ∙ ap (λ (x : List ℕ). c.in_ok-words.words.now ++ x) c.as_slice.ensures);
    }
