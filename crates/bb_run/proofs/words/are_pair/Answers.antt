use Rattle.std.proofs.Common.{Some, ◌<◌, length, sym, ◌∙◌, arith}
use Rattle.std.proofs.lemmas.Bool.{eqb-true}
use Rattle.std.proofs.lemmas.Bool.Decides.{Decides-eqb}
use Rattle.std.proofs.lemmas.Slice.Eq.{strip_prefix_is}
use Rattle.bb_run.proofs.VerdictWords.{words_of_pair}
use Rattle.bb_run.proofs.words.are_pair.Goals as goal

pub returns : goal.returns
returns c = λ is.
    let begins = strip_prefix_is Decides-eqb c.args.words.now c.args.first.now (Some c.in-Some.numbers)
    c.in-Some.ensures.cases in
    let pair = c.in-Some-after_pair.ensures in
    let rest = c.in-Some-after_pair.rest.now in
    let none : length rest < 1 = omega (arith, eqb-true (length rest) 0 (sym c.is_empty.ensures ∙ is)) in (
      pair.0,
      pair.1,
      pair.2,
      pair.3,
      words_of_pair c.args.first.now c.args.words.now c.in-Some.numbers.now rest pair.0 pair.1 begins
          pair.4 none,
    )
