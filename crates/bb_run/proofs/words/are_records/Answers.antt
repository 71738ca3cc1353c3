use Rattle.std.proofs.Common.{None, Some, ◌<◌, length, sym, ◌∙◌, arith}
use Rattle.std.proofs.lemmas.Bool.{eqb-true}
use Rattle.std.proofs.lemmas.Bool.Decides.{Decides-eqb}
use Rattle.std.proofs.lemmas.Slice.Eq.{strip_prefix_is}
use Rattle.bb_run.proofs.VerdictWords.{words_of_pair, words_of_records}
use Rattle.bb_run.proofs.words.are_records.Goals as goal

pub returns-then-is_empty : goal.returns-then-is_empty
returns-then-is_empty c = λ is.
    let begins = strip_prefix_is Decides-eqb c.args.words.now c.args.first.now (Some c.in-Some.numbers)
    c.in-Some.ensures.cases in
    let pair = c.in-Some-after_pair.ensures in
    let rest = c.in-Some-after_pair.rest.now in
    let none : length rest < 1 =
    omega (arith, eqb-true (length rest) 0 (sym c.is_empty.ensures ∙ c.if-is_empty.true)) in (
      pair.0,
      pair.1,
      None,
      pair.2,
      pair.3,
      tt,
      words_of_pair c.args.first.now c.args.words.now c.in-Some.numbers.now rest pair.0 pair.1 begins
          pair.4 none,
    )

pub returns : goal.returns
returns c = λ is.
    let begins = strip_prefix_is Decides-eqb c.args.words.now c.args.first.now (Some c.in-Some.numbers)
    c.in-Some.ensures.cases in
    let pair = c.in-Some-after_pair.ensures in
    let extent = c.in-Some-after_pair-2.ensures in
    let nothing = c.in-Some-after_pair-2.nothing.now in
    let none : length nothing < 1 =
    omega (arith, eqb-true (length nothing) 0 (sym c.is_empty-2.ensures ∙ is)) in (
      pair.0,
      pair.1,
      Some (record { shift = extent.0; length = extent.1 }),
      pair.2,
      pair.3,
      (extent.2, extent.3),
      words_of_records c.args.first.now c.args.words.now c.in-Some.numbers.now c.in-Some-after_pair.rest.now
          c.in-Some-after_space.extent.now nothing pair.0 pair.1 extent.0 extent.1 begins pair.4
          c.in-Some-after_space.ensures extent.4 none,
    )
