use Rattle.std.proofs.Common.{◌∙◌, refl, ap}
use Rattle.std.specs.Prelude.{[], unwrap_or}
use Rattle.clap.specs.Words.{found_of}
use Rattle.clap.proofs.WalkLemmas.{first_value-rows}
use Rattle.bb_command.proofs.CommandValues.{text_or}
use Rattle.bb_command.proofs.command.trace_of.Goals as goal

pub returns-clause-asked : goal.returns-clause-asked
returns-clause-asked c = record {
  work =
      c.in_ok-from_str.ensures.ok
      ∙ ap (λ text. text.now) c.unwrap_or-text.ensures
      ∙ text_or c.get_str.result _
      ∙ ap (λ text. unwrap_or text []) (c.get_str.ensures ∙ first_value-rows (found_of c.args.matches.now) _);
  limits = c.in_ok-limits.ensures.ok ∙ c.trace_numbers.ensures.given;
  file = refl;
}
