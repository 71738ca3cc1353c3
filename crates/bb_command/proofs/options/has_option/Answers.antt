use Rattle.std.proofs.Common.{◌∙◌}
use Rattle.std.specs.Str.Parse.{ParsesBool}
use Rattle.clap.specs.Words.{found_of}
use Rattle.bb_command.proofs.CommandValues.{given_by_rows}
use Rattle.bb_command.proofs.options.has_option.Goals as goal

pub returns : goal.returns
returns c =
    c.unwrap_or.ensures
    ∙ given_by_rows ParsesBool (λ t x g. g) (found_of c.args.matches.now) c.args.name.now c.get_one.result
    c.get_one.ensures.none
    c.get_one.ensures.value
