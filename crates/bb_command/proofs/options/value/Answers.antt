use Rattle.std.proofs.Common.{◌∙◌}
use Rattle.std.specs.Str.Parse.{ParsesUnsigned, ExplainsUnsignedError, HasUnsignedDigitsIfOk}
use Rattle.clap.specs.Words.{found_of}
use Rattle.bb_command.proofs.CommandValues.{number_by_rows}
use Rattle.bb_command.proofs.options.value.Goals as goal

pub returns : goal.returns
returns c =
    c.unwrap_or.ensures
    ∙ number_by_rows (λ t x. ParsesUnsigned 64 10 t x × ExplainsUnsignedError 10 t x
    × HasUnsignedDigitsIfOk t x) (λ t x g. g.0)
    (found_of c.args.matches.now) c.args.name.now c.get_one.result c.get_one.ensures.none
    c.get_one.ensures.value
