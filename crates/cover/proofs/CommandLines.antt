-- The program's command line is one of plain options.
use Rattle.std.proofs.Common.{◌≡◌, true, refl}
use Rattle.clap.specs.Words.{is_simple, is_simple_and_free}
use Rattle.clap.proofs.OnLiterals.{clap_on_literals}
use Rattle.cover.specs.CommandLine.{command_line}

pub simple_and_free : is_simple_and_free command_line ≡ true
unfolding clap_on_literals
simple_and_free = refl

pub simple : is_simple command_line ≡ true
unfolding clap_on_literals
simple = refl
