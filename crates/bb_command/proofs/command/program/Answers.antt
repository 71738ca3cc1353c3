use Rattle.std.proofs.Common.{◌≡◌, [], true, codes, rules}
use Rattle.std.proofs.lemmas.Result.{IfOk-weaker}
use Rattle.clap.specs.Simple.{new_shape}
use Rattle.clap.specs.Words.{App, app_of}
use Rattle.bb_command.proofs.CommandShapes.{with_command}
use Rattle.bb_command.proofs.command.program.Goals as goal

-- the command line without its commands
abbrev bare : App
bare = record {
  top = record (new_shape (codes "bb")) {
    disable_help_subcommand = true;
    has_version = true;
    subcommand_required = true;
  };
  subs = [];
}

is_bare : (c : goal.After-subcommand-3) → app_of c.subcommand_required.result ≡ bare
is_bare c = search rules

pub returns : goal.returns
returns c =
    let one = with_command c.in_ok-subcommand.ensures (is_bare c)
    c.in_ok-decide_command.ensures.shape c.in_ok-decide_command.ensures.local in
    let two = with_command c.in_ok-subcommand-2.ensures one
    c.in_ok-check_command.ensures.shape c.in_ok-check_command.ensures.local in
    IfOk-weaker c.subcommand-3.result _ _
    (λ command adds.
    with_command adds two c.in_ok-trace_command.ensures.shape c.in_ok-trace_command.ensures.local)
    c.subcommand-3.ensures
