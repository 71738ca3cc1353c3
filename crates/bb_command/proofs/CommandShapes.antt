-- How a command's shape grows by an argument.
use Rattle.std.proofs.Common.{◌≡◌, ◌∙◌, ◌++◌, ◌∷◌, [], false, ap, ap₂, refl}
use Rattle.clap.specs.Words.{AddsArg, AddsSubcommand, Rule, Shape, App, app_of, rule_of, shape_of}
use Rattle.clap.specs.Words.{with_subcommand}
use Rattle.clap.specs.declared.builder.arg.Arg.{Arg}
use Rattle.clap.specs.declared.builder.command.Command.{Command}
use Rattle.clap.specs.declared.builder.command.Command.TheViews.{out-Command as fields_of}

-- the command has this shape, and no argument of it is read by its subcommands too
pub record IsLocal (command : Command) (shape : Shape) : Type 0 where
  pub is_shape : shape_of command ≡ shape
  pub no_globals : (fields_of command).has_globals ≡ false

pub with_arg : {old new : Command} {arg : Arg} {shape : Shape} {rule : Rule} → AddsArg old arg new
    → IsLocal old shape → rule_of arg ≡ rule → arg.global ≡ false
    → IsLocal new (record shape { rules = shape.rules ++ rule ∷ [] })
with_arg adds local is_rule not_global = record {
  is_shape =
      ap (λ (a : App). a.top) (adds.shape not_global)
      ∙ ap₂ (λ (s : Shape) (r : Rule). record s { rules = s.rules ++ r ∷ [] }) local.is_shape is_rule;
  no_globals = rw (adds.globals, local.no_globals, not_global) refl;
}

-- how the command line grows by a command
pub with_command : {old new sub : Command} {app : App} {shape : Shape} → AddsSubcommand old sub new
    → app_of old ≡ app → shape_of sub ≡ shape → (fields_of sub).has_globals ≡ false
    → app_of new ≡ with_subcommand app shape
with_command adds is_app is_shape local =
    adds.shape local ∙ ap₂ (λ (a : App) (s : Shape). with_subcommand a s) is_app is_shape
