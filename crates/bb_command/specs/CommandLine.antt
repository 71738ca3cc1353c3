-- The program's command line, as the command-line crate sees a command: a rule for each option and argument,
-- and a shape for each command. How words are read by it is that crate's `fault_of` and `subcommand_of`. The
-- commands, their options and the defaults are this project's own.
use Rattle.std.specs.Prelude.{[], ◌∷◌, Some, true, false, codes}
use Rattle.clap.specs.Words.{App, Rule, Shape, Text, new_rule}
use Rattle.clap.specs.Simple.{new_shape}
use Rattle.clap.specs.declared.builder.action.ArgAction.TheVariants.{SetTrue}
use Rattle.clap.specs.declared.builder.value_parser.ValueParser.TheVariants.{Unsigned}

-- an option with a number from 0 to 2^64 - 1, as `--steps 5`
abbrev pub number_rule : Text → Rule
number_rule name = record (new_rule name) {
  long = Some name;
  value_names = 1;
  parser = Some (Unsigned 0 18446744073709551615);
}

-- the default of an option
abbrev pub by_default : Text → Rule → Rule
by_default text rule = record rule { defaults = text ∷ [] }

-- --steps N
abbrev pub steps_rule : Rule
steps_rule = by_default (codes "1000000") (number_rule (codes "steps"))

-- --cells N, which all commands have
abbrev pub cells_rule : Rule
cells_rule = by_default (codes "65536") (number_rule (codes "cells"))

-- --depth N
abbrev pub depth_rule : Rule
depth_rule = by_default (codes "300") (number_rule (codes "depth"))

-- --nodes N
abbrev pub nodes_rule : Rule
nodes_rule = by_default (codes "1000000") (number_rule (codes "nodes"))

-- an option without a value
abbrev pub switch_rule : Text → Rule
switch_rule name = record (new_rule name) { long = Some name; action = Some SetTrue }

-- an argument that is known by its position
abbrev pub positional_rule : Text → Rule
positional_rule name = record (new_rule name) { value_names = 1 }

-- what has to be given
abbrev pub must : Rule → Rule
must rule = record rule { required = true }

-- bb decide [--steps N] [--cells N] [--depth N] [--nodes N] [--no-cyclers] [--no-translated] [--no-backward]
-- [FILE]
abbrev pub decide_shape : Shape
decide_shape = record (new_shape (codes "decide")) {
  rules = steps_rule
      ∷ cells_rule
      ∷ depth_rule
      ∷ nodes_rule
      ∷ switch_rule (codes "no-cyclers")
      ∷ switch_rule (codes "no-translated")
      ∷ switch_rule (codes "no-backward")
      ∷ positional_rule (codes "file")
      ∷ [];
}

-- bb check [--steps N] [--cells N] [--depth N] [--nodes N] [FILE]
abbrev pub check_shape : Shape
check_shape = record (new_shape (codes "check")) {
  rules = steps_rule
      ∷ cells_rule
      ∷ depth_rule
      ∷ nodes_rule
      ∷ positional_rule (codes "file")
      ∷ [];
}

-- bb trace --upto N [--cells N] MACHINE
abbrev pub trace_shape : Shape
trace_shape = record (new_shape (codes "trace")) {
  rules = must (number_rule (codes "upto")) ∷ cells_rule ∷ must (positional_rule (codes "machine")) ∷ [];
}

-- bb, with one of the three commands, or --version
abbrev pub command_line : App
command_line = record {
  top = record (new_shape (codes "bb")) {
    is_leaf = false;
    disable_help_subcommand = true;
    has_version = true;
    subcommand_required = true;
  };
  subs = decide_shape ∷ check_shape ∷ trace_shape ∷ [];
}
