-- The request of the program's words, and the reasons for refusing them: this project's own.
use Rattle.std.specs.Prelude.{◌≡◌, ◌⊎◌, List, [], ◌∷◌, codes, option_map, true}
use Rattle.std.specs.String.{string_bytes}
use Rattle.clap.specs.Simple.{new_shape}
use Rattle.clap.specs.Words.{App, Row, Text, fault_of, first_of, matches_of}
use Rattle.bb_machine.specs.Limits.{Bounds}
use Rattle.bb_command.specs.declared.command.Stop.{Stop}
use Rattle.bb_command.specs.Command.{IsLimitsStop, IsWordsStop, is_given, number_of}
use Rattle.bb_command.specs.CommandLine.{cells_rule, positional_rule, steps_rule, switch_rule}
use Rattle.recurrence.specs.declared.command.Asked.{Asked}

-- recurrence [--steps N] [--cells N] [--entries] [FILE]
abbrev pub command_line : App
command_line = record {
  top = record (new_shape (codes "recurrence")) {
    has_version = true;
    rules = steps_rule ∷ cells_rule ∷ switch_rule (codes "entries") ∷ positional_rule (codes "file") ∷ [];
  };
  subs = [];
}

-- the limits of a pair, which has no tree
abbrev pub pair_bounds : List Row → Bounds
pair_bounds rows = record {
  steps = number_of (codes "steps") rows;
  cells = number_of (codes "cells") rows;
  depth = 0;
  nodes = 0;
}

-- the words are a command line, with the list of this file, its limits, and whether entries are printed
pub record IsAskedBy (words : List Text) (asked : Asked) : Type 0 where
  pub no_fault : fault_of command_line words ≡ []
  pub limits : asked.limits ≡ pair_bounds (matches_of command_line words)
  pub entries : asked.entries ≡ is_given (codes "entries") (matches_of command_line words)
  pub file : option_map string_bytes asked.file ≡ first_of (codes "file") (matches_of command_line words)

-- why nothing is done: the words give nothing; or they are a command line, and its limits are refused
abbrev pub IsStopOf : List Text → Stop → Type 0
IsStopOf words stop = IsWordsStop (fault_of command_line words) stop
    ⊎ ((fault_of command_line words ≡ []) × IsLimitsStop (pair_bounds (matches_of command_line words)) stop)
