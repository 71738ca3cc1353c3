-- The request of the program's words, and the reasons for refusing them: this project's own.
use Rattle.std.specs.Prelude.{◌≡◌, ◌⊎◌, ℕ, Bool, true, List, [], ◌∷◌, Option, Some, None, codes, cond}
use Rattle.std.specs.Prelude.{◌||◌, false, is_some, option_map}
use Rattle.std.specs.String.{string_bytes}
use Rattle.clap.specs.Simple.{new_shape}
use Rattle.clap.specs.Words.{App, Rule, Text, fault_of, first_of, matches_of, new_rule}
use Rattle.bb_machine.specs.Column.{IsColumn}
use Rattle.bb_machine.specs.Limits.{IsAccepted}
use Rattle.bb_machine.specs.Machine.{Table, IsMachine, text}
use Rattle.bb_command.specs.Command.{IsLimitsStop, IsWordsStop, is_given, list_bounds}
use Rattle.bb_command.specs.CommandLine.{by_default, number_rule, positional_rule, switch_rule}
use Rattle.bb_cover.specs.declared.task.Form.{Form}
use Rattle.bb_cover.specs.declared.task.Form.TheVariants.{Skeleton, Verdicts}
use Rattle.cover.specs.declared.command.Asked.{Asked}
use Rattle.cover.specs.declared.command.Refusal.{Refusal}
use Rattle.cover.specs.declared.command.Refusal.TheVariants.{Below, Common, Line}

-- an option with a text, as `--below MACHINE`
abbrev pub text_rule : Text → Rule
text_rule name = record (new_rule name) { long = Some name; value_names = 1 }

-- --cells N
abbrev pub cells_rule : Rule
cells_rule = by_default (codes "67108864") (number_rule (codes "cells"))

-- cover [--steps N] [--cells N] [--depth N] [--nodes N] [--below MACHINE] [--skeleton] [--assume FILE]
-- [--line MACHINE] [--lines] [FILE]; a limit that isn't given is the greatest
abbrev pub command_line : App
command_line = record {
  top = record (new_shape (codes "cover")) {
    has_version = true;
    rules = by_default (codes "1000000000000") (number_rule (codes "steps"))
        ∷ cells_rule
        ∷ by_default (codes "10000") (number_rule (codes "depth"))
        ∷ by_default (codes "1000000000000") (number_rule (codes "nodes"))
        ∷ text_rule (codes "below")
        ∷ switch_rule (codes "skeleton")
        ∷ text_rule (codes "assume")
        ∷ text_rule (codes "line")
        ∷ switch_rule (codes "lines")
        ∷ positional_rule (codes "file")
        ∷ [];
  };
  subs = [];
}

-- with --skeleton, a line may stand for a shard
abbrev pub form_by : Bool → Form
form_by is_skeleton = cond is_skeleton Skeleton Verdicts

-- the machine with this text, if one is given
abbrev pub IsGivenMachine : Option Text → Option Table → Type 0
IsGivenMachine None None = Unit {0}
IsGivenMachine None (Some table) = ⊥
IsGivenMachine (Some given) None = ⊥
IsGivenMachine (Some given) (Some table) = IsMachine table × (text table ≡ given)

-- the words are a command line, with the list of this file, the walk that it has to be, and the file of the
-- machines that are assumed never to halt, of which none is read yet; no line is sought yet; with --lines the
-- list is one of machines
pub record IsAskedBy (words : List Text) (asked : Asked) : Type 0 where
  pub no_fault : fault_of command_line words ≡ []
  pub limits : asked.task.limits ≡ list_bounds (matches_of command_line words)
  pub below : IsGivenMachine (first_of (codes "below") (matches_of command_line words)) asked.task.below
  pub form : asked.task.form ≡ form_by (is_given (codes "skeleton") (matches_of command_line words))
  pub unread : asked.task.assumed.items ≡ []
  pub unsought : asked.task.sought ≡ None
  pub assume : option_map string_bytes asked.assume ≡ first_of (codes "assume") (matches_of command_line words)
  pub line : IsGivenMachine (first_of (codes "line") (matches_of command_line words)) asked.line
  pub lines : asked.lines ≡ is_given (codes "lines") (matches_of command_line words)
  pub file : option_map string_bytes asked.file ≡ first_of (codes "file") (matches_of command_line words)

-- a machine to begin at, one whose line is sought, shards, or assumed machines: all for lists of verdicts
abbrev pub is_skeleton : Form → Bool
is_skeleton Verdicts = false
is_skeleton Skeleton = true

abbrev pub names_walk : Asked → Bool
names_walk asked = is_some asked.task.below || is_some asked.line || is_skeleton asked.task.form
    || is_some asked.assume

-- a text is given, and no machine has it: this is the column of its first error
abbrev pub IsTextRefused : Option Text → ℕ → Type 0
IsTextRefused None column = ⊥
IsTextRefused (Some given) column = IsColumn given column

-- why nothing is done: the words give nothing; or they are a command line, and its limits are refused; or the
-- limits are accepted, and the machine to begin at is refused; or that one isn't, and the one whose line is
-- sought is
abbrev pub IsStopOf : List Text → Refusal → Type 0
IsStopOf words (Common stop) = IsWordsStop (fault_of command_line words) stop
    ⊎ ((fault_of command_line words ≡ []) × IsLimitsStop (list_bounds (matches_of command_line words)) stop)
IsStopOf words (Below refused) = (fault_of command_line words ≡ [])
    × IsAccepted (list_bounds (matches_of command_line words))
    × IsTextRefused (first_of (codes "below") (matches_of command_line words)) refused.column
IsStopOf words (Line refused) = (fault_of command_line words ≡ [])
    × IsAccepted (list_bounds (matches_of command_line words))
    × ((below : Option Table) × IsGivenMachine (first_of (codes "below") (matches_of command_line words)) below)
    × IsTextRefused (first_of (codes "line") (matches_of command_line words)) refused.column
