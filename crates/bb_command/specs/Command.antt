-- The request of a command line, and the reasons for refusing one: this project's own.
use Rattle.std.specs.Prelude.{◌≡◌, ◌≢◌, ◌⊎◌, ℕ, Bool, false, true, not, List, [], ◌∷◌, Some, None, codes}
use Rattle.std.specs.Prelude.{unwrap_or}
use Rattle.std.specs.Prelude.{option_map, if◌then◌else◌}
use Rattle.std.specs.Option.{option_map_or}
use Rattle.std.specs.Str.{bytes_eq}
use Rattle.std.specs.Str.Parse.{digits_value, without_leading_plus}
use Rattle.std.specs.String.{string_bytes}
use Rattle.clap.specs.Words.{IsAmong, Kinds, Row, Text, fault_of, first_of, one_of, subcommand_of}
use Rattle.clap.specs.ValueTests.{is_unsigned_in}
use Rattle.clap.specs.declared.error.kind.ErrorKind.{ErrorKind}
use Rattle.clap.specs.declared.error.kind.ErrorKind.TheVariants.{DisplayHelp, DisplayVersion, OutOfMemory}
use Rattle.bb_machine.specs.Limits.{Bounds, IsFirstFault}
use Rattle.bb_machine.specs.declared.plan.Plan.{Plan}
use Rattle.bb_command.specs.declared.command.Asked.{Asked}
use Rattle.bb_command.specs.declared.command.Numbers.{Numbers}
use Rattle.bb_command.specs.declared.command.Stop.{Stop}
use Rattle.bb_command.specs.declared.command.Stop.TheVariants.{Help, Words, Limits, Memory}
use Rattle.bb_command.specs.declared.command.Work.{Work}
use Rattle.bb_command.specs.declared.command.Work.TheVariants.{Decide, Check, Trace}
use Rattle.bb_command.specs.CommandLine.{command_line}

-- ---- what the words say

-- the words as they are meant: `bb help` stands for `bb --help`, `bb help COMMAND` for `bb COMMAND --help`
abbrev pub words_meant : List Text → List Text
words_meant (name ∷ word ∷ []) =
    if bytes_eq word (codes "help") then name ∷ codes "--help" ∷ [] else name ∷ word ∷ []
words_meant (name ∷ word ∷ command ∷ []) =
    if bytes_eq word (codes "help") then name ∷ command ∷ codes "--help" ∷ []
    else name ∷ word ∷ command ∷ []
words_meant words = words

-- the words are a command line and name this command, and the rows have the values of its options and
-- arguments
pub record Gives (words : List Text) (command : Text) (rows : List Row) : Type 0 where
  pub no_fault : fault_of command_line words ≡ []
  pub values : subcommand_of command_line words ≡ Some (command, rows)

-- the number with this text: digits, after an optional `+`. 0 for any other text, which no command line has
-- there
abbrev pub number_in : Text → ℕ
number_in text =
    if is_unsigned_in 0 18446744073709551615 text then digits_value 10 (without_leading_plus text) else 0

-- the number that is given for an option
abbrev pub number_of : Text → List Row → ℕ
number_of name rows = option_map_or number_in (one_of name rows) 0

-- an option without a value is given
abbrev pub is_given : Text → List Row → Bool
is_given name rows = option_map_or (λ text. bytes_eq text (codes "true")) (one_of name rows) false

-- ---- the three commands

-- the limits of a list: the four numbers that are given, or their defaults
abbrev pub list_bounds : List Row → Bounds
list_bounds rows = record {
  steps = number_of (codes "steps") rows;
  cells = number_of (codes "cells") rows;
  depth = number_of (codes "depth") rows;
  nodes = number_of (codes "nodes") rows;
}

-- each decider is on unless it is left out
abbrev pub decide_plan : List Row → Plan
decide_plan rows = record {
  cyclers = not (is_given (codes "no-cyclers") rows);
  translated = not (is_given (codes "no-translated") rows);
  backward = not (is_given (codes "no-backward") rows);
}

-- the limits of a trace: its last step is the limit of steps, and it goes over no tree
abbrev pub trace_bounds : List Row → Bounds
trace_bounds rows = record {
  steps = number_of (codes "upto") rows;
  cells = number_of (codes "cells") rows;
  depth = 0;
  nodes = 0;
}

-- verdicts for a list, by this plan, under these limits, from this file
pub record AsksToDecide (rows : List Row) (asked : Asked) : Type 0 where
  pub work : asked.work ≡ Decide (decide_plan rows)
  pub limits : asked.limits ≡ list_bounds rows
  pub file : option_map string_bytes asked.file ≡ first_of (codes "file") rows

-- answers to a list, under these limits, from this file
pub record AsksToCheck (rows : List Row) (asked : Asked) : Type 0 where
  pub work : asked.work ≡ Check
  pub limits : asked.limits ≡ list_bounds rows
  pub file : option_map string_bytes asked.file ≡ first_of (codes "file") rows

-- a trace of the machine with this text
abbrev pub IsTraceOf : Text → Work → Type 0
IsTraceOf text (Trace machine) = string_bytes machine ≡ text
IsTraceOf text (Decide plan) = ⊥
IsTraceOf text Check = ⊥

-- a trace of the machine with the text that is given, under these limits; it reads no file
pub record AsksToTrace (rows : List Row) (asked : Asked) : Type 0 where
  pub work : IsTraceOf (unwrap_or (first_of (codes "machine") rows) []) asked.work
  pub limits : asked.limits ≡ trace_bounds rows
  pub file : asked.file ≡ None

-- the request of the words
abbrev pub IsAskedBy : List Text → Asked → Type 0
IsAskedBy words asked = (rows : List Row)
    × ((Gives words (codes "decide") rows × AsksToDecide rows asked)
    ⊎ ((Gives words (codes "check") rows × AsksToCheck rows asked)
    ⊎ (Gives words (codes "trace") rows × AsksToTrace rows asked)))

-- numbers as bounds, accepted or not
abbrev pub bounds_of : Numbers → Bounds
bounds_of numbers = record {
  steps = numbers.steps;
  cells = numbers.cells;
  depth = numbers.depth;
  nodes = numbers.nodes;
}

-- the words name this command, and these are the numbers that they give for its limits, accepted or not
abbrev pub GivesNumbers : List Text → Text → (List Row → Bounds) → Bool → Numbers → Type 0
GivesNumbers words command bounds is_of_trace numbers = (rows : List Row) × Gives words command rows
    × (bounds_of numbers ≡ bounds rows) × (numbers.is_of_trace ≡ is_of_trace)

-- the numbers of the words for the limits of their request, accepted or not
abbrev pub AreGivenBy : List Text → Numbers → Type 0
AreGivenBy words numbers = GivesNumbers words (codes "decide") list_bounds false numbers
    ⊎ (GivesNumbers words (codes "check") list_bounds false numbers
    ⊎ GivesNumbers words (codes "trace") trace_bounds true numbers)

-- ---- why nothing is done

-- why these limits are refused: their first fault
abbrev pub IsLimitsStop : Bounds → Stop → Type 0
IsLimitsStop bounds (Limits fault) = IsFirstFault bounds fault
IsLimitsStop bounds (Help text) = ⊥
IsLimitsStop bounds (Words text) = ⊥
IsLimitsStop bounds Memory = ⊥

-- the words are a command line, and their request is refused
pub record IsRefused (words : List Text) (stop : Stop) : Type 0 where
  pub rows : List Row
  pub refused : (Gives words (codes "decide") rows × IsLimitsStop (list_bounds rows) stop)
      ⊎ ((Gives words (codes "check") rows × IsLimitsStop (list_bounds rows) stop)
      ⊎ (Gives words (codes "trace") rows × IsLimitsStop (trace_bounds rows) stop))

-- the reason for a stop, by the kinds of error of the words: a request for help or the version, a wrong
-- command line, or an allocation failure
abbrev pub IsWordsStop : Kinds → Stop → Type 0
IsWordsStop kinds (Help text) = IsAmong DisplayHelp kinds ⊎ IsAmong DisplayVersion kinds
IsWordsStop kinds (Words text) =
    (kind : ErrorKind) × IsAmong kind kinds × (kind ≢ DisplayHelp) × (kind ≢ DisplayVersion)
IsWordsStop kinds (Limits fault) = ⊥
IsWordsStop kinds Memory = Unit {0}

-- why the words give no numbers; limits that would be refused are no cause
abbrev pub IsNumbersStop : List Text → Stop → Type 0
IsNumbersStop words stop = IsWordsStop (fault_of command_line words) stop

-- the reason for doing nothing: an error of the words, or a refused request
abbrev pub IsStopOf : List Text → Stop → Type 0
IsStopOf words (Help text) = IsNumbersStop words (Help text)
IsStopOf words (Words text) = IsNumbersStop words (Words text)
IsStopOf words (Limits fault) = IsRefused words (Limits fault)
IsStopOf words Memory = Unit {0}

-- the stop that an error of this kind is
abbrev pub IsKindStop : ErrorKind → Stop → Type 0
IsKindStop kind (Help text) = (kind ≡ DisplayHelp) ⊎ (kind ≡ DisplayVersion)
IsKindStop kind (Words text) = (kind ≢ DisplayHelp) × (kind ≢ DisplayVersion) × (kind ≢ OutOfMemory)
IsKindStop kind (Limits fault) = ⊥
IsKindStop kind Memory = kind ≡ OutOfMemory

-- the exit status where nothing is done
abbrev pub stop_status : Stop → ℕ
stop_status (Help text) = 0
stop_status (Words text) = 2
stop_status (Limits fault) = 2
stop_status Memory = 3
