-- What a parse by the command line of a program without subcommands gives.
use Rattle.std.proofs.Common.{◌≡◌, ◌∙◌, false, true, List, [], ap, ap₂, subst}
use Rattle.clap.specs.Words.{AddsArg, App, HasKind, HasMatchesOf, Rule, Text, app_of, fault_of, found_of}
use Rattle.clap.specs.Words.{is_simple, is_simple_and_free, kind_of, matches_of, rows_of, rule_of, with_rule}
use Rattle.clap.specs.declared.builder.arg.Arg.{Arg}
use Rattle.clap.specs.declared.builder.command.Command.{Command}
use Rattle.clap.specs.declared.error.Error.{Error}
use Rattle.clap.specs.declared.parser.matches.ArgMatches.{ArgMatches}
use Rattle.bb_command.specs.Command.{IsKindStop, IsWordsStop}
use Rattle.bb_command.specs.declared.command.Stop.{Stop}
use Rattle.bb_command.proofs.CommandLines.{stops_words}

-- how a command line grows by an argument
pub with_arg : {old new : Command} {arg : Arg} {app : App} {rule : Rule} → AddsArg old arg new
    → app_of old ≡ app → rule_of arg ≡ rule → arg.global ≡ false → app_of new ≡ with_rule app rule
with_arg adds is_app is_rule local = adds.shape local
    ∙ ap₂ (λ (a : App) (r : Rule). with_rule a r) is_app is_rule

module _ (line : App) (simple : is_simple line ≡ true) (free : is_simple_and_free line ≡ true) (app : App)
    (is : app ≡ line) (words : List Text) where
  -- words without a fault are those of the command line
  pub no_fault : (is_simple_and_free app ≡ true → fault_of app words ≡ []) → fault_of line words ≡ []
  no_fault found = subst (λ (a : App). fault_of a words ≡ []) is (found (ap is_simple_and_free is ∙ free))

  -- the rows that are read are those of the words
  pub rows_given : (m : ArgMatches) → HasMatchesOf app words m → rows_of (found_of m) ≡ matches_of line words
  rows_given m matches = (matches (ap is_simple is ∙ simple)).0 ∙ ap (λ (a : App). matches_of a words) is

  -- an error of a parse is a stop by the words
  pub words_stop : (error : Error) → (is_simple_and_free app ≡ true → HasKind (fault_of app words) error)
      → (stop : Stop) → IsKindStop (kind_of error) stop → IsWordsStop (fault_of line words) stop
  words_stop error kinds stop kind =
      stops_words (fault_of line words) error
      (subst (λ (a : App). HasKind (fault_of a words) error) is (kinds (ap is_simple_and_free is ∙ free)))
      stop kind
