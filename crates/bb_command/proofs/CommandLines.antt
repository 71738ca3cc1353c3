-- What a parse of the program's command line gives.
use Rattle.std.proofs.Common.{◌≡◌, ◌⊎◌, ◌∙◌, ◌∷◌, Bool, true, false, List, [], Option, Some, None, refl, sym}
use Rattle.std.proofs.Common.{subst, ap, inl, inr, codes, option_map, length, map, get_or}
use Rattle.std.specs.Prelude.{Box, find}
use Rattle.std.specs.Borrow.{Bor}
use Rattle.std.specs.Str.{bytes_eq}
use Rattle.std.specs.Box.{box_value}
use Rattle.clap.specs.declared.parser.matches.SubCommand.{SubCommand}
use Rattle.std.specs.Option.{option_map_or}
use Rattle.clap.specs.Walk.{answers_to, stop_after}
use Rattle.clap.specs.Simple.{argument_words, built, built_leaf, entered, inherited, marked_built}
use Rattle.clap.specs.Simple.{with_leaf_noted, label_of, names_of, rows_at, subcommand_rows}
use Rattle.clap.specs.Words.{App, HasMatchesOf, IsAmong, Kinds, Row, Shape, Text, HasKind, fault_of}
use Rattle.clap.specs.Words.{is_simple, is_simple_and_free, kind_of, subcommand_name_of, subcommand_of}
use Rattle.clap.specs.Words.{subcommand_rows_of}
use Rattle.clap.specs.declared.error.Error.{Error}
use Rattle.clap.specs.declared.error.kind.ErrorKind.{ErrorKind}
use Rattle.clap.specs.declared.parser.matches.ArgMatches.{ArgMatches}
use Rattle.clap.specs.declared.parser.matches.ArgMatches.TheViews.{out-ArgMatches, out-SubCommand}
use Rattle.clap.proofs.OnLiterals.{clap_on_literals}
use Rattle.bb_machine.specs.declared.limits.LimitFault.{LimitFault}
use Rattle.bb_machine.specs.Limits.{Bounds, IsFirstFault}
use Rattle.bb_command.specs.declared.command.Stop.{Stop}
use Rattle.bb_command.specs.declared.command.Stop.TheVariants.{Help, Words, Limits, Memory}
use Rattle.bb_command.specs.Command.{Gives, IsKindStop, IsLimitsStop, IsNumbersStop, IsRefused, IsStopOf}
use Rattle.bb_command.specs.Command.{IsWordsStop, words_meant}
use Rattle.bb_command.specs.CommandLine.{check_shape, command_line, decide_shape, trace_shape}

simple_and_free : is_simple_and_free command_line ≡ true
unfolding clap_on_literals
simple_and_free = refl

simple : is_simple command_line ≡ true
unfolding clap_on_literals
simple = refl

-- no kind of error is there where the words are taken
pub taken : (app : App) → app ≡ command_line → (words : List Text)
    → (is_simple_and_free app ≡ true → fault_of app words ≡ []) → fault_of command_line words ≡ []
taken app is words free =
    subst (λ (a : App). fault_of a words ≡ []) is (free (ap is_simple_and_free is ∙ simple_and_free))

-- the subcommand that was met, with its rows, by its parts
both_parts : (o : Option (Text × List Row)) (name : Text) (rows : List Row)
    → option_map (λ p. p.0) o ≡ Some name → option_map (λ p. p.1) o ≡ Some rows → o ≡ Some (name, rows)
both_parts None name rows a b = cc
both_parts (Some p) name rows a b =
    let is_name : p.0 ≡ name = cc in
    let are_rows : p.1 ≡ rows = cc in
    rw (← is_name, ← are_rows) refl

name_by_rows : (m : ArgMatches) → subcommand_name_of m ≡ option_map (λ p. p.0) (subcommand_rows_of m)
name_by_rows m = go (out-ArgMatches m).subcommand
  where
    go : {Z : Type 0} (o : Option (Box SubCommand Z))
        → option_map (λ b. (out-SubCommand (box_value b)).name.now) o ≡ option_map (λ p. p.0)
        (subcommand_rows o)
    go None = refl
    go (Some b) = refl

pub gives : (app : App) → app ≡ command_line → (words : List Text) (m : ArgMatches)
    → (is_simple_and_free app ≡ true → fault_of app words ≡ []) → HasMatchesOf app words m
    → (name : Text) (rows : List Row) → subcommand_name_of m ≡ Some name
    → option_map (λ p. p.1) (subcommand_rows_of m) ≡ Some rows
    → Gives words name rows
gives app is words m free matches name rows named valued = record {
  no_fault = taken app is words free;
  values =
      sym ((matches (ap is_simple is ∙ simple)).1 ∙ ap (λ (a : App). subcommand_of a words) is)
      ∙ both_parts (subcommand_rows_of m) name rows (sym (name_by_rows m) ∙ named) valued;
}

-- ---- a command line names one of the three commands

-- of three commands, the one that answers to a word is one of them
one_name : (a b d : Shape) (q : Text × List Text) (p : Text × List Row)
    → option_map (λ s. rows_at s q.1) (find (λ s. answers_to q.0 (label_of s)) (a ∷ b ∷ d ∷ [])) ≡ Some p
    → (p.0 ≡ a.name) ⊎ ((p.0 ≡ b.name) ⊎ (p.0 ≡ d.name))
one_name a b d q p e =
    go (answers_to q.0 (label_of a)) refl (answers_to q.0 (label_of b)) refl (answers_to q.0 (label_of d))
    refl
  where
    go : (x : Bool) → answers_to q.0 (label_of a) ≡ x → (y : Bool) → answers_to q.0 (label_of b) ≡ y
        → (z : Bool) → answers_to q.0 (label_of d) ≡ z → (p.0 ≡ a.name) ⊎ ((p.0 ≡ b.name) ⊎ (p.0 ≡ d.name))
    go true is_a y is_b z is_d = inl (sym (ap (λ o. option_map_or (λ r. r.0) o []) (rw is_a at e)))
    go false is_a true is_b z is_d =
        inr (inl (sym (ap (λ o. option_map_or (λ r. r.0) o []) (rw (is_a, is_b) at e))))
    go false is_a false is_b true is_d =
        inr (inr (sym (ap (λ o. option_map_or (λ r. r.0) o []) (rw (is_a, is_b, is_d) at e))))
    go false is_a false is_b false is_d = let none = rw (is_a, is_b, is_d) at e in cc

named : (stop : Option (Text × List Text)) (p : Text × List Row) → entered (built command_line) stop ≡ Some p
    → (p.0 ≡ codes "decide") ⊎ ((p.0 ≡ codes "check") ⊎ (p.0 ≡ codes "trace"))
named None p e = cc
named (Some q) p e =
    let top = with_leaf_noted (marked_built command_line.top) in
    one_name (built_leaf (inherited top decide_shape)) (built_leaf (inherited top check_shape))
    (built_leaf (inherited top trace_shape)) q p e

-- a command other than `trace` is `decide` or `check`
pub names_a_list : (words : List Text) (name : Text) (rows : List Row) → Gives words name rows
    → (name ≡ codes "trace" → ⊥) → (name ≡ codes "decide") ⊎ (name ≡ codes "check")
names_a_list words name rows given not_trace =
    elim (named (stop_after (built command_line).top.rules (names_of (built command_line))
    (argument_words command_line words)) (name, rows) given.values) [
      | inl is ↦ inl is
      | inr other ↦ elim other [ inl is ↦ inr is | inr is ↦ absurd (not_trace is) ]
    ]

-- a command other than `trace` and `check` is `decide`
pub names_decide : (words : List Text) (name : Text) (rows : List Row) → Gives words name rows
    → (name ≡ codes "trace" → ⊥) → (name ≡ codes "check" → ⊥) → name ≡ codes "decide"
names_decide words name rows given not_trace not_check =
    elim (names_a_list words name rows given not_trace) [ inl is ↦ is | inr is ↦ absurd (not_check is) ]

-- limits that are refused, as a stop
pub stops_by_limits : (words : List Text) (bounds : Bounds)
    → ((fault : LimitFault) → IsFirstFault bounds fault → IsRefused words (Limits fault)) → (stop : Stop)
    → (stop ≡ Memory) ⊎ IsLimitsStop bounds stop → IsStopOf words stop
stops_by_limits words bounds refused (Help text) (inl h) = cc
stops_by_limits words bounds refused (Help text) (inr h) = absurd h
stops_by_limits words bounds refused (Words text) (inl h) = cc
stops_by_limits words bounds refused (Words text) (inr h) = absurd h
stops_by_limits words bounds refused (Limits fault) (inl h) = cc
stops_by_limits words bounds refused (Limits fault) (inr h) = refused fault h
stops_by_limits words bounds refused Memory h = tt

-- an error of a parse, as a stop

pub stops_words : (kinds : Kinds) (error : Error) → HasKind kinds error → (stop : Stop)
    → IsKindStop (kind_of error) stop → IsWordsStop kinds stop
stops_words kinds error (inl memory) (Help text) (inl is_help) = cc
stops_words kinds error (inl memory) (Help text) (inr is_version) = cc
stops_words kinds error (inr among) (Help text) (inl is_help) =
    inl (subst (λ (k : ErrorKind). IsAmong k kinds) is_help among)
stops_words kinds error (inr among) (Help text) (inr is_version) =
    inr (subst (λ (k : ErrorKind). IsAmong k kinds) is_version among)
stops_words kinds error (inl memory) (Words text) is_other = absurd (is_other.2 memory)
stops_words kinds error (inr among) (Words text) is_other = (kind_of error, among, is_other.0, is_other.1)
stops_words kinds error h (Limits fault) never = absurd never
stops_words kinds error h Memory is_memory = tt

pub no_numbers_by_kind : (app : App) → app ≡ command_line → (words : List Text) (error : Error)
    → (is_simple_and_free app ≡ true → HasKind (fault_of app words) error)
    → (stop : Stop) → IsKindStop (kind_of error) stop → IsNumbersStop words stop
no_numbers_by_kind app is words error kinds stop kind =
    stops_words (fault_of command_line words) error
    (subst (λ (a : App). HasKind (fault_of a words) error) is
    (kinds (ap is_simple_and_free is ∙ simple_and_free))) stop kind

pub stops_by_kind : (app : App) → app ≡ command_line → (words : List Text) (error : Error)
    → (is_simple_and_free app ≡ true → HasKind (fault_of app words) error)
    → (stop : Stop) → IsKindStop (kind_of error) stop → IsStopOf words stop
stops_by_kind app is words error kinds (Help text) kind =
    no_numbers_by_kind app is words error kinds (Help text) kind
stops_by_kind app is words error kinds (Words text) kind =
    no_numbers_by_kind app is words error kinds (Words text) kind
stops_by_kind app is words error kinds (Limits fault) kind = absurd kind
stops_by_kind app is words error kinds Memory kind = tt

-- ---- help that is asked for by a word

-- the second of two or three words isn't `help`
abbrev pub IsNotHelp : Bor Text → List (Bor Text) → Type 0
IsNotHelp other words = bytes_eq (get_or words 1 other).now (codes "help") ≡ false

-- words that don't ask for help by a word are meant as they stand
pub as_they_stand : (other : Bor Text) (words : List (Bor Text)) → (length words ≡ 2 → IsNotHelp other words)
    → (length words ≡ 3 → IsNotHelp other words)
    → words_meant (map (λ word. word.now) words) ≡ map (λ word. word.now) words
as_they_stand other [] two three = refl
as_they_stand other (name ∷ []) two three = refl
as_they_stand other (name ∷ word ∷ []) two three = rw (two refl) refl
as_they_stand other (name ∷ word ∷ command ∷ []) two three = rw (three refl) refl
as_they_stand other (name ∷ word ∷ command ∷ more ∷ rest) two three = refl
