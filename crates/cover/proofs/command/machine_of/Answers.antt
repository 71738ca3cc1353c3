use Rattle.std.proofs.Common.{◌∙◌, Some, None, subst}
use Rattle.clap.specs.Words.{found_of}
use Rattle.clap.proofs.WalkLemmas.{first_value-rows}
use Rattle.bb_machine.specs.Column.{IsColumn}
use Rattle.cover.specs.CommandLine.{IsGivenMachine, IsTextRefused}
use Rattle.cover.proofs.command.machine_of.Goals as goal

pub returns-in-Ok-clause-ok : goal.returns-in-Ok-clause-ok
returns-in-Ok-clause-ok c =
    let given = c.get_str.ensures ∙ first_value-rows (found_of c.args.matches.now) _ in
    let found = c.in-Ok.ensures.found in
    subst (λ text. IsGivenMachine text (Some c.in-Ok.machine)) (rw c.in-Some.is at given)
    (found.0, found.1 ∙ c.as_bytes.ensures.value)

pub returns-in-Err-clause-refused : goal.returns-in-Err-clause-refused
returns-in-Err-clause-refused c =
    let given = c.get_str.ensures ∙ first_value-rows (found_of c.args.matches.now) _ in
    subst (λ text. IsTextRefused text c.in-Err.refused.column) (rw c.in-Some.is at given)
    (subst (λ bytes. IsColumn bytes c.in-Err.refused.column) c.as_bytes.ensures.value
    c.in-Err.ensures.column)

pub returns-in-None-clause-ok : goal.returns-in-None-clause-ok
returns-in-None-clause-ok c =
    let given = c.get_str.ensures ∙ first_value-rows (found_of c.args.matches.now) _ in
    subst (λ text. IsGivenMachine text None) (rw c.in-None.is at given) tt
