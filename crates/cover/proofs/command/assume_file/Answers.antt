use Rattle.std.proofs.Common.{◌∙◌, ap}
use Rattle.std.specs.Prelude.{Some}
use Rattle.clap.specs.Words.{found_of}
use Rattle.clap.proofs.WalkLemmas.{first_value-rows}
use Rattle.cover.proofs.command.assume_file.Goals as goal

pub returns-in_ok-from_str-in-Some : goal.returns-in_ok-from_str-in-Some
returns-in_ok-from_str-in-Some c =
    let given = c.get_str.ensures ∙ first_value-rows (found_of c.args.matches.now) _ in
    ap Some c.in_ok-from_str-in-Some.ensures.ok ∙ rw c.in-Some.is at given

pub returns-in-None : goal.returns-in-None
returns-in-None c =
    let given = c.get_str.ensures ∙ first_value-rows (found_of c.args.matches.now) _ in
    rw c.in-None.is at given
