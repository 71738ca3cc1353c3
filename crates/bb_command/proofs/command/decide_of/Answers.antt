use Rattle.std.proofs.Common.{refl}
use Rattle.bb_command.proofs.command.decide_of.Goals as goal

pub returns-clause-asked : goal.returns-clause-asked
returns-clause-asked c = record {
  work = rw (c.has_option.ensures, c.has_option-2.ensures, c.has_option-3.ensures) refl;
  limits = c.in_ok-limits.ensures.ok;
  file = c.in_ok-file.ensures;
}
