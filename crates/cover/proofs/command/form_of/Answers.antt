use Rattle.std.proofs.Common.{◌∙◌, ap, sym}
use Rattle.cover.specs.CommandLine.{form_by}
use Rattle.cover.proofs.command.form_of.Goals as goal

pub returns-then-has_option : goal.returns-then-has_option
returns-then-has_option c = ap form_by (sym c.if-has_option.true ∙ c.has_option.ensures)

pub returns-else-has_option : goal.returns-else-has_option
returns-else-has_option c = ap form_by (sym c.if-has_option.false ∙ c.has_option.ensures)
