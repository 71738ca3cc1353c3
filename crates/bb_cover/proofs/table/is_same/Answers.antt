use Rattle.std.proofs.Common.{ap, sym, ◌∙◌}
use Rattle.laws_of_verdicts.specs.Closed.{with_entry}
use Rattle.bb_cover.proofs.Tables.{own_entry}
use Rattle.bb_cover.proofs.table.is_same.Goals as goal

pub returns-clause-same : goal.returns-clause-same
returns-clause-same c true = c.is_with_entry.ensures.same true
    ∙ ap (with_entry c.args.other.now 0 0) c.entry.ensures.value ∙ own_entry c.args.other.now 0 0

pub returns-clause-only : goal.returns-clause-only
returns-clause-only c same = c.is_with_entry.ensures.only (same ∙ sym (own_entry c.args.other.now 0 0)
    ∙ ap (with_entry c.args.other.now 0 0) (sym c.entry.ensures.value))
