-- Why the reply to a machine that stays in few cells is not `undecided steps`.
use Rattle.std.proofs.Common.{inl, inr, sym, subst, ◌∙◌}
use Rattle.bb_machine.proofs.Facts.{text_unique}
use Rattle.bb_cert.specs.declared.verdict.reader.Line.TheVariants.{Claim}
use Rattle.bb_cert.specs.declared.verdict.Why.TheVariants.{Steps}
use Rattle.bb_cert.specs.declared.verdict.Verdict.TheVariants.{Undecided}
use Rattle.bb_cert.proofs.Facts.{line_unique}
use Rattle.bb_decide.specs.FewCells.{HasStepsForCells}
use Rattle.bb_decide.proofs.Facts.{few_cells_are_decided}
use Rattle.bb_run.specs.FewCells.{AllFewCellsAreReplied}

pub few_cells_are_replied : AllFewCellsAreReplied
few_cells_are_replied bounds plan on table line reply of many (inl is) undecided =
    let same = text_unique is.table table is.of.machine of.machine (is.of.is_text ∙ sym of.is_text) in
    few_cells_are_decided is.table bounds plan is.verdict is.of.machine is.is_verdict on
    (subst (λ t. HasStepsForCells t bounds) (sym same) many)
    (cc (line_unique (Claim is.table is.verdict) (Claim table (Undecided Steps)) reply is.is_reply
    (of.machine, tt, sym undecided)))
few_cells_are_replied bounds plan on table line reply of many (inr refusal) undecided =
    absurd (refusal.no_machine (table, of))
