use Rattle.std.proofs.Common.{Ok, ap, sym, ◌∙◌}
use Rattle.bb_machine.proofs.LawLemmas.{text_unique}
use Rattle.bb_machine.proofs.machine.Machine.read.Goals as goal

pub returns-in-Ok-clause-only : goal.returns-in-Ok-clause-only
returns-in-Ok-clause-only c machine is same =
    let found = c.in-Ok.ensures.found in
    ap Ok (text_unique c.read_in_place.new.self machine found.0 is (found.1 ∙ sym same))
