use Rattle.std.proofs.Common.{refl}
use Rattle.bb_cert.proofs.Facts.{claims_never_halt}
use Rattle.bb_decide.proofs.Claims.{verdicts_are_confirmed, verdicts_hold}
use Rattle.bb_decide.proofs.FewCells.{few_cells_are_decided}
use Rattle.bb_decide.proofs.Sure.{larger_limits_keep}
use Rattle.bb_decide.proofs.decision.show_verdict.Goals as goal

pub returns-clause-earlier : goal.returns-clause-earlier
returns-clause-earlier c = λ lower earlier within is.
    larger_limits_keep c.args.machine.now lower c.args.limits.now c.args.plan earlier _
    c.show_machine.ensures.machine within is c.requires.verdict

pub returns-clause-few_cells : goal.returns-clause-few_cells
returns-clause-few_cells c =
    few_cells_are_decided c.args.machine.now c.args.limits.now c.args.plan _ c.show_machine.ensures.machine
    c.requires.verdict

pub returns-clause-claim : goal.returns-clause-claim
returns-clause-claim c =
    verdicts_hold c.args.machine.now c.args.limits.now c.args.plan _ c.requires.verdict

pub returns-clause-never : goal.returns-clause-never
returns-clause-never c = λ says.
    claims_never_halt _ _ c.show_machine.ensures.machine says (returns-clause-claim c)

pub returns-clause-confirmed : goal.returns-clause-confirmed
returns-clause-confirmed c =
    verdicts_are_confirmed c.args.machine.now c.args.limits.now c.args.plan _ c.requires.verdict

pub returns-clause-line : goal.returns-clause-line
returns-clause-line c = (c.show_machine.ensures.machine, c.requires.numbers, refl)
