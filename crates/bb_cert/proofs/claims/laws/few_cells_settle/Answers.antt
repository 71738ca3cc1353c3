use Rattle.bb_cert.proofs.claim_lemmas.FewCells.{halts_in_few_cells_are_early}
use Rattle.bb_cert.proofs.claim_lemmas.FewCells.{long_runs_in_few_cells_never_halt}
use Rattle.bb_cert.proofs.claims.laws.few_cells_settle.Goals as goal

pub returns : goal.returns
returns c = record { early = halts_in_few_cells_are_early; never = long_runs_in_few_cells_never_halt }
