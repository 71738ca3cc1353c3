-- Why a claim that a machine never halts is right.

use Rattle.bb_cert.specs.declared.verdict.Verdict.TheVariants.{Halt, Cycler, Translated, Backward, Undecided}
use Rattle.bb_cert.specs.claims.Laws.{ClaimsNeverHalt}
use Rattle.bb_cert.proofs.record_lemmas.Agreements.{agreeing_records_never_halt}
use Rattle.bb_cert.proofs.claim_lemmas.Repeats.{repeats_never_halt}
use Rattle.bb_tree.proofs.Facts.{clear_trees_never_halt}

pub claims_never_halt : ClaimsNeverHalt
claims_never_halt table (Halt steps score) machine says claim = absurd says
claims_never_halt table (Cycler first second) machine says claim =
    repeats_never_halt table first second claim.0 claim.1
claims_never_halt table (Translated side first second extent) machine says claim =
    agreeing_records_never_halt table side first second claim.0
claims_never_halt table (Backward levels nodes) machine says claim =
    clear_trees_never_halt table levels nodes machine claim.0 claim.1
claims_never_halt table (Undecided why) machine says claim = absurd says
