-- What the proofs of other crates may cite of verdicts.
pub use Rattle.bb_decide.proofs.Claims.{verdicts_are_confirmed, verdicts_hold}
pub use Rattle.bb_decide.proofs.FewCells.{few_cells_are_decided}
pub use Rattle.bb_decide.proofs.KnownOfVerdicts.{cyclers_are_on, extent_is_told, is_first_agreement}
pub use Rattle.bb_decide.proofs.KnownOfVerdicts.{is_first_cycle, is_halt_within, is_tree, translated_are_on}
pub use Rattle.bb_decide.proofs.KnownOfVerdicts.{passes_all, trees_are_on, walk_is_made}
pub use Rattle.bb_decide.proofs.SinglePassVerdicts.{found_is_verdict}
pub use Rattle.bb_decide.proofs.RunsMade.{runs_are_unique}
pub use Rattle.bb_decide.proofs.SmallLimits.{inside_upper, small_limits_decide}
pub use Rattle.bb_decide.proofs.Verdicts.{verdict_is_unique, steps_are_bounded, steps_are_unique}
