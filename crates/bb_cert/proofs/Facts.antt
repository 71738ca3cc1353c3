-- What the proofs of other crates may cite of claims, repeats, records and the tree before a halt.
pub use Rattle.bb_cert.proofs.record_lemmas.Agreements.{agreeing_records_never_halt}
pub use Rattle.bb_cert.proofs.checker_lemmas.AnswerRules.{answer_is_unique}
pub use Rattle.bb_cert.proofs.claim_lemmas.Claims.{claims_never_halt}
pub use Rattle.bb_cert.proofs.checker_lemmas.InRegisters.{place_is, same_registers}
pub use Rattle.bb_cert.proofs.record_lemmas.Comparing.{agree_of_cells, cells_of_agree, comparable, keeps}
pub use Rattle.bb_cert.proofs.record_lemmas.Comparing.{number_narrow}
pub use Rattle.bb_cert.proofs.record_lemmas.Comparing.{numbered}
pub use Rattle.bb_cert.proofs.record_lemmas.Comparing.{extent_of_records, stays}
pub use Rattle.bb_cert.proofs.record_lemmas.ReplayStates.{at_step, followed_at_first, followed_farther}
pub use Rattle.bb_cert.proofs.record_lemmas.ReplayStates.{followed_nearer}
pub use Rattle.bb_cert.proofs.verdict_lemmas.Extents.{claimed_is_one, claimed_is_said}
pub use Rattle.bb_cert.proofs.record_lemmas.Heads.{runs_before}
pub use Rattle.bb_cert.proofs.verdict_lemmas.Lengths.{length-line, length-verdict_text}
pub use Rattle.bb_cert.proofs.verdict_lemmas.Lines.{line_unique}
pub use Rattle.bb_cert.proofs.claim_lemmas.NoRecords.{agreeing_records_never_repeat}
pub use Rattle.bb_cert.proofs.record_lemmas.Positions.{head_at-is, led_by, one_number, starts}
pub use Rattle.bb_cert.proofs.record_lemmas.RecordPairs.{record_pair}
pub use Rattle.bb_cert.proofs.record_lemmas.Records.{record_has_one_step, record_takes_steps}
pub use Rattle.bb_cert.proofs.record_lemmas.Records.{records_in_order, stands_on}
pub use Rattle.bb_cert.proofs.claim_lemmas.Repeats.{repeats_go_on, repeats_keep_distance, repeats_never_halt}
pub use Rattle.bb_tree.proofs.Facts.{earlier, moves, steps_of_never}
pub use Rattle.bb_cert.proofs.record_lemmas.Stretches.{IsCompared, are_narrow, compared, comparable_wider}
pub use Rattle.bb_cert.proofs.record_lemmas.Stretches.{distance_is, length_is, out_as_far, seen_at}
pub use Rattle.bb_cert.proofs.claim_lemmas.Standing.{AreAlike, same_of_alike, alike_of_same}
pub use Rattle.bb_cert.proofs.claim_lemmas.Standing.{no_repeat_at_once}
pub use Rattle.bb_tree.proofs.Facts.{matches_level, halts_from_level}
pub use Rattle.bb_cert.proofs.record_lemmas.Tops.{MakesJust, farther, made_next, makes_just, nearer_on}
pub use Rattle.bb_tree.proofs.Facts.{empty_levels_stay, tree_has_one_end}
pub use Rattle.bb_tree.proofs.Facts.{at_end, before_z, clear_trees_never_halt}
