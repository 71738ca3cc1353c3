-- What the proofs of other crates may cite of runs that repeat.
pub use Rattle.laws_of_recurrence.proofs.Cyclers.{exact_of_cyclers}
pub use Rattle.laws_of_recurrence.proofs.Decisions.{decide_steps, decide_use}
pub use Rattle.laws_of_recurrence.proofs.Exact.{divisor_below, exact_from, exact_is_seen, exact_is_unique}
pub use Rattle.laws_of_recurrence.proofs.Exact.{exact_tells_all, periods_are_multiples, seen_is_exact}
pub use Rattle.laws_of_recurrence.proofs.Exact.{starts_serve_all_periods}
pub use Rattle.laws_of_recurrence.proofs.Existence.{difference_is_seen, exact_exists}
pub use Rattle.laws_of_recurrence.proofs.LaterPairs.{late_records_are_pairs, repeats_have_pairs}
pub use Rattle.laws_of_recurrence.proofs.Pairs.{cyclers_repeat, translated_cyclers_repeat}
pub use Rattle.laws_of_recurrence.proofs.Pairs.{transition_at-is, used_by}
pub use Rattle.laws_of_recurrence.proofs.Primes.{HasPrime, has_prime}
pub use Rattle.laws_of_recurrence.proofs.Sequences.{Has, has_multiples, repeats_before}
pub use Rattle.laws_of_recurrence.proofs.Sequences.{seen_is_period, serves}
pub use Rattle.laws_of_recurrence.proofs.Shifts.{shift_is_one, shift_stays}
pub use Rattle.laws_of_recurrence.proofs.Tapes.{zero_shift_is_cycle}
pub use Rattle.laws_of_recurrence.proofs.Uses.{comes_in_period, kinds_of_use_differ, last_use_is_seen}
pub use Rattle.laws_of_recurrence.proofs.Uses.{last_before_start, last_use_is_unique, quasihalt_is_unique}
pub use Rattle.laws_of_recurrence.proofs.Uses.{quasihalts_by_last_use, unused_is_seen}
pub use Rattle.laws_of_recurrence.proofs.Uses.{used_for_ever_just_in_period, uses_are_of_three_kinds}
