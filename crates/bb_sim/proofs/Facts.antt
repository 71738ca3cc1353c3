-- What the proofs of other crates may cite of runs.
pub use Rattle.bb_sim.proofs.Outcomes.{halt_is_last, span_grows, span-start, halts_last, next_inside}
pub use Rattle.bb_sim.proofs.Outcomes.{fits_at_halt, wide_at_end, inside_here, halted_end, no_halt_inside}
pub use Rattle.bb_sim.proofs.RunLaws.{earlier_is_inside, halt_is_unique, last_step_is_unique}
pub use Rattle.bb_sim.proofs.RunLaws.{outcome_is_unique, span_is_reached, count_is_within}
pub use Rattle.bb_sim.proofs.RunLaws.{least_bounds, greatest_bounds}
pub use Rattle.bb_sim.proofs.Positions.{least-next, greatest-next}
pub use Rattle.bb_sim.proofs.Positions.{cells_between-is, max_right, min_right, min-same}
pub use Rattle.bb_sim.proofs.Standing.{counted_running, head_inside, small_position}
pub use Rattle.bb_sim.proofs.Steps.{led, conf-start, conf-next, counted_head-at}
pub use Rattle.bb_sim.proofs.Counting.{counts_start, counts_next}
pub use Rattle.bb_sim.proofs.Endings.{halts_in_Z}
pub use Rattle.bb_sim.proofs.FewCells.{few_cells_repeat_before, running_below}
pub use Rattle.bb_sim.proofs.RunningOn.{conf-suc, runs_on}
pub use Rattle.bb_sim.proofs.NamedRuns.{IsNamed, next_named, run_named}
pub use Rattle.bb_sim.proofs.Outcomes.{cells_last, steps_last}
pub use Rattle.bb_sim.proofs.Positions.{max-same}
pub use Rattle.bb_sim.proofs.Parity.{position_has_parity_of_step}
pub use Rattle.bb_sim.proofs.Standing.{Near, at_start, inside_fits, near_head}
pub use Rattle.bb_sim.proofs.Stepping.{Stepped, fits_Z, halts_undefined, into_Z, made, moves_on, next-span}
pub use Rattle.bb_sim.proofs.Stepping.{running}
pub use Rattle.bb_sim.specs.inside.Advancing.{Advances}
