-- What the proofs of other crates may cite of runs and of the tree before a halt.
pub use Rattle.bb_tree.proofs.Runs.{Moves, earlier, has_start, moves, never_of_steps, no_halt_before, steps_of_never}
pub use Rattle.bb_tree.proofs.Levels.{halts_from_level, levels_come_before_halts, matches_level}
pub use Rattle.bb_tree.proofs.TreeEnds.{at_end, before_z, clear_trees_never_halt, empty_levels_stay}
pub use Rattle.bb_tree.proofs.TreeEnds.{tree_has_one_end}
