-- What the proofs of other crates may cite of machines with one entry more, and of changed ones.
pub use Rattle.laws_of_verdicts.proofs.ChangedTrees.{groups_long}
pub use Rattle.laws_of_verdicts.proofs.UndefinedHalts.{halts_on_undefined, undefined_here}
pub use Rattle.laws_of_verdicts.proofs.Fillings.{HasNoZ, length-with_entry, symbols_of-with_entry}
pub use Rattle.laws_of_verdicts.proofs.Fillings.{entry-same, undefined_entries, undefined_entries-with_entry, machine-with_entry}
pub use Rattle.laws_of_verdicts.proofs.Walks.{contains_cases, contains_first, contains_left, contains_right}
pub use Rattle.laws_of_verdicts.proofs.Covers.{covers_decide}
pub use Rattle.laws_of_verdicts.proofs.Fillings.{blank_machine, blank_table-none}
pub use Rattle.laws_of_verdicts.proofs.NormalForms.{normal_form_covers}
pub use Rattle.laws_of_verdicts.proofs.Walks.{walks_are_in_normal_form}
pub use Rattle.laws_of_verdicts.proofs.Shards.{walks_compose}
pub use Rattle.laws_of_verdicts.proofs.Bounds.{covers_bound_given}
pub use Rattle.laws_of_verdicts.proofs.LinesOf.{begins, goes_on, halts_there, own_place, state_there, symbol_there}
pub use Rattle.laws_of_verdicts.proofs.NormalForms.{swapped-used, undefined_named}
pub use Rattle.laws_of_verdicts.proofs.ChangedRuns.{back, cell_at, next-back, placed-subtract}
pub use Rattle.laws_of_verdicts.proofs.Composed.{line_image, never_there}
pub use Rattle.laws_of_verdicts.proofs.UniqueLines.{same_place}
