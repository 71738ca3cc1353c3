-- What the proofs of other crates may cite of machines, their texts and their limits.
pub use Rattle.bb_machine.proofs.Lengths.{text_short}
pub use Rattle.bb_machine.proofs.Texts.{tail_text}
pub use Rattle.bb_machine.proofs.Tables.{entry_named}
pub use Rattle.bb_machine.proofs.LawLemmas.{text_unique, column_unique, prefix_enough, machine_of_smaller}
pub use Rattle.bb_machine.proofs.Groups.{every-append}
