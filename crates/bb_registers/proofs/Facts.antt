-- What the proofs of other crates may cite of cells and runs in registers.
pub use Rattle.bb_registers.proofs.Bits.{at_bit, bit_of, bits-blank, bits_unique, by_word, cell-in_word, cell-outside_word}
pub use Rattle.bb_registers.proofs.Bits.{cell-place}
pub use Rattle.bb_registers.proofs.Counts.{counted_at_end, counted_so_far}
pub use Rattle.bb_registers.proofs.InBlocks.{block_of, steps_in_block, steps_in_window, with_block}
pub use Rattle.bb_registers.proofs.OneBit.{by_bit}
pub use Rattle.bb_registers.proofs.TapeBits.{bit_passed, bit_written, cell-next, stands_as}
pub use Rattle.bb_registers.proofs.Word.{fits_before, stays_in_word}
