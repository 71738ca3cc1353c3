use Rattle.std.proofs.Common.{◌≡◌, ℕ, ◌<◌, ◌≤◌, ℤ}
use Rattle.std.specs.Int.{bit_at}
use Rattle.bb_tape.specs.Content.{cell}
use Rattle.bb_registers.specs.BitCells.{IsInWord}
use Rattle.bb_registers.proofs.Bits.{at_bit}
use Rattle.bb_registers.proofs.handover.write_bits.Given as goal

-- the cells that were looked at have the new bits, the others the old ones
abbrev pub invariant-loop-place : goal.invariant-loop-place
invariant-loop-place g l = record {
  few : l.place ≤ 64;
  window : g.T.Tape.view l.tape ≡ record (g.T.Tape.view l.fn.tape) { content = (g.T.Tape.view l.tape).content };
  passed : (i : ℕ) → i < l.place → cell (g.T.Tape.view l.tape).content (at_bit i) ≡ bit_at l.bits i;
  ahead : (i : ℕ) → l.place ≤ i → i < 64 → cell (g.T.Tape.view l.tape).content (at_bit i) ≡ bit_at l.old i;
  beyond : (p : ℤ) → (IsInWord p → ⊥) → cell (g.T.Tape.view l.tape).content p ≡ 0;
}
