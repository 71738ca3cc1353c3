use Rattle.std.proofs.Common.{◌≡◌, ◌<◌, ◌≤◌, ℕ, min, pos, ◌+ℤ◌}
use Rattle.std.specs.Int.{bit_at}
use Rattle.bb_tape.specs.Content.{cell}
use Rattle.bb_tape.proofs.tape.Tape.block.Given as goal

-- the bits of the cells that were read
abbrev pub invariant-loop-place : goal.invariant-loop-place
invariant-loop-place g l = record {
  few : l.place ≤ 64;
  bits : (k : ℕ) → k < l.place → bit_at l.bits k ≡ min 1 (cell (g.Self.Tape.view l.self).content (l.from +ℤ pos k));
  rest : (k : ℕ) → l.place ≤ k → bit_at l.bits k ≡ 0;
}
