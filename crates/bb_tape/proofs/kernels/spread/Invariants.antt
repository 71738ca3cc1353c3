use Rattle.std.proofs.Common.{◌≡◌, ◌<◌, ℕ, length, slice_index}
use Rattle.std.specs.Int.{bit_at}
use Rattle.bb_tape.proofs.kernels.spread.Given as goal

-- the bytes that were written are the bits
abbrev pub invariant-loop-place : goal.invariant-loop-place
invariant-loop-place l = record {
  bits : (k : ℕ) → k < l.place → slice_index l.a k ≡ bit_at l.bits k;
  length : length l.a ≡ 64;
}
