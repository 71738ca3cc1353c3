use Rattle.std.proofs.Common.{◌≡◌, ◌≤◌}
use Rattle.bb_registers.specs.BitCells.{bits_from}
use Rattle.bb_decide.specs.Fingerprint.{fingerprint}
use Rattle.bb_decide.proofs.register_handover.fingerprint_of_bits.Given as goal

-- the fingerprint of the cells that were looked at
abbrev pub invariant-loop-place : goal.invariant-loop-place
invariant-loop-place g l = record {
  few : l.place ≤ 64;
  is : l.fingerprint ≡ fingerprint (g.K.FingerprintKeys.key_of l.keys) (bits_from l.bits l.place);
}
