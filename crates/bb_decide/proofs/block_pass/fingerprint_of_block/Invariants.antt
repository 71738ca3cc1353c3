use Rattle.std.proofs.Common.{◌≡◌}
use Rattle.bb_tape.specs.Content.{Content}
use Rattle.bb_decide.specs.Fingerprint.{fingerprint}
use Rattle.bb_decide.proofs.BlockPasses.{IsHalfway}
use Rattle.bb_decide.proofs.block_pass.fingerprint_of_block.Given as goal

-- the fingerprint is that of any content in which all but these cells are changed
abbrev pub invariant-loop-changed : goal.invariant-loop-changed
invariant-loop-changed g l =
    (one middle : Content) → l.fn.current ≡ fingerprint (g.K.FingerprintKeys.key_of l.keys) one
    → IsHalfway l.from l.old l.new l.changed one middle
    → l.current ≡ fingerprint (g.K.FingerprintKeys.key_of l.keys) middle

abbrev pub decreases-loop-changed : goal.decreases-loop-changed
decreases-loop-changed g l = l.changed
