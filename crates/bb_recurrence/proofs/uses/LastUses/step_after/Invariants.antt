use Rattle.std.proofs.Common.{ℕ}
use Rattle.bb_recurrence.specs.LastUses.{AreSeen}
use Rattle.bb_recurrence.proofs.EntryUses.{IsSeenRow}
use Rattle.bb_recurrence.proofs.uses.LastUses.step_after.Given as goal

-- the entries of the first symbols are seen
abbrev pub invariant-loop-symbol : goal.invariant-loop-symbol
invariant-loop-symbol l =
    (n : ℕ) → AreSeen l.machine n l.self → IsSeenRow l.machine l.state l.symbol n l.after
