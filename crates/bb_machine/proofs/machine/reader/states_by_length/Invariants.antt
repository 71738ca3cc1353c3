use Rattle.std.proofs.Common.{◌≢◌, ℕ, ◌+◌, ◌*◌, ◌<◌, length}
use Rattle.bb_machine.proofs.machine.reader.states_by_length.Given as goal

-- no fewer states make a text as long as the line
abbrev pub invariant-loop-states : goal.invariant-loop-states
invariant-loop-states l = (n : ℕ) → 0 < n → n < l.states → length l.line + 1 ≢ n * (3 * l.symbols + 1)
