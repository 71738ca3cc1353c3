use Rattle.std.proofs.Common.{ℕ, ◌<◌, ◌≤◌}
use Rattle.bb_machine.specs.declared.machine.TheConstants.{MAX_STATES, MAX_SYMBOLS}
use Rattle.bb_cover.specs.Used.{NeedsRow}
use Rattle.bb_cover.proofs.used.count_used.Given as goal

abbrev pub invariant-loop-state : goal.invariant-loop-state
invariant-loop-state l = record {
  some : 1 ≤ l.used.states;
  some_symbol : 1 ≤ l.used.symbols;
  needs : (q : ℕ) → q < l.state → NeedsRow l.used.states l.used.symbols l.machine q;
  least : (n k : ℕ) → 1 ≤ n → 1 ≤ k → ((q : ℕ) → q < l.state → NeedsRow n k l.machine q)
      → (l.used.states ≤ n) × (l.used.symbols ≤ k);
  few : l.used.states ≤ MAX_STATES;
  few_symbols : l.used.symbols ≤ MAX_SYMBOLS;
}
