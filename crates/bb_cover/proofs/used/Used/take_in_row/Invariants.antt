use Rattle.std.proofs.Common.{ℕ, ◌<◌, ◌≤◌}
use Rattle.bb_machine.specs.Machine.{entry_of}
use Rattle.bb_machine.specs.declared.machine.TheConstants.{MAX_STATES, MAX_SYMBOLS}
use Rattle.bb_cover.specs.Used.{NeedsEntry}
use Rattle.bb_cover.proofs.used.Used.take_in_row.Given as goal

abbrev pub invariant-loop-symbol : goal.invariant-loop-symbol
invariant-loop-symbol l = record {
  states : l.fn.self.states ≤ l.self.states;
  symbols : l.fn.self.symbols ≤ l.self.symbols;
  needs : (s : ℕ) → s < l.symbol
      → NeedsEntry l.self.states l.self.symbols l.state s (entry_of l.machine l.state s);
  least : (n k : ℕ) → ((s : ℕ) → s < l.symbol → NeedsEntry n k l.state s (entry_of l.machine l.state s))
      → l.fn.self.states ≤ n → l.fn.self.symbols ≤ k → (l.self.states ≤ n) × (l.self.symbols ≤ k);
  few : l.fn.self.states ≤ MAX_STATES → l.self.states ≤ MAX_STATES;
  few_symbols : l.fn.self.symbols ≤ MAX_SYMBOLS → l.self.symbols ≤ MAX_SYMBOLS;
}
