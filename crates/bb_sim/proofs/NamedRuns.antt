-- A run names only states and symbols of its machine.
use Rattle.std.proofs.Common.{◌≡◌, ℕ, zero, suc, ◌<◌, Some, length, option_and_then, ℤ, ap, sym, subst, ◌∙◌}
use Rattle.std.proofs.Common.{arith}
use Rattle.bb_machine.specs.declared.entry.Next.{Next}
use Rattle.bb_machine.specs.declared.entry.Next.TheVariants.{State, Halt}
use Rattle.bb_machine.specs.declared.entry.Entry.{Entry}
use Rattle.bb_machine.specs.declared.entry.Entry.TheVariants.{Undefined, Go}
use Rattle.bb_machine.specs.Entry.{IsEntryOf, IsNextOf}
use Rattle.bb_machine.specs.Machine.{Table, IsMachine, symbols_of}
use Rattle.bb_machine.proofs.Facts.{entry_named}
use Rattle.bb_tape.specs.Content.{cell}
use Rattle.bb_tape.proofs.Facts.{cell-blank}
use Rattle.bb_sim.specs.Configuration.{Configuration, start, followed, entry_at, next}
use Rattle.bb_sim.specs.Run.{conf}
use Rattle.bb_sim.proofs.RunLaws.{earlier_exists}
use Rattle.bb_sim.proofs.RunningOn.{conf-suc}
use Rattle.bb_sim.proofs.Stepping.{symbols_stay}
use Rattle.bb_sim.proofs.Steps.{led, conf-start}

-- a configuration that does
pub record IsNamed (table : Table) (c : Configuration) : Type 0 where
  pub state : IsNextOf (length table) c.state
  pub symbols : (p : ℤ) → cell c.tape p < symbols_of table

start_named : (table : Table) → IsMachine table → IsNamed table start
start_named table machine = record {
  state = machine.some_state;
  symbols = λ p. omega (arith, cell-blank p, machine.two_symbols);
}

-- the entry that applies
entry_at_named : (table : Table) → IsMachine table → (state : Next) (symbol : ℕ) → IsNextOf
    (length table) state
    → symbol < symbols_of table → IsEntryOf (length table) (symbols_of table) (entry_at table state symbol)
entry_at_named table machine (State state) symbol below inside = entry_named _ _ table state symbol machine
    below inside
entry_at_named table machine Halt symbol below inside = tt

followed_named : (table : Table) (c d : Configuration) (entry : Entry)
    → IsEntryOf (length table) (symbols_of table) entry → IsNamed table c → followed entry c ≡ Some d
    → IsNamed table d
followed_named table c d Undefined of_table named e = absurd cc
followed_named table c d (Go write dir to) of_table named e =
    let same : led c write dir to ≡ d = cc in
    subst (IsNamed table) same (record {
      state = of_table.1;
      symbols = symbols_stay c.tape c.head write (symbols_of table) of_table.0 named.symbols;
    })

pub next_named : (table : Table) (c d : Configuration) → IsMachine table → IsNamed table c
    → next table c ≡ Some d → IsNamed table d
unfolding next
next_named table c d machine named e = followed_named table c d (entry_at table c.state (cell c.tape c.head))
    (entry_at_named table machine c.state (cell c.tape c.head) named.state (named.symbols c.head)) named e

pub run_named : (table : Table) → IsMachine table → (n : ℕ) (c : Configuration) → conf table n ≡ Some c
    → IsNamed table c
run_named table machine zero c e =
    let first = conf-start table in
    let same : start ≡ c = cc in
    subst (IsNamed table) same (start_named table machine)
run_named table machine (suc n) c e =
    let there = earlier_exists table n (suc n) (omega arith) (record { here = c; exists = e }) in
    next_named table there.here c machine (run_named table machine n there.here there.exists)
    (ap (option_and_then (next table)) (sym there.exists) ∙ sym (conf-suc table n) ∙ e)
