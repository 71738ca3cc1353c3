-- The entries with which a walk goes on from a machine.
use Rattle.std.specs.Prelude.{◌≡◌, ℕ, ◌+◌, min, Bool, cond, List, length}
use Rattle.bb_machine.specs.declared.entry.Entry.{Entry}
use Rattle.bb_machine.specs.Machine.{Table, symbols_of}
use Rattle.laws_of_verdicts.specs.Walk.{Uses, entries_of}
use Rattle.bb_cover.specs.declared.asked.Asked.{Asked}

abbrev pub entries : Asked → List Entry
entries asked = entries_of asked.is_root asked.states asked.symbols

-- how many of them write one symbol
abbrev pub width_of : Asked → ℕ
width_of asked = cond asked.is_root asked.states (asked.states + asked.states)

-- they name at most the first state and the first symbol that the machine doesn't use
pub record IsAsking (table : Table) (is_root : Bool) (asked : Asked) : Type 0 where
  pub used_states : ℕ
  pub used_symbols : ℕ
  pub uses : Uses table used_states used_symbols
  pub root : asked.is_root ≡ is_root
  pub states : asked.states ≡ min (length table) (used_states + 1)
  pub symbols : asked.symbols ≡ min (symbols_of table) (used_symbols + 1)
