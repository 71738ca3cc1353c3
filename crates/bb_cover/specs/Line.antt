-- The line of a machine, as the program has it.
use Rattle.std.specs.Prelude.{◌≡◌, ℕ}
use Rattle.bb_machine.specs.Limits.{Bounds}
use Rattle.bb_machine.specs.Machine.{Table, entry_of}
use Rattle.bb_sim.specs.Run.{HaltsAt, IsScore}
use Rattle.bb_sim.specs.Span.{Inside}
use Rattle.laws_of_verdicts.specs.Change.{Change, Renaming}
use Rattle.laws_of_verdicts.specs.LineOf.{IsLineOf}
use Rattle.laws_of_verdicts.specs.UndefinedEntry.{HaltsOnUndefined}
use Rattle.bb_cover.specs.declared.line.How.{How}
use Rattle.bb_cover.specs.declared.line.How.TheVariants.{Runs, Halts}
use Rattle.bb_cover.specs.declared.line.Line.{Line}
use Rattle.bb_cover.specs.declared.line.LineHalt.{LineHalt}
use Rattle.bb_cover.specs.declared.naming.Names.{Names}
use Rattle.bb_cover.specs.declared.naming.Naming.{Naming}
use Rattle.bb_cover.specs.Names.{name_in}

abbrev pub renaming_of : Names → Renaming
renaming_of names = record {
  new = name_in names.new;
  old = name_in names.old;
  old_of_new = names.old_of_new;
  new_of_old = names.new_of_old;
}

-- the change that a naming stands for
abbrev pub change_of : Naming → Change
change_of naming = record {
  mirrored = naming.mirrored;
  states = renaming_of naming.states;
  symbols = renaming_of naming.symbols;
  keeps_A = naming.keeps_A;
  keeps_0 = naming.keeps_0;
}

-- the line's machine halts so, inside the bounds, and the machine has that entry of its own there
pub record IsLineHalt (change : Change) (bounds : Bounds) (table machine : Table) (halt : LineHalt)
    : Type 0 where
  pub undefined : HaltsOnUndefined table halt.steps halt.state halt.symbol
  pub inside : Inside table bounds halt.steps
  pub scores : IsScore table halt.steps halt.score
  pub own : halt.entry ≡ entry_of machine (change.states.new halt.state) (change.symbols.new halt.symbol)

-- the run of the line's machine ends so
abbrev pub EndsAs : Change → Bounds → Table → Table → How → Type 0
EndsAs change bounds table machine Runs = (steps : ℕ) → HaltsAt table steps → Inside table bounds steps → ⊥
EndsAs change bounds table machine (Halts halt) = IsLineHalt change bounds table machine halt

-- the line of a machine within these bounds
pub record IsLine (machine : Table) (bounds : Bounds) (line : Line) : Type 0 where
  pub is_line : IsLineOf (change_of line.change) bounds line.machine machine
  pub how : EndsAs (change_of line.change) bounds line.machine machine line.how
