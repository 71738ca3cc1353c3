-- Laws of the backward tree.
use Rattle.std.specs.Prelude.{◌≡◌, ℕ, ◌≤◌, ◌↔◌, []}
use Rattle.bb_machine.specs.Machine.{Table, IsMachine}
use Rattle.bb_sim.specs.Configuration.{Configuration}
use Rattle.bb_sim.specs.Run.{Never}
use Rattle.bb_tree.specs.Tree.{MatchesOne, level, Ends, Clear, HaltsNextAfter}

-- i steps after any configuration there is one at a halting entry exactly if it matches a node of level i
abbrev pub LevelsComeBeforeHalts : Type 0
LevelsComeBeforeHalts = (table : Table) (c : Configuration) (i : ℕ)
    → HaltsNextAfter table c i ↔ MatchesOne (level table i) c

-- an empty level ends all later ones
abbrev pub EmptyLevelsStay : Type 0
EmptyLevelsStay = (table : Table) (i j : ℕ) → i ≤ j → level table i ≡ [] → level table j ≡ []

-- a machine whose tree ends, without a node matched by its start, never halts
abbrev pub ClearTreesNeverHalt : Type 0
ClearTreesNeverHalt = (table : Table) (h k : ℕ) → IsMachine table → Ends table h k → Clear table h
    → Never table

-- a tree ends in one number of levels, with one number of nodes
abbrev pub TreeHasOneEnd : Type 0
TreeHasOneEnd = (table : Table) (h k i j : ℕ) → Ends table h k → Ends table i j → (h ≡ i) × (k ≡ j)
