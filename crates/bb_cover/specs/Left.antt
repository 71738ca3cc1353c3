-- The machines that a walk has still to visit.
use Rattle.std.specs.Prelude.{◌≡◌, ℕ, zero, suc, ◌+◌, ◌<◌, ◌≤◌, List, [], ◌∷◌, ◌++◌, drop, length, map}
use Rattle.std.specs.Prelude.{Option, Some, None}
use Rattle.bb_machine.specs.declared.machine.TheConstants.{MAX_STATES, MAX_SYMBOLS}
use Rattle.bb_machine.specs.Machine.{Table, IsMachine}
use Rattle.laws_of_verdicts.specs.Closed.{with_entry}
use Rattle.laws_of_verdicts.specs.Walk.{FillsUndefinedBy}
use Rattle.bb_cover.specs.declared.undefined.UndefinedEntry.{UndefinedEntry}
use Rattle.bb_cover.specs.declared.walk.Frame.{Frame}
use Rattle.bb_cover.specs.declared.walk.TheConstants.{MAX_FRAMES}
use Rattle.bb_cover.specs.Asked.{entries}
use Rattle.bb_cover.specs.UndefinedEntries.{IsUndefinedOf, undefined_entries_of}

-- those that fill a frame's `---` and weren't visited
abbrev pub left_of : Frame → List Table
left_of frame = map (with_entry frame.machine frame.undefined.state frame.undefined.symbol)
    (drop frame.next (entries frame.asked))

-- those of some frames, the last frame's first
abbrev pub left : List Frame → List Table
left [] = []
left (frame ∷ frames) = left frames ++ left_of frame

-- the frame's `---` is its machine's, something is left of it, and its machine has at most so many `---` that
-- there may be as many frames before it
pub record IsFrame (before : ℕ) (frame : Frame) : Type 0 where
  pub machine : IsMachine frame.machine
  pub undefined : IsUndefinedOf frame.machine frame.undefined
  pub few : frame.asked.states ≤ MAX_STATES
  pub few_symbols : frame.asked.symbols ≤ MAX_SYMBOLS
  pub some : frame.next < length (entries frame.asked)
  pub room : undefined_entries_of frame.machine + before ≤ MAX_FRAMES

-- so are frames with so many before them
abbrev pub AreFrames : ℕ → List Frame → Type 0
AreFrames before [] = Unit {0}
AreFrames before (frame ∷ frames) = IsFrame before frame × AreFrames (suc before) frames

abbrev pub IsStack : List Frame → Type 0
IsStack frames = AreFrames zero frames

-- the machine is the next one
abbrev pub IsFirst : Table → List Table → Type 0
IsFirst table tables = (rest : List Table) × (tables ≡ table ∷ rest)

-- those that fill a machine's `---`, if there is one to fill
abbrev pub FillsAt : Table → Option UndefinedEntry → List Table → Type 0
FillsAt table None more = more ≡ []
FillsAt table (Some undefined) more = FillsUndefinedBy table undefined.state undefined.symbol more

-- the machine was the next one, and those that fill its `---` come in its place
pub record VisitsNext (table : Table) (undefined : Option UndefinedEntry) (old new : List Table)
    : Type 0 where
  pub rest : List Table
  pub was : old ≡ table ∷ rest
  pub more : List Table
  pub fills : FillsAt table undefined more
  pub is : new ≡ more ++ rest
