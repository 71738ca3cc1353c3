-- What is known of the records of one side while a run is followed, and when the last record agrees with a
-- kept one.
use Rattle.std.specs.Prelude.{◌≡◌, ◌≢◌, ℕ, ◌<◌, ◌≤◌, ◌⊎◌, Option, Some, None, ℤ, pos, neg_ℤ, ◌+ℤ◌, ◌-ℤ◌}
use Rattle.std.specs.Prelude.{◌≤ℤ◌}
use Rattle.std.specs.Int.{int_min, int_max}
use Rattle.bb_machine.specs.declared.entry.Next.TheVariants.{Halt}
use Rattle.bb_machine.specs.Machine.{Table}
use Rattle.bb_tape.specs.Content.{Content, cell}
use Rattle.bb_tape.specs.declared.tape.TheConstants.{MAX_CELLS}
use Rattle.bb_tape.specs.TapeView.{TapeView, IsInside, visited}
use Rattle.bb_sim.specs.declared.runner.Runner.{Runner}
use Rattle.bb_sim.specs.Run.{conf}
use Rattle.bb_sim.specs.CellsBetween.{cells_between}
use Rattle.bb_sim.specs.Runner.{high_of, low_of, position_of, state_of, steps_of}
use Rattle.bb_sim.specs.Span.{counted_head, least, greatest}
use Rattle.bb_cert.specs.declared.verdict.Extent.{Extent}
use Rattle.bb_cert.specs.declared.verdict.Side.{Side}
use Rattle.bb_cert.specs.declared.verdict.Side.TheVariants.{L, R}
use Rattle.bb_cert.specs.declared.records.Records.{Records}
use Rattle.bb_cert.specs.records.Record.{out, head_at, far, IsRecord}

-- a number that is no farther from 0 than any position of a tape
pub record IsNarrow (z : ℤ) : Type 0 where
  pub low : neg_ℤ (pos MAX_CELLS) ≤ℤ z
  pub high : z ≤ℤ pos MAX_CELLS

-- how far out a runner's head is on the side of these records; where it has just made a record, its number
abbrev pub top_of : Records → Runner → ℤ
top_of records runner = out records.side (position_of runner)

-- the number of the kept record; 0 before there is one
abbrev pub number_of : Records → ℤ
number_of records = top_of records records.kept

-- the least of how far out the head was since it was made
abbrev pub nearest_out : Records → ℤ
nearest_out records = out records.side records.nearest

-- of two positions the one less far out
abbrev pub nearer : Side → ℤ → ℤ → ℤ
nearer R p q = int_min p q
nearer L p q = int_max p q

-- what is known after one step more, which led the head to this position
abbrev pub passed : Records → ℤ → Records
passed records position = record records { nearest = nearer records.side records.nearest position }

-- with the record kept that a runner has just made
abbrev pub with_kept : Records → Runner → Records
with_kept records runner = record records { kept = runner; nearest = position_of runner }

-- on which side a runner's last step has widened its window, which had so many cells before
abbrev pub TellsWidening : Runner → ℕ → Option Side → Type 0
TellsWidening runner cells None = cells_between (low_of runner) (high_of runner) ≡ cells
TellsWidening runner cells (Some L) =
    (cells_between (low_of runner) (high_of runner) ≢ cells) × (position_of runner ≡ low_of runner)
TellsWidening runner cells (Some R) =
    (cells_between (low_of runner) (high_of runner) ≢ cells) × (position_of runner ≢ low_of runner)

-- the greatest of how far out the head is up to step n
pub record IsTop (table : Table) (side : Side) (n : ℕ) (top : ℤ) : Type 0 where
  pub step : ℕ
  pub no_later : step ≤ n
  pub reached : out side (head_at table step) ≡ top
  pub bounds : (m : ℕ) → m ≤ n → out side (head_at table m) ≤ℤ top

-- the kept record, its configuration, and the least distance of the head from the start since then, up to
-- step n; its saved window lies in the window of the run, and its own head in the saved window
pub record IsKeptRecord (table : Table) (side : Side) (number n : ℕ) (kept : Runner) (far_out : ℤ)
    (saved : TapeView)
    : Type 0 where
  pub made : IsRecord table side number (steps_of kept)
  pub before : steps_of kept ≤ n
  pub at : conf table (steps_of kept)
      ≡ Some (record { state = state_of kept; head = position_of kept; tape = saved.content })
  pub far_is : far_out ≡ far table side (steps_of kept) n
  pub low : least (counted_head table) n ≤ℤ saved.low
  pub high : saved.high ≤ℤ greatest (counted_head table) n
  pub seen : state_of kept ≢ Halt → IsInside saved (position_of kept)

-- the records of a side up to step n: how many there were, and the one that is kept
pub record IsFollowed (table : Table) (n : ℕ) (records : Records) (saved : TapeView) : Type 0 where
  pub count : ℕ
  pub number : ℕ
  pub number_is : number_of records ≡ pos number
  pub top : IsTop table records.side n (pos count)
  pub kept : 0 < number → IsKeptRecord table records.side number n records.kept (nearest_out records) saved

-- the lesser position of a stretch between two that are so far out
abbrev pub lesser_of : Side → ℤ → ℤ → ℤ
lesser_of R near far_out = near
lesser_of L near far_out = neg_ℤ far_out

-- the stretch of the kept record that is compared: from the nearest position up to its head
pub record IsComparable (records : Records) (runner : Runner) (saved run : TapeView) : Type 0 where
  pub low : run.low ≤ℤ saved.low
  pub high : saved.high ≤ℤ run.high
  pub order : nearest_out records ≤ℤ number_of records
  pub later : number_of records ≤ℤ top_of records runner
  pub far_seen : IsInside run records.nearest
  pub top_seen : IsInside run (position_of runner)
  pub number_saved : IsInside saved (position_of records.kept)

-- its cells equal those just as far before the head of the record that a runner has just made
abbrev pub HasSameCells : Records → Runner → Content → Content → Type 0
HasSameCells records runner saved run = (x : ℤ) → nearest_out records ≤ℤ out records.side x
    → out records.side x ≤ℤ number_of records
    → cell saved x ≡ cell run (x +ℤ (position_of runner -ℤ position_of records.kept))

-- a record is kept, in the state in which a runner is, which is not Z
abbrev pub IsKeptInStateOf : Records → Runner → Type 0
IsKeptInStateOf records runner =
    (position_of records.kept ≢ pos 0) × (state_of records.kept ≡ state_of runner)
    × (state_of records.kept ≢ Halt)

-- the kept record agrees with the one that the runner has just made
abbrev pub AgreesWithKept : Records → Runner → TapeView → TapeView → Type 0
AgreesWithKept records runner saved run =
    IsKeptInStateOf records runner × HasSameCells records runner saved.content run.content

-- how far that one is beyond the kept one, and how many positions there are from the kept one back to the
-- nearest, both counted
pub record LiesAs (records : Records) (runner : Runner) (extent : Extent) : Type 0 where
  pub shift : pos extent.shift ≡ top_of records runner -ℤ number_of records
  pub length : pos extent.length ≡ (number_of records -ℤ nearest_out records) +ℤ pos 1

-- what was saved is at most widened, to the nearest position, which is in the window of the run
abbrev pub IsWidened : Records → TapeView → TapeView → TapeView → Type 0
IsWidened records run old new =
    (new ≡ old) ⊎ ((new ≡ visited old records.nearest) × IsInside run records.nearest)
