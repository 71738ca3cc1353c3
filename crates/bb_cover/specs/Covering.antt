-- The result for a list: it covers a size, or stops at a line. This project's own.
use Rattle.std.specs.Prelude.{◌≡◌, ◌≢◌, ◌↔◌, ◌⊎◌, ℕ, ◌+◌, ◌^◌, ◌<◌, List, [], ◌∷◌, ◌++◌, length}
use Rattle.std.specs.Prelude.{Option, Some, None, Result, IfOk, IsTrue, Contains}
use Rattle.std.specs.Io.KnownBytes.{Consumes, IsAtEnd}
use Rattle.bb_machine.specs.Machine.{Table, IsMachine, symbols_of}
use Rattle.bb_sim.specs.Run.{Never}
use Rattle.bb_cert.specs.claims.Claim as claims
use Rattle.bb_lines.specs.declared.fault.Fault.{Fault}
use Rattle.bb_lines.specs.Lines.{lines}
use Rattle.laws_of_verdicts.specs.Bound.{HaltsWithin, IsLeftOpenBeside}
use Rattle.laws_of_verdicts.specs.Closed as closed
use Rattle.laws_of_verdicts.specs.Closed.{HaltsSoon, IsLeftOpen, VerdictLine, blank_table}
use Rattle.laws_of_verdicts.specs.Walk.{IsWalk}
use Rattle.bb_cover.specs.declared.counts.Counts.{Counts}
use Rattle.bb_cover.specs.declared.found.Found.{Found}
use Rattle.bb_cover.specs.declared.found.Found.TheVariants.{Covers, Stops}
use Rattle.bb_cover.specs.declared.found.Stop.{Stop}
use Rattle.bb_cover.specs.declared.found.Why.{Why}
use Rattle.bb_cover.specs.declared.found.Why.TheVariants.{TooSoon}
use Rattle.bb_cover.specs.declared.list.Cover.{Cover}
use Rattle.bb_cover.specs.declared.list.Size.{Size}
use Rattle.bb_cover.specs.Claims.{AreTrueLines}
use Rattle.bb_cover.specs.declared.content.Content.{Content}
use Rattle.bb_cover.specs.declared.content.Content.TheVariants.{Claim, Shard}
use Rattle.bb_cover.specs.declared.content.ShardCounts.{ShardCounts}
use Rattle.bb_cover.specs.declared.task.Form.TheVariants.{Verdicts}
use Rattle.bb_cover.specs.declared.task.Task.{Task}
use Rattle.bb_cover.specs.Content.{Item, lines_of}
use Rattle.bb_cover.specs.Counts.{AreCounts, HasTotals, assumed_texts, is_among, lines_in, marks_of, saturated, sum_of}
use Rattle.bb_cover.specs.CoverProgress.{IsWrong}

-- the machine at which the walk begins, of so many states and symbols
abbrev pub root_of : Option Table → ℕ → ℕ → Table
root_of None states symbols = blank_table states symbols
root_of (Some first) states symbols = first

-- the size is that of the machine that the list is asked for, if it is asked for one
abbrev pub HasSize : Option Table → ℕ → ℕ → Type 0
HasSize None states symbols = Unit {0}
HasSize (Some first) states symbols = (states ≡ length first) × (symbols ≡ symbols_of first)

-- the bytes of these lines are those of a walk through all machines of a size, or through those below a
-- machine, each with a verdict to which the checker answers `ok` or `open`; a shard stands for the walk below
-- its machine. All lines are fewer than 2^64, with those of the shards
pub record IsWholeWalk (task : Task) (bytes : List (List ℕ)) (states symbols : ℕ) : Type 0 where
  pub items : List Item
  pub are_true : AreTrueLines task bytes items
  pub few : sum_of (λ item. lines_in item.content) items < 2 ^ 64
  pub sized : HasSize task.below states symbols
  pub walk : IsWalk (root_of task.below states symbols ∷ []) (lines_of items)

-- the lines are those of the walk that begins at this machine, and true
pub record IsWalkBelow (table : Table) (verdicts : List VerdictLine) : Type 0 where
  pub walk : IsWalk (table ∷ []) verdicts
  pub machines : (line : VerdictLine) → Contains verdicts line → IsMachine line.table
  pub claims : (line : VerdictLine) → Contains verdicts line → claims.Claim line.table line.verdict

-- the lines of a shard: the walk below its machine, with these counts
pub record IsShardOf (table : Table) (shard : ShardCounts) (verdicts : List VerdictLine) : Type 0 where
  pub below : IsWalkBelow table verdicts
  pub totals : HasTotals verdicts shard.lines shard.undecided shard.wide

-- the verdict lines for which an item stands
abbrev pub IsPart : Table → Content → List VerdictLine → Type 0
IsPart table (Claim verdict) part = part ≡ record { table = table; verdict = verdict } ∷ []
IsPart table (Shard shard) part = IsShardOf table shard part

abbrev pub AreParts : List Item → List (List VerdictLine) → Type 0
AreParts [] [] = Unit {0}
AreParts [] (part ∷ parts) = ⊥
AreParts (item ∷ items) [] = ⊥
AreParts (item ∷ items) (part ∷ parts) = IsPart item.table item.content part × AreParts items parts

abbrev pub joined : List (List VerdictLine) → List VerdictLine
joined [] = []
joined (part ∷ parts) = part ++ joined parts

-- each machine of the size halts at most a step later than one of the lines, never halts, or completes one of
-- an undecided line, up to a change
abbrev pub DecidesSize : List VerdictLine → ℕ → ℕ → Type 0
DecidesSize verdicts states symbols = (machine : Table) → IsMachine machine → length machine ≡ states
    → symbols_of machine ≡ symbols
    → HaltsSoon verdicts machine ⊎ (Never machine ⊎ IsLeftOpen verdicts machine)

-- a whole walk covers its size, which decides its machines
abbrev pub CoversRoot : Option Table → List VerdictLine → ℕ → ℕ → Type 0
CoversRoot None verdicts states symbols =
    closed.Covers verdicts states symbols × DecidesSize verdicts states symbols
CoversRoot (Some first) verdicts states symbols = Unit {0}

-- these verdict lines are the whole walk, and the counts are theirs
pub record IsJoinedWalk (below : Option Table) (counts : Counts) (states symbols : ℕ)
    (verdicts : List VerdictLine) : Type 0 where
  pub below_root : IsWalkBelow (root_of below states symbols) verdicts
  pub covers : CoversRoot below verdicts states symbols
  pub totals : HasTotals verdicts counts.lines counts.undecided counts.wide

-- if the assumed machines never halt, each machine of the size halts within the greatest steps and score of
-- the lines' halts, with one more of each, never halts, or completes one of another undecided line
abbrev pub BoundsSize : List (List ℕ) → List VerdictLine → Counts → ℕ → ℕ → Type 0
BoundsSize texts verdicts counts states symbols = (machine : Table) → IsMachine machine
    → length machine ≡ states → symbols_of machine ≡ symbols
    → ((table : Table) → IsMachine table → IsTrue (is_among texts table) → Never table)
    → HaltsWithin (counts.most_steps + 1) (counts.most_score + 1) machine
    ⊎ (Never machine ⊎ IsLeftOpenBeside (is_among texts) verdicts machine)

-- so with the lines of each shard in its place, whatever they are, the list is a whole walk; without shards
-- it is that itself, and bounds the halts of its size
pub record CoversSize (task : Task) (bytes : List (List ℕ)) (counts : Counts) (states symbols : ℕ)
    : Type 0 where
  pub whole : IsWholeWalk task bytes states symbols
  pub counted : AreCounts (marks_of task) whole.items counts
  pub joins : (parts : List (List VerdictLine)) → AreParts whole.items parts
      → IsJoinedWalk task.below counts states symbols (joined parts)
  pub bounds : task.form ≡ Verdicts → task.below ≡ None
      → BoundsSize (assumed_texts task) (lines_of whole.items) counts states symbols

-- the machines that a walk along these lines has still to visit. Before the first line there is no size; then
-- it is that of the first line's machine, at which the walk begins.
abbrev pub HasLeft : Option Table → Option Size → List Table → List VerdictLine → Type 0
HasLeft below None left verdicts = (verdicts ≡ []) × (left ≡ [])
HasLeft below (Some size) left verdicts = (verdicts ≢ []) × ((tail : List VerdictLine) → IsWalk left tail
    ↔ IsWalk (root_of below size.states size.symbols ∷ []) (verdicts ++ tail))

-- at a line, or at the end of all, after so many lines in all, the walk has still to visit these machines, and
-- the line isn't the one expected
abbrev pub IsWrongAt : Task → ℕ → Option Size → List Table → List (List ℕ) → Why → Type 0
IsWrongAt task past size left [] why = (why ≡ TooSoon) × (size ≢ None → left ≢ [])
IsWrongAt task past size left (bytes ∷ more) why = IsWrong task past size left bytes why

-- the walk stops at this line: those before it are a beginning of a whole walk
pub record StopsAt (task : Task) (bytes : List (List ℕ)) (counts : Counts) (stop : Stop) : Type 0 where
  pub before : List (List ℕ)
  pub after : List (List ℕ)
  pub all : bytes ≡ before ++ after
  pub items : List Item
  pub are_true : AreTrueLines task before items
  pub size : Option Size
  pub left : List Table
  pub has_left : HasLeft task.below size left (lines_of items)
  pub wrong : IsWrongAt task counts.lines size left after stop.why
  pub line : stop.line ≡ saturated (length before + 1)
  pub counted : AreCounts (marks_of task) items counts

abbrev pub IsFound : Task → List (List ℕ) → Counts → Found → Type 0
IsFound task bytes counts (Covers states symbols) = CoversSize task bytes counts states symbols
IsFound task bytes counts (Stops stop) = StopsAt task bytes counts stop

-- the result for a list; it covers a size exactly if its lines are a whole walk
pub record IsCover (task : Task) (bytes : List (List ℕ)) (cover : Cover) : Type 0 where
  pub found : IsFound task bytes cover.counts cover.found
  pub exact : (states symbols : ℕ) → IsWholeWalk task bytes states symbols
      → cover.found ≡ Covers states symbols

-- the result of a run, by the bytes left in the reader before and after: some were read; without a fault all,
-- and the result is that of their lines
abbrev pub CoverEnds : Task → Option (List ℕ) → Option (List ℕ) → Result Cover Fault → Type 0
CoverEnds task left left_then end = (taken : List ℕ) × Consumes left left_then taken
    × IfOk end (λ cover. IsAtEnd left_then × IsCover task (lines taken) cover)

-- no list has two results: its bytes determine size or stop, and counts
abbrev pub CoverIsUnique : Type 0
CoverIsUnique = (task : Task) (bytes : List (List ℕ)) (one two : Cover) → IsCover task bytes one
    → IsCover task bytes two → (one.found ≡ two.found) × (one.counts ≡ two.counts)
