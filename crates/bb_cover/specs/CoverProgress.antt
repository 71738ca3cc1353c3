-- How a walk goes along a list, line by line.
use Rattle.std.specs.Prelude.{◌≡◌, ◌≢◌, ◌⊎◌, ℕ, ◌+◌, ◌^◌, ◌<◌, ◌≤◌, List, [], ◌∷◌, ◌++◌, length, Option, Some, None}
use Rattle.bb_machine.specs.Machine.{Table, symbols_of}
use Rattle.bb_cert.specs.declared.verdict.reader.Line.TheVariants as said
use Rattle.bb_cert.specs.verdict.Line.{IsLineOf}
use Rattle.laws_of_verdicts.specs.Closed.{VerdictLine}
use Rattle.laws_of_verdicts.specs.NormalForm.{IsEmpty}
use Rattle.bb_cover.specs.declared.found.Found.{Found}
use Rattle.bb_cover.specs.declared.found.Found.TheVariants.{Covers, Stops}
use Rattle.bb_cover.specs.declared.found.Stop.{Stop}
use Rattle.bb_cover.specs.declared.found.Why.{Why}
use Rattle.bb_cover.specs.declared.found.Why.TheVariants.{Unread, NotNext, Refused, TooMany, TooSoon, Beyond}
use Rattle.bb_cover.specs.declared.undefined.UndefinedEntry.{UndefinedEntry}
use Rattle.bb_cover.specs.declared.list.CoverProgress.{CoverProgress}
use Rattle.bb_cover.specs.declared.list.Size.{Size}
use Rattle.bb_cover.specs.Claims.{IsRefusedClaim, IsTrueLine}
use Rattle.bb_cover.specs.declared.task.Task.{Task}
use Rattle.bb_cover.specs.declared.content.Content.{Content}
use Rattle.bb_cover.specs.Content.{IsItemLine, Item, line_of}
use Rattle.bb_cover.specs.Counts.{counted, lines_in, marks_of, saturated}
use Rattle.bb_cover.specs.UndefinedEntries.{IsToFill}
use Rattle.bb_cover.specs.Left.{FillsAt}

-- the walk begins at this machine: the one that the list is asked for, or one with no entry
abbrev pub Starts : Option Table → Table → Type 0
Starts None table = IsEmpty table
Starts (Some first) table = table ≡ first

-- the machine is the next one, before these; that of the first line is one at which the walk begins
abbrev pub IsAsked : Option Table → Option Size → List Table → Table → List Table → Type 0
IsAsked below None left table rest = Starts below table × (rest ≡ [])
IsAsked below (Some size) left table rest = left ≡ table ∷ rest

-- the size is that of the first line's machine
abbrev pub size_after : Option Size → Table → Option Size
size_after None table = Some (record { states = length table; symbols = symbols_of table })
size_after (Some size) table = Some size

-- a machine was visited: those that fill its `---`, if there is one to fill, come in its place
pub record GoesOn (below : Option Table) (old : CoverProgress) (table : Table)
    (undefined : Option UndefinedEntry) (new : CoverProgress) : Type 0 where
  pub rest : List Table
  pub asked : IsAsked below old.size old.walk table rest
  pub more : List Table
  pub fills : FillsAt table undefined more
  pub size : new.size ≡ size_after old.size table
  pub walk : new.walk ≡ more ++ rest
  pub stop : new.stop ≡ old.stop

-- so many lines, and those of a content, are fewer than 2^64
abbrev pub HasRoom : ℕ → Content → Type 0
HasRoom lines content = lines + lines_in content < 2 ^ 64

-- the line was that of the next machine, with a verdict that may stand there, or with the counts of its shard,
-- and all lines so far can be counted
pub record Visited (task : Task) (old : CoverProgress) (bytes : List ℕ) (new : CoverProgress) : Type 0 where
  pub item : Item
  pub is_true : IsTrueLine task bytes item
  pub room : HasRoom old.counts.lines item.content
  pub undefined : Option UndefinedEntry
  pub to_fill : IsToFill (line_of item) undefined
  pub goes : GoesOn task.below old item.table undefined new
  pub counts : new.counts ≡ counted (marks_of task) old.counts item

-- the condition of each reason to stop at a line, apart from the others, after so many lines in all
abbrev pub Applies : Task → ℕ → Option Size → List Table → List ℕ → Why → Type 0
Applies task past size left bytes Beyond = (size ≢ None) × (left ≡ [])
Applies task past size left bytes Unread = (item : Item) → IsItemLine task.form item bytes → ⊥
Applies task past size left bytes NotNext = (item : Item) × IsItemLine task.form item bytes
    × ((rest : List Table) → IsAsked task.below size left item.table rest → ⊥)
Applies task past size left bytes (Refused given) = (line : VerdictLine)
    × IsLineOf (said.Claim line.table line.verdict) bytes
    × IsRefusedClaim task.limits line.table line.verdict given
Applies task past size left bytes TooMany = (item : Item) × IsItemLine task.form item bytes
    × (HasRoom past item.content → ⊥)
Applies task past size left bytes TooSoon = ⊥

-- in this order
abbrev pub rank : Why → ℕ
rank Beyond = 1
rank Unread = 2
rank NotNext = 3
rank (Refused given) = 4
rank TooMany = 5
rank TooSoon = 6

-- the first reason that applies, after so many lines in all, while the walk has still to visit these machines
pub record IsWrong (task : Task) (past : ℕ) (size : Option Size) (left : List Table) (bytes : List ℕ) (why : Why)
    : Type 0 where
  pub applies : Applies task past size left bytes why
  pub first : (other : Why) → Applies task past size left bytes other → rank why ≤ rank other

-- the line isn't the one expected by the walk
pub record Stopped (task : Task) (old : CoverProgress) (bytes : List ℕ) (new : CoverProgress) : Type 0 where
  pub why : Why
  pub wrong : IsWrong task old.counts.lines old.size old.walk bytes why
  pub stop : new.stop ≡ Some (record { line = saturated (old.counts.read + 1); why = why })
  pub counts : new.counts ≡ old.counts

-- what a line does, by whether the walk stopped before
abbrev pub TookBy : Option Stop → Task → CoverProgress → List ℕ → CoverProgress → Type 0
TookBy None task old bytes new = Visited task old bytes new ⊎ Stopped task old bytes new
TookBy (Some stop) task old bytes new = new ≡ old

abbrev pub Took : Task → CoverProgress → List ℕ → CoverProgress → Type 0
Took task old bytes new = TookBy old.stop task old bytes new

-- the list ended before the walk did
pub record EndsTooSoon (progress : CoverProgress) (stop : Stop) : Type 0 where
  pub not_stopped : progress.stop ≡ None
  pub line : stop.line ≡ saturated (progress.counts.read + 1)
  pub why : stop.why ≡ TooSoon
  pub something : progress.size ≢ None → progress.walk ≢ []

-- what is found after the last line
abbrev pub IsFoundBy : CoverProgress → Found → Type 0
IsFoundBy progress (Covers states symbols) = (progress.stop ≡ None)
    × (progress.size ≡ Some (record { states = states; symbols = symbols })) × (progress.walk ≡ [])
IsFoundBy progress (Stops stop) = (progress.stop ≡ Some stop) ⊎ EndsTooSoon progress stop
