-- How many lines of each kind there are.
use Rattle.std.specs.Prelude.{◌≡◌, ℕ, ◌+◌, ◌-◌, ◌^◌, ◌<◌, max, min, Bool, true, false, cond, nat_lt, List}
use Rattle.std.specs.Prelude.{count_by, length, map, [], ◌∷◌, zero, suc, Option, None, Some, option_map}
use Rattle.std.specs.List.{list_any}
use Rattle.std.specs.Str.{bytes_eq}
use Rattle.bb_machine.specs.Machine.{Table, text}
use Rattle.bb_cert.specs.declared.verdict.Verdict.{Verdict}
use Rattle.bb_cert.specs.declared.verdict.Verdict.TheVariants.{Halt, Cycler, Translated, Backward, Undecided}
use Rattle.laws_of_verdicts.specs.Closed.{VerdictLine}
use Rattle.bb_cover.specs.declared.content.Content.{Content}
use Rattle.bb_cover.specs.declared.content.Content.TheVariants.{Claim, Shard}
use Rattle.bb_cover.specs.declared.content.ShardCounts.{ShardCounts}
use Rattle.bb_cover.specs.declared.counts.Counts.{Counts}
use Rattle.bb_cover.specs.declared.task.Task.{Task}
use Rattle.bb_cover.specs.Content.{Item}
use Rattle.bb_cover.specs.UndefinedEntries.{undefined_entries_of}

-- of five, the one for the verdict's kind
abbrev pub by_kind : {X : Type 0} → X → X → X → X → X → Verdict → X
by_kind halt cycler translated backward undecided (Halt steps score) = halt
by_kind halt cycler translated backward undecided (Cycler first second) = cycler
by_kind halt cycler translated backward undecided (Translated side first second extent) = translated
by_kind halt cycler translated backward undecided (Backward levels nodes) = backward
by_kind halt cycler translated backward undecided (Undecided why) = undecided

-- whether a verdict is of a kind

abbrev pub is_halt : Verdict → Bool
is_halt = by_kind true false false false false

abbrev pub is_cycler : Verdict → Bool
is_cycler = by_kind false true false false false

abbrev pub is_translated : Verdict → Bool
is_translated = by_kind false false true false false

abbrev pub is_backward : Verdict → Bool
is_backward = by_kind false false false true false

abbrev pub is_undecided : Verdict → Bool
is_undecided = by_kind false false false false true

-- an undecided line whose machine has more than one `---`
abbrev pub is_wide : VerdictLine → Bool
is_wide line = cond (is_undecided line.verdict) (nat_lt 1 (undefined_entries_of line.table)) false

-- the machine's text is one of these
abbrev pub is_among : List (List ℕ) → Table → Bool
is_among texts table = list_any (λ one. bytes_eq one (text table)) texts

-- an undecided line whose machine is assumed never to halt
abbrev pub is_assumed : List (List ℕ) → VerdictLine → Bool
is_assumed texts line = cond (is_undecided line.verdict) (is_among texts line.table) false

-- the texts of the machines that a list is checked with as never halting
abbrev pub assumed_texts : Task → List (List ℕ)
assumed_texts task = map (λ one. one.items) task.assumed.items

-- the machine has this text, if one is sought
abbrev pub is_sought : Option (List ℕ) → Table → Bool
is_sought None table = false
is_sought (Some words) table = bytes_eq words (text table)

-- the machines that a list's lines are compared with: those assumed never to halt, and the one that is sought
pub record Marks : Type 0 where
  pub assumed : List (List ℕ)
  pub sought : Option (List ℕ)

abbrev pub marks_of : Task → Marks
marks_of task = record {
  assumed = assumed_texts task;
  sought = option_map (λ one. one.items) task.sought;
}

-- the steps and the score of a halt, and 0 of any other verdict

abbrev pub halt_steps : Verdict → ℕ
halt_steps (Halt steps score) = steps
halt_steps (Cycler first second) = 0
halt_steps (Translated side first second extent) = 0
halt_steps (Backward levels nodes) = 0
halt_steps (Undecided why) = 0

abbrev pub halt_score : Verdict → ℕ
halt_score (Halt steps score) = score
halt_score (Cycler first second) = 0
halt_score (Translated side first second extent) = 0
halt_score (Backward levels nodes) = 0
halt_score (Undecided why) = 0

-- a number of 64 bits, which stops here
abbrev pub saturated : ℕ → ℕ
saturated n = min n (2 ^ 64 - 1)

abbrev pub no_counts : Counts
no_counts = record {
  read = 0;
  shards = 0;
  lines = 0;
  halt = 0;
  cycler = 0;
  translated = 0;
  backward = 0;
  undecided = 0;
  wide = 0;
  assumed = 0;
  most_steps = 0;
  most_score = 0;
  place = 0;
}

-- one more where the test holds
abbrev pub more_if : Bool → ℕ → ℕ
more_if b n = cond b (saturated (n + 1)) n

-- the counts with one line more, that of a verdict
abbrev pub counted_claim : List (List ℕ) → Counts → VerdictLine → Counts
counted_claim texts counts line = record counts {
  read = saturated (counts.read + 1);
  lines = saturated (counts.lines + 1);
  halt = more_if (is_halt line.verdict) counts.halt;
  cycler = more_if (is_cycler line.verdict) counts.cycler;
  translated = more_if (is_translated line.verdict) counts.translated;
  backward = more_if (is_backward line.verdict) counts.backward;
  undecided = more_if (is_undecided line.verdict) counts.undecided;
  wide = more_if (is_wide line) counts.wide;
  assumed = more_if (is_assumed texts line) counts.assumed;
  most_steps = max counts.most_steps (halt_steps line.verdict);
  most_score = max counts.most_score (halt_score line.verdict);
}

-- that of a shard, whose own lines are counted with it
abbrev pub counted_shard : Counts → ShardCounts → Counts
counted_shard counts shard = record counts {
  read = saturated (counts.read + 1);
  shards = saturated (counts.shards + 1);
  lines = saturated (counts.lines + shard.lines);
  undecided = saturated (counts.undecided + shard.undecided);
  wide = saturated (counts.wide + shard.wide);
}

abbrev pub counted_content : List (List ℕ) → Counts → Table → Content → Counts
counted_content texts counts table (Claim verdict) =
    counted_claim texts counts (record { table = table; verdict = verdict })
counted_content texts counts table (Shard shard) = counted_shard counts shard

-- the counts with the number of the next line, if that has the machine that is sought
abbrev pub placed : Option (List ℕ) → Counts → Table → Counts
placed sought counts table = record counts {
  place = cond (is_sought sought table) (saturated (counts.read + 1)) counts.place;
}

abbrev pub counted : Marks → Counts → Item → Counts
counted marks counts item =
    counted_content marks.assumed (placed marks.sought counts item.table) item.table item.content

-- whether an item is a shard, and how many lines it stands for, how many of them undecided, and wide

abbrev pub is_shard : Content → Bool
is_shard (Claim verdict) = false
is_shard (Shard shard) = true

abbrev pub is_claim_of : (Verdict → Bool) → Content → Bool
is_claim_of test (Claim verdict) = test verdict
is_claim_of test (Shard shard) = false

abbrev pub is_assumed_in : List (List ℕ) → Table → Content → Bool
is_assumed_in texts table (Claim verdict) = is_assumed texts (record { table = table; verdict = verdict })
is_assumed_in texts table (Shard shard) = false

abbrev pub of_claim : (Verdict → ℕ) → Content → ℕ
of_claim number (Claim verdict) = number verdict
of_claim number (Shard shard) = 0

abbrev pub lines_in : Content → ℕ
lines_in (Claim verdict) = 1
lines_in (Shard shard) = shard.lines

abbrev pub undecided_in : Content → ℕ
undecided_in (Claim verdict) = cond (is_undecided verdict) 1 0
undecided_in (Shard shard) = shard.undecided

abbrev pub wide_in : Table → Content → ℕ
wide_in table (Claim verdict) = cond (is_wide (record { table = table; verdict = verdict })) 1 0
wide_in table (Shard shard) = shard.wide

-- the sum of a number over items
abbrev pub sum_of : (Item → ℕ) → List Item → ℕ
sum_of f [] = 0
sum_of f (item ∷ items) = f item + sum_of f items

-- the greatest of a number of items, and 0 of none
abbrev pub greatest_of : (Item → ℕ) → List Item → ℕ
greatest_of f [] = 0
greatest_of f (item ∷ items) = max (f item) (greatest_of f items)

-- a number among later items as one among all; if there is none, 1 for the first item, or 0
abbrev pub place_or : Bool → ℕ → ℕ
place_or first zero = cond first 1 0
place_or first (suc later) = suc (suc later)

-- the number, counted from 1, of the last item with the machine that is sought; 0 if none has it
abbrev pub place_of : Option (List ℕ) → List Item → ℕ
place_of sought [] = 0
place_of sought (item ∷ items) = place_or (is_sought sought item.table) (place_of sought items)

-- these are the counts of the items, whose lines are fewer than 2^64 in all
pub record AreCounts (marks : Marks) (items : List Item) (counts : Counts) : Type 0 where
  pub read : counts.read ≡ length items
  pub shards : counts.shards ≡ count_by (λ item. is_shard item.content) items
  pub all : counts.lines ≡ sum_of (λ item. lines_in item.content) items
  pub halt : counts.halt ≡ count_by (λ item. is_claim_of is_halt item.content) items
  pub cycler : counts.cycler ≡ count_by (λ item. is_claim_of is_cycler item.content) items
  pub translated : counts.translated ≡ count_by (λ item. is_claim_of is_translated item.content) items
  pub backward : counts.backward ≡ count_by (λ item. is_claim_of is_backward item.content) items
  pub undecided : counts.undecided ≡ sum_of (λ item. undecided_in item.content) items
  pub wide : counts.wide ≡ sum_of (λ item. wide_in item.table item.content) items
  pub assumed : counts.assumed ≡ count_by (λ item. is_assumed_in marks.assumed item.table item.content) items
  pub most_steps : counts.most_steps ≡ greatest_of (λ item. of_claim halt_steps item.content) items
  pub most_score : counts.most_score ≡ greatest_of (λ item. of_claim halt_score item.content) items
  pub place : counts.place ≡ place_of marks.sought items
  pub few : counts.lines < 2 ^ 64

-- a list has so many lines, so many of them undecided, and so many of those with more than one `---`
pub record HasTotals (verdicts : List VerdictLine) (lines undecided wide : ℕ) : Type 0 where
  pub lines_are : lines ≡ length verdicts
  pub undecided_are : undecided ≡ count_by (λ line. is_undecided line.verdict) verdicts
  pub wide_are : wide ≡ count_by is_wide verdicts
