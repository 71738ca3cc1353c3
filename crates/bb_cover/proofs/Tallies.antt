-- How many lines of each kind there are, with one line more.
use Rattle.std.proofs.Common.{◌≡◌, ℕ, ◌+◌, ◌<◌, ◌≤◌, ◌^◌, suc, Bool, true, false, cond, List, [], ◌∷◌, ◌++◌, Option}
use Rattle.std.proofs.Common.{length, refl, ap, ap₂, rules, sym, subst, ◌∙◌, arith, length-append}
use Rattle.std.specs.Prelude.{count_by, max}
use Rattle.std.proofs.lemmas.List.Sums.{sum_by-append}
use Rattle.bb_machine.specs.Machine.{Table}
use Rattle.bb_cert.specs.declared.verdict.Verdict.{Verdict}
use Rattle.bb_cover.specs.declared.content.Content.{Content}
use Rattle.bb_cover.specs.declared.content.Content.TheVariants.{Claim, Shard}
use Rattle.bb_cover.specs.declared.content.ShardCounts.{ShardCounts}
use Rattle.bb_cover.specs.declared.counts.Counts.{Counts}
use Rattle.bb_cover.specs.declared.task.Form.{Form}
use Rattle.bb_cover.specs.declared.task.Task.{Task}
use Rattle.bb_cover.specs.Claims.{AreTrueLines}
use Rattle.bb_cover.specs.Content.{ArePossible, IsContentLine, Item}
use Rattle.bb_cover.specs.Counts.{AreCounts, counted, counted_claim, counted_content, counted_shard, is_backward}
use Rattle.bb_cover.specs.Counts.{is_claim_of, is_cycler, is_halt, is_shard, is_translated, is_undecided, is_wide}
use Rattle.bb_cover.specs.CoverProgress.{HasRoom}
use Rattle.bb_cover.specs.Counts.{greatest_of, halt_score, halt_steps, is_assumed_in, lines_in, more_if, no_counts}
use Rattle.bb_cover.specs.Counts.{Marks, is_sought, of_claim, place_of, place_or, placed, saturated, sum_of, undecided_in, wide_in}

-- a content of which a walk may be told

abbrev pub IsCountable : Content → Type 0
IsCountable (Claim verdict) = Unit {0}
IsCountable (Shard shard) = ArePossible shard

abbrev pub AreCountable : List Item → Type 0
AreCountable [] = Unit {0}
AreCountable (item ∷ items) = IsCountable item.content × AreCountable items

countable_line : (form : Form) (table : Table) (content : Content) (bytes : List ℕ)
    → IsContentLine form table content bytes → IsCountable content
countable_line form table (Claim verdict) bytes is = tt
countable_line form table (Shard shard) bytes is = is.1.numbers.1

pub countable : (task : Task) (bytes : List (List ℕ)) (items : List Item) → AreTrueLines task bytes items
    → AreCountable items
countable task [] [] are = tt
countable task (b ∷ bytes) (item ∷ items) are = (
  countable_line task.form item.table item.content b are.0.is_line,
  countable task bytes items are.1,
)
countable task bytes items are = absurd are

-- no count is greater than that of all lines

abbrev pub all_in : Item → ℕ
all_in item = lines_in item.content

at_most_one : (b : Bool) (n : ℕ) → 1 ≤ n → cond b 1 0 ≤ n
at_most_one true n some = some
at_most_one false n some = omega arith

some_lines : (content : Content) → IsCountable content → 1 ≤ lines_in content
some_lines (Claim verdict) is = omega arith
some_lines (Shard shard) is = is.some

undecided_below : (content : Content) → IsCountable content → undecided_in content ≤ lines_in content
undecided_below (Claim verdict) is = at_most_one (is_undecided verdict) 1 (omega arith)
undecided_below (Shard shard) is = is.undecided

wide_below : (table : Table) (content : Content) → IsCountable content
    → wide_in table content ≤ lines_in content
wide_below table (Claim verdict) is =
    at_most_one (is_wide (record { table = table; verdict = verdict })) 1 (omega arith)
wide_below table (Shard shard) is =
    let wide = is.wide in let undecided = is.undecided in omega (arith, wide, undecided)

sum_below : (f : Item → ℕ) → ((item : Item) → IsCountable item.content → f item ≤ all_in item)
    → (items : List Item) → AreCountable items → sum_of f items ≤ sum_of all_in items
sum_below f below [] are = omega arith
sum_below f below (item ∷ items) are =
    let here = below item are.0 in
    let rest = sum_below f below items are.1 in
    omega (arith, here, rest)

count_below : (p : Item → Bool) (items : List Item) → AreCountable items
    → count_by p items ≤ sum_of all_in items
count_below p [] are = omega arith
count_below p (item ∷ items) are =
    let first : count_by p (item ∷ items) ≡ cond (p item) 1 0 + count_by p items =
    omega (arith, sum_by-append (λ x. cond (p x) 1 0) (item ∷ []) items) in
    let here = at_most_one (p item) (all_in item) (some_lines item.content are.0) in
    let rest = count_below p items are.1 in
    omega (arith, first, here, rest)

length_below : (items : List Item) → AreCountable items → length items ≤ sum_of all_in items
length_below [] are = omega arith
length_below (item ∷ items) are =
    let here = some_lines item.content are.0 in
    let rest = length_below items are.1 in
    omega (arith, here, rest)

within : (n k : ℕ) → n ≤ k → k < 2 ^ 64 → n < 2 ^ 64
within n k below few = omega (arith, below, few)

count_more : (p : Item → Bool) (items : List Item) (item : Item)
    → count_by p (items ++ item ∷ []) ≡ count_by p items + cond (p item) 1 0
count_more p items item = omega (arith, sum_by-append (λ x. cond (p x) 1 0) items (item ∷ []))

pub sum_more : (f : Item → ℕ) (items : List Item) (item : Item)
    → sum_of f (items ++ item ∷ []) ≡ sum_of f items + f item
sum_more f [] item = omega arith
sum_more f (x ∷ items) item = let rest = sum_more f items item in omega (arith, rest)

greatest_more : (f : Item → ℕ) (items : List Item) (item : Item)
    → greatest_of f (items ++ item ∷ []) ≡ max (greatest_of f items) (f item)
greatest_more f [] item = omega arith
greatest_more f (x ∷ items) item = let rest = greatest_more f items item in omega (arith, rest)

-- the greatest number with one item more, and with one that has none

greatest_with : (f : Item → ℕ) (items : List Item) (item : Item) (old : ℕ) → old ≡ greatest_of f items
    → max old (f item) ≡ greatest_of f (items ++ item ∷ [])
greatest_with f items item old is = let more = greatest_more f items item in omega (arith, is, more)

greatest_same : (f : Item → ℕ) (items : List Item) (item : Item) (old : ℕ) → f item ≡ 0
    → old ≡ greatest_of f items → old ≡ greatest_of f (items ++ item ∷ [])
greatest_same f items item old none is = let more = greatest_more f items item in omega (arith, none, is, more)

count_if : (b : Bool) (n : ℕ) → n + cond b 1 0 < 2 ^ 64 → more_if b n ≡ n + cond b 1 0
count_if true n few = omega (arith, few)
count_if false n few = omega arith

-- a count with one item more, by the test of that item, and a sum with it

kind_more : (p : Item → Bool) (items : List Item) (item : Item) (old : ℕ) → old ≡ count_by p items
    → count_by p (items ++ item ∷ []) < 2 ^ 64 → more_if (p item) old ≡ count_by p (items ++ item ∷ [])
kind_more p items item old is few =
    ap (more_if (p item)) is
    ∙ count_if (p item) (count_by p items) (subst (λ n. n < 2 ^ 64) (count_more p items item) few)
    ∙ sym (count_more p items item)

sum_with : (f : Item → ℕ) (items : List Item) (item : Item) (old : ℕ) → old ≡ sum_of f items
    → sum_of f (items ++ item ∷ []) < 2 ^ 64 → saturated (old + f item) ≡ sum_of f (items ++ item ∷ [])
sum_with f items item old is few = let more = sum_more f items item in omega (arith, is, few, more)

sum_if : (f : Item → ℕ) (items : List Item) (item : Item) (b : Bool) (old : ℕ) → f item ≡ cond b 1 0
    → old ≡ sum_of f items → sum_of f (items ++ item ∷ []) < 2 ^ 64
    → more_if b old ≡ sum_of f (items ++ item ∷ [])
sum_if f items item b old one is few =
    let more = sum_more f items item ∙ ap (λ n. sum_of f items + n) one in
    ap (more_if b) is ∙ count_if b (sum_of f items) (subst (λ n. n < 2 ^ 64) more few) ∙ sym more

read_more : (items : List Item) (item : Item) (old : ℕ) → old ≡ length items
    → length (items ++ item ∷ []) < 2 ^ 64 → saturated (old + 1) ≡ length (items ++ item ∷ [])
read_more items item old is few =
    let more = length-append items (item ∷ []) in omega (arith, is, few, more)

-- the counts of all, which are fewer than 2^64 lines
module _ (all : List Item) (are : AreCountable all) (few : sum_of all_in all < 2 ^ 64) where
  few_kinds : (p : Item → Bool) → count_by p all < 2 ^ 64
  few_kinds p = within (count_by p all) (sum_of all_in all) (count_below p all are) few

  few_sums : (f : Item → ℕ) → ((item : Item) → IsCountable item.content → f item ≤ all_in item)
      → sum_of f all < 2 ^ 64
  few_sums f below = within (sum_of f all) (sum_of all_in all) (sum_below f below all are) few

  few_read : length all < 2 ^ 64
  few_read = within (length all) (sum_of all_in all) (length_below all are) few

  few_undecided : sum_of (λ item. undecided_in item.content) all < 2 ^ 64
  few_undecided = few_sums (λ item. undecided_in item.content) (λ item is. undecided_below item.content is)

  few_wide : sum_of (λ item. wide_in item.table item.content) all < 2 ^ 64
  few_wide = few_sums (λ item. wide_in item.table item.content)
      (λ item is. wide_below item.table item.content is)

pub none_counted : (marks : Marks) → AreCounts marks [] no_counts
none_counted marks = search rules

-- the number of the last item with the machine that is sought, with one item more
place_with : (sought : Option (List ℕ)) (items : List Item) (item : Item)
    → place_of sought (items ++ item ∷ []) ≡ cond (is_sought sought item.table) (length items + 1) (place_of sought items)
place_with sought [] item = refl
place_with sought (x ∷ items) item = ap (place_or (is_sought sought x.table)) (place_with sought items item)
    ∙ by (is_sought sought item.table) where
      by : (found : Bool) → place_or (is_sought sought x.table) (cond found (length items + 1) (place_of sought items))
          ≡ cond found (length (x ∷ items) + 1) (place_of sought (x ∷ items))
      by true =
          let one : length items + 1 ≡ suc (length items) = omega arith in
          let two : suc (suc (length items)) ≡ suc (length items) + 1 = omega arith in
          ap (place_or (is_sought sought x.table)) one ∙ two
      by false = refl

place_more : (sought : Option (List ℕ)) (items : List Item) (item : Item) (read place : ℕ) → read ≡ length items
    → place ≡ place_of sought items → length (items ++ item ∷ []) < 2 ^ 64
    → cond (is_sought sought item.table) (saturated (read + 1)) place ≡ place_of sought (items ++ item ∷ [])
place_more sought items item read place is_read is_place few =
    let all = length-append items (item ∷ []) in
    let next : saturated (read + 1) ≡ length items + 1 = omega (arith, is_read, few, all) in
    ap₂ (cond (is_sought sought item.table)) next is_place ∙ sym (place_with sought items item)

abbrev with_one : List Item → Table → Content → List Item
with_one items table content = items ++ record { table = table; content = content } ∷ []

claim_counted : (marks : Marks) (items : List Item) (table : Table) (verdict : Verdict) (old : Counts)
    → AreCountable (with_one items table (Claim verdict))
    → sum_of all_in (with_one items table (Claim verdict)) < 2 ^ 64 → AreCounts marks items old
    → AreCounts marks (with_one items table (Claim verdict))
    (counted_claim marks.assumed (placed marks.sought old table) (record { table = table; verdict = verdict }))
claim_counted marks items table verdict old may few are =
    let item : Item = record { table = table; content = Claim verdict } in
    let all = items ++ item ∷ [] in
    let kinds = few_kinds all may few in
    let lines = sum_with all_in items item old.lines are.all few in
    record {
      read = read_more items item old.read are.read (few_read all may few);
      shards = kind_more (λ i. is_shard i.content) items item old.shards are.shards (kinds _);
      all = lines;
      halt = kind_more (λ i. is_claim_of is_halt i.content) items item old.halt are.halt (kinds _);
      cycler = kind_more (λ i. is_claim_of is_cycler i.content) items item old.cycler are.cycler (kinds _);
      translated = kind_more (λ i. is_claim_of is_translated i.content) items item old.translated
          are.translated (kinds _);
      backward = kind_more (λ i. is_claim_of is_backward i.content) items item old.backward are.backward
          (kinds _);
      undecided = sum_if (λ i. undecided_in i.content) items item (is_undecided verdict) old.undecided refl
          are.undecided (few_undecided all may few);
      wide = sum_if (λ i. wide_in i.table i.content) items item
          (is_wide (record { table = table; verdict = verdict })) old.wide refl are.wide
          (few_wide all may few);
      assumed = kind_more (λ i. is_assumed_in marks.assumed i.table i.content) items item old.assumed are.assumed
          (kinds _);
      most_steps = greatest_with (λ i. of_claim halt_steps i.content) items item old.most_steps are.most_steps;
      most_score = greatest_with (λ i. of_claim halt_score i.content) items item old.most_score are.most_score;
      place = place_more marks.sought items item old.read old.place are.read are.place (few_read all may few);
      few = subst (λ n. n < 2 ^ 64) (sym lines) few;
    }

shard_counted : (marks : Marks) (items : List Item) (table : Table) (shard : ShardCounts) (old : Counts)
    → AreCountable (with_one items table (Shard shard))
    → sum_of all_in (with_one items table (Shard shard)) < 2 ^ 64 → AreCounts marks items old
    → AreCounts marks (with_one items table (Shard shard)) (counted_shard (placed marks.sought old table) shard)
shard_counted marks items table shard old may few are =
    let item : Item = record { table = table; content = Shard shard } in
    let all = items ++ item ∷ [] in
    let kinds = few_kinds all may few in
    let lines = sum_with all_in items item old.lines are.all few in
    record {
      read = read_more items item old.read are.read (few_read all may few);
      shards = kind_more (λ i. is_shard i.content) items item old.shards are.shards (kinds _);
      all = lines;
      halt = kind_more (λ i. is_claim_of is_halt i.content) items item old.halt are.halt (kinds _);
      cycler = kind_more (λ i. is_claim_of is_cycler i.content) items item old.cycler are.cycler (kinds _);
      translated = kind_more (λ i. is_claim_of is_translated i.content) items item old.translated
          are.translated (kinds _);
      backward = kind_more (λ i. is_claim_of is_backward i.content) items item old.backward are.backward
          (kinds _);
      undecided = sum_with (λ i. undecided_in i.content) items item old.undecided are.undecided
          (few_undecided all may few);
      wide = sum_with (λ i. wide_in i.table i.content) items item old.wide are.wide (few_wide all may few);
      assumed = kind_more (λ i. is_assumed_in marks.assumed i.table i.content) items item old.assumed are.assumed
          (kinds _);
      most_steps = greatest_same (λ i. of_claim halt_steps i.content) items item old.most_steps refl
          are.most_steps;
      most_score = greatest_same (λ i. of_claim halt_score i.content) items item old.most_score refl
          are.most_score;
      place = place_more marks.sought items item old.read old.place are.read are.place (few_read all may few);
      few = subst (λ n. n < 2 ^ 64) (sym lines) few;
    }

pub one_counted : (marks : Marks) (items : List Item) (item : Item) (old new : Counts)
    → AreCountable (items ++ item ∷ []) → HasRoom old.lines item.content → AreCounts marks items old
    → new ≡ counted marks old item → AreCounts marks (items ++ item ∷ []) new
one_counted marks items item old new may room are is = rw is (by item.content may few)
  where
    few : sum_of all_in (items ++ item ∷ []) < 2 ^ 64
    few = let more = sum_more all_in items item in let all = are.all in omega (arith, more, all, room)

    by : (content : Content) → AreCountable (with_one items item.table content)
        → sum_of all_in (with_one items item.table content) < 2 ^ 64
        → AreCounts marks (with_one items item.table content) (counted_content marks.assumed (placed marks.sought old item.table) item.table content)
    by (Claim verdict) may few = claim_counted marks items item.table verdict old may few are
    by (Shard shard) may few = shard_counted marks items item.table shard old may few are

-- so many lines and those of the next item are within all
sum_within : (first later : List Item) (item : Item)
    → sum_of all_in first + all_in item ≤ sum_of all_in (first ++ item ∷ later)
sum_within [] later item = omega arith
sum_within (x ∷ first) later item = let rest = sum_within first later item in omega (arith, rest)

pub room_within : (marks : Marks) (all first later : List Item) (item : Item) (counts : Counts)
    → AreCounts marks first counts → all ≡ first ++ item ∷ later → sum_of all_in all < 2 ^ 64 → HasRoom counts.lines item.content
room_within marks all first later item counts are is few =
    let past = are.all in
    let inside = sum_within first later item in
    let fits = subst (λ items. sum_of all_in items < 2 ^ 64) is few in
    omega (arith, past, inside, fits)

-- the number of the line after these
pub next_line : (marks : Marks) (items : List Item) (bytes : List (List ℕ)) (counts : Counts)
    → AreCounts marks items counts → length items ≡ length bytes → saturated (counts.read + 1) ≡ saturated (length bytes + 1)
next_line marks items bytes counts are same = ap (λ n. saturated (n + 1)) (are.read ∙ same)
