-- What the lines of a list come to, from what each line did.
use Rattle.std.proofs.Common.{◌≡◌, ◌≢◌, ℕ, zero, suc, ◌+◌, ◌<◌, ◌^◌, List, [], ◌∷◌, ◌++◌}
use Rattle.std.proofs.Common.{Option, Some, None, length, replicate, inl, inr, refl, ap, ap₂, sym, subst, ◌∙◌}
use Rattle.std.proofs.Common.{arith, ◌↔◌}
use Rattle.std.proofs.Common.{append_assoc}
use Rattle.std.specs.List.{FoldsTo}
use Rattle.std.proofs.lemmas.Fn.{chained_keeps}
use Rattle.std.proofs.lemmas.List.{append-nil, length-replicate}
use Rattle.bb_machine.specs.declared.entry.Entry.TheVariants.{Undefined}
use Rattle.bb_machine.specs.Machine.{Table, IsMachine, symbols_of}
use Rattle.laws_of_verdicts.specs.Closed.{VerdictLine, blank_table}
use Rattle.laws_of_verdicts.specs.NormalForm.{IsEmpty}
use Rattle.laws_of_verdicts.specs.Walk.{IsWalk}
use Rattle.laws_of_verdicts.proofs.Facts.{blank_table-none}
use Rattle.bb_cover.specs.declared.counts.Counts.{Counts}
use Rattle.bb_cover.specs.declared.found.Found.{Found}
use Rattle.bb_cover.specs.declared.found.Found.TheVariants.{Covers, Stops}
use Rattle.bb_cover.specs.declared.found.Stop.{Stop}
use Rattle.bb_cover.specs.declared.found.Why.{Why}
use Rattle.bb_cover.specs.declared.found.Why.TheVariants.{Unread, NotNext, Refused, TooMany, TooSoon, Beyond}
use Rattle.bb_cover.specs.declared.list.CoverProgress.{CoverProgress}
use Rattle.bb_cover.specs.declared.list.Cover.{Cover}
use Rattle.bb_cover.specs.declared.list.Size.{Size}
use Rattle.bb_cover.specs.declared.content.Content.{Content}
use Rattle.bb_cover.specs.declared.content.Content.TheVariants.{Claim, Shard}
use Rattle.bb_cover.specs.declared.task.Form.{Form}
use Rattle.bb_cover.specs.declared.task.Task.{Task}
use Rattle.bb_cover.specs.Claims.{AreTrueLines, IsFineContent, IsTrueLine}
use Rattle.bb_cover.specs.Content.{IsItemLine, Item, line_of, lines_of}
use Rattle.bb_cover.specs.Counts.{AreCounts, marks_of, no_counts, saturated}
use Rattle.bb_cover.specs.CoverProgress.{Applies, EndsTooSoon, IsAsked, IsFoundBy, IsWrong, Stopped, TookBy, Visited}
use Rattle.bb_cover.specs.CoverProgress.{HasRoom, Starts, size_after}
use Rattle.bb_cover.specs.Covering.{CoversSize, HasLeft, HasSize, IsCover, IsFound, IsWholeWalk, root_of}
use Rattle.bb_cover.specs.Covering.{IsWrongAt, StopsAt}
use Rattle.bb_cover.proofs.Judging.{fine_or_not}
use Rattle.bb_cover.proofs.Greatest.{bounds}
use Rattle.bb_cover.proofs.Parts.{joins}
use Rattle.bb_cover.proofs.ShardLines.{one_item}
use Rattle.bb_cover.proofs.Steps.{goes_on}
use Rattle.bb_cover.proofs.Tables.{empty_is}
use Rattle.bb_cover.proofs.Tallies.{countable, next_line, none_counted, one_counted, room_within}

-- true lines

some_pushed : (lines : List VerdictLine) (line : VerdictLine) → lines ++ line ∷ [] ≢ []
some_pushed [] line none = cc
some_pushed (l ∷ lines) line none = cc

true_push : (task : Task) (bytes : List (List ℕ)) (items : List Item) (b : List ℕ) (i : Item)
    → AreTrueLines task bytes items → IsTrueLine task b i
    → AreTrueLines task (bytes ++ b ∷ []) (items ++ i ∷ [])
true_push task [] [] b i are is = (is, tt)
true_push task (x ∷ bytes) (y ∷ items) b i are is = (are.0, true_push task bytes items b i are.1 is)
true_push task bytes items b i are is = absurd are

true_length : (task : Task) (bytes : List (List ℕ)) (items : List Item) → AreTrueLines task bytes items
    → length items ≡ length bytes
true_length task [] [] are = refl
true_length task (x ∷ bytes) (y ∷ items) are = ap suc (true_length task bytes items are.1)
true_length task bytes items are = absurd are

-- the same bytes say the same items
pub same_true : (task : Task) (bytes : List (List ℕ)) (a b : List Item) → AreTrueLines task bytes a
    → AreTrueLines task bytes b → a ≡ b
same_true task [] [] [] one two = refl
same_true task [] [] (y ∷ b) one two = absurd two
same_true task [] (x ∷ a) b one two = absurd one
same_true task (c ∷ bytes) [] b one two = absurd one
same_true task (c ∷ bytes) (x ∷ a) [] one two = absurd two
same_true task (c ∷ bytes) (x ∷ a) (y ∷ b) one two =
    ap (λ l. l ∷ a) (one_item task.form c x y one.0.is_line two.0.is_line)
    ∙ ap (λ l. y ∷ l) (same_true task bytes a b one.1 two.1)

-- the item behind those of the first bytes
pub record Behind (task : Task) (first : List Item) (bytes : List ℕ) (all : List Item) : Type 0 where
  pub item : Item
  pub later : List Item
  pub is_true : IsTrueLine task bytes item
  pub whole : all ≡ first ++ item ∷ later

pub behind : (task : Task) (before : List (List ℕ)) (bytes : List ℕ) (after : List (List ℕ))
    (first all : List Item) → AreTrueLines task before first
    → AreTrueLines task (before ++ bytes ∷ after) all → Behind task first bytes all
behind task [] bytes after [] [] one two = absurd two
behind task [] bytes after [] (l ∷ all) one two =
    record { item = l; later = all; is_true = two.0; whole = refl }
behind task [] bytes after (x ∷ first) all one two = absurd one
behind task (b ∷ before) bytes after [] all one two = absurd one
behind task (b ∷ before) bytes after (x ∷ first) [] one two = absurd two
behind task (b ∷ before) bytes after (x ∷ first) (y ∷ all) one two =
    let rest = behind task before bytes after first all one.1 two.1 in
    record {
      item = rest.item;
      later = rest.later;
      is_true = rest.is_true;
      whole = ap (λ l. l ∷ all) (sym (one_item task.form b x y one.0.is_line two.0.is_line))
          ∙ ap (λ l. x ∷ l) rest.whole;
    }

-- their lines in the walk
pub lines-append : (a b : List Item) → lines_of (a ++ b) ≡ lines_of a ++ lines_of b
lines-append [] b = refl
lines-append (x ∷ a) b = ap (λ l. line_of x ∷ l) (lines-append a b)

-- sizes

same_size : (n k n' k' : ℕ) → 0 < n → blank_table n k ≡ blank_table n' k' → (n ≡ n') × (k ≡ k')
same_size n k n' k' some same = (states, columns n n' some (some_too) same)
  where
    states : n ≡ n'
    states = sym (length-replicate n (replicate k Undefined)) ∙ ap length same
        ∙ length-replicate n' (replicate k' Undefined)

    some_too : 0 < n'
    some_too = omega (arith, some, states)

    columns : (a b : ℕ) → 0 < a → 0 < b → blank_table a k ≡ blank_table b k' → k ≡ k'
    columns zero b h g e = absurd (omega (arith, h))
    columns (suc a) zero h g e = absurd (omega (arith, g))
    columns (suc a) (suc b) h g e =
        sym (length-replicate k Undefined) ∙ ap symbols_of e ∙ length-replicate k' Undefined

-- the first line's machine is that at which the walk begins
pub record Begins (below : Option Table) (lines : List VerdictLine) (size : Size) : Type 0 where
  pub first : VerdictLine
  pub later : List VerdictLine
  pub whole : lines ≡ first ∷ later
  pub machine : IsMachine first.table
  pub root : first.table ≡ root_of below size.states size.symbols
  pub sized : HasSize below size.states size.symbols

-- a walk along lines that begin so is one of that size
begun_size : (below : Option Table) (lines more : List VerdictLine) (size : Size) (n k : ℕ)
    → Begins below lines size → HasSize below n k → IsWalk (root_of below n k ∷ []) (lines ++ more)
    → (size.states ≡ n) × (size.symbols ≡ k)
begun_size None lines more size n k begins sized walk =
    let walk_too : IsWalk (blank_table n k ∷ []) (begins.first ∷ (begins.later ++ more)) =
    subst (λ l. IsWalk (blank_table n k ∷ []) (l ++ more)) begins.whole walk in
    let is = walk_too.0 in
    let long : length begins.first.table ≡ size.states =
    ap length begins.root ∙ length-replicate size.states (replicate size.symbols Undefined) in
    same_size size.states size.symbols n k (omega (arith, long)) (sym begins.root ∙ is)
begun_size (Some first) lines more size n k begins sized walk =
    (begins.sized.0 ∙ sym sized.0, begins.sized.1 ∙ sym sized.1)

-- a machine at which a walk begins

starts_is : (below : Option Table) (table : Table) → IsMachine table → Starts below table
    → table ≡ root_of below (length table) (symbols_of table)
starts_is None table machine starts = empty_is table machine starts
starts_is (Some first) table machine starts = starts

starts_sized : (below : Option Table) (table : Table) → Starts below table
    → HasSize below (length table) (symbols_of table)
starts_sized None table starts = tt
starts_sized (Some first) table starts = (ap length starts, ap symbols_of starts)

pub root_starts : (below : Option Table) (n k : ℕ) (table : Table) → table ≡ root_of below n k
    → Starts below table
root_starts None n k table is = subst IsEmpty (sym is) (blank_table-none n k)
root_starts (Some first) n k table is = is

item_machine : (form : Form) (bytes : List ℕ) (table : Table) (content : Content)
    → IsItemLine form (record { table = table; content = content }) bytes → IsMachine table
item_machine form bytes table (Claim verdict) is = is.0
item_machine form bytes table (Shard shard) is = is.1.machine

-- how far a walk has come that hasn't stopped
pub record Going (task : Task) (past : List (List ℕ)) (progress : CoverProgress) : Type 0 where
  pub items : List Item
  pub are_true : AreTrueLines task past items
  pub has_left : HasLeft task.below progress.size progress.walk (lines_of items)
  pub begun : (size : Size) → progress.size ≡ Some size → Begins task.below (lines_of items) size
  pub counted : AreCounts (marks_of task) items progress.counts

-- and one that has
pub record Ended (task : Task) (past : List (List ℕ)) (counts : Counts) (stop : Stop) : Type 0 where
  pub before : List (List ℕ)
  pub bytes : List ℕ
  pub after : List (List ℕ)
  pub whole : past ≡ before ++ bytes ∷ after
  pub progress : CoverProgress
  pub going : Going task before progress
  pub wrong : IsWrong task progress.counts.lines progress.size progress.walk bytes stop.why
  pub line : stop.line ≡ saturated (progress.counts.read + 1)
  pub counts_are : counts ≡ progress.counts

abbrev pub HasCome : Option Stop → Task → List (List ℕ) → CoverProgress → Type 0
HasCome None task past progress = Going task past progress
HasCome (Some stop) task past progress = Ended task past progress.counts stop

-- one line more

module _ (task : Task) (past : List (List ℕ)) (bytes : List ℕ) (old new : CoverProgress)
    (going : Going task past old) where
  abbrev past_lines : List VerdictLine
  past_lines = lines_of going.items

  visited_left : (visited : Visited task old bytes new) (size : Option Size) (walk : List Table)
      → IsAsked task.below size walk visited.item.table visited.goes.rest
      → HasLeft task.below size walk past_lines
      → HasLeft task.below (size_after size visited.item.table) (visited.goes.more ++ visited.goes.rest)
      (past_lines ++ line_of visited.item ∷ [])
  visited_left visited None walk asked left = (
    some_pushed past_lines (line_of visited.item),
    λ tail.
        let line = line_of visited.item in
        let goes = goes_on line visited.undefined visited.goes.more visited.goes.rest visited.to_fill
        visited.goes.fills tail in
        let machine = item_machine task.form bytes visited.item.table visited.item.content
        visited.is_true.is_line in
        let root = ap₂ ◌∷◌ (starts_is task.below line.table machine asked.0) asked.1 in
        subst (λ ts. IsWalk (visited.goes.more ++ visited.goes.rest) tail
        ↔ IsWalk ts ((past_lines ++ line ∷ []) ++ tail)) root
        (subst (λ l. IsWalk (visited.goes.more ++ visited.goes.rest) tail
        ↔ IsWalk (line.table ∷ visited.goes.rest) ((l ++ line ∷ []) ++ tail)) (sym left.0) goes),
  )
  visited_left visited (Some size) walk asked left = (
    some_pushed past_lines (line_of visited.item),
    λ tail.
        let line = line_of visited.item in
        let goes = goes_on line visited.undefined visited.goes.more visited.goes.rest visited.to_fill
        visited.goes.fills tail in
        let before = left.1 (line ∷ tail) in
        rw append_assoc (
          λ now. before.0 (subst (λ t. IsWalk t (line ∷ tail)) (sym asked) (goes.0 now)),
          λ now. goes.1 (subst (λ t. IsWalk t (line ∷ tail)) asked (before.1 now)),
        ),
  )

  visited_begun : (visited : Visited task old bytes new) (size : Option Size) (walk : List Table)
      → IsAsked task.below size walk visited.item.table visited.goes.rest
      → HasLeft task.below size walk past_lines
      → ((s : Size) → size ≡ Some s → Begins task.below past_lines s)
      → (s : Size) → size_after size visited.item.table ≡ Some s
      → Begins task.below (past_lines ++ line_of visited.item ∷ []) s
  visited_begun visited None walk asked left begun s is =
      let line = line_of visited.item in
      let machine = item_machine task.form bytes visited.item.table visited.item.content
      visited.is_true.is_line in
      let made : Size = record { states = length line.table; symbols = symbols_of line.table } in
      let same : made ≡ s = cc in
      subst (Begins task.below (past_lines ++ line ∷ [])) same (record {
        first = line;
        later = [];
        whole = ap (λ l. l ++ line ∷ []) left.0;
        machine = machine;
        root = starts_is task.below line.table machine asked.0;
        sized = starts_sized task.below line.table asked.0;
      })
  visited_begun visited (Some size) walk asked left begun s is =
      let here = begun s is in
      record {
        first = here.first;
        later = here.later ++ line_of visited.item ∷ [];
        whole = ap (λ l. l ++ line_of visited.item ∷ []) here.whole;
        machine = here.machine;
        root = here.root;
        sized = here.sized;
      }

  visited_going : Visited task old bytes new → Going task (past ++ bytes ∷ []) new
  visited_going visited =
      let pushed = sym (lines-append going.items (visited.item ∷ [])) in
      let all_true = true_push task past going.items bytes visited.item going.are_true visited.is_true in
      record {
        items = going.items ++ visited.item ∷ [];
        are_true = all_true;
        has_left =
            subst (HasLeft task.below new.size new.walk) pushed
            (subst (λ s. HasLeft task.below s new.walk (past_lines ++ line_of visited.item ∷ []))
            (sym visited.goes.size)
            (subst (λ t. HasLeft task.below (size_after old.size visited.item.table) t
            (past_lines ++ line_of visited.item ∷ [])) (sym visited.goes.walk)
            (visited_left visited old.size old.walk visited.goes.asked going.has_left)));
        begun = λ s is. subst (λ l. Begins task.below l s) pushed
            (visited_begun visited old.size old.walk visited.goes.asked going.has_left going.begun s
            (sym visited.goes.size ∙ is));
        counted = one_counted (marks_of task) going.items visited.item old.counts new.counts
            (countable task (past ++ bytes ∷ []) (going.items ++ visited.item ∷ []) all_true) visited.room
            going.counted visited.counts;
      }

  stopped_ended : (stopped : Stopped task old bytes new)
      → Ended task (past ++ bytes ∷ []) new.counts
      (record { line = saturated (old.counts.read + 1); why = stopped.why })
  stopped_ended stopped = record {
    before = past;
    bytes = bytes;
    after = [];
    whole = refl;
    progress = old;
    going = going;
    wrong = stopped.wrong;
    line = refl;
    counts_are = stopped.counts;
  }

one_more : (task : Task) (past : List (List ℕ)) (bytes : List ℕ) (old new : CoverProgress) (stop : Option Stop)
    → old.stop ≡ stop → HasCome stop task past old → TookBy stop task old bytes new
    → HasCome new.stop task (past ++ bytes ∷ []) new
one_more task past bytes old new None is come (inl visited) =
    subst (λ s. HasCome s task (past ++ bytes ∷ []) new) (sym (visited.goes.stop ∙ is))
    (visited_going task past bytes old new come visited)
one_more task past bytes old new None is come (inr stopped) =
    subst (λ s. HasCome s task (past ++ bytes ∷ []) new) (sym stopped.stop)
    (stopped_ended task past bytes old new come stopped)
one_more task past bytes old new (Some stop) is come took =
    let ended : Ended task (past ++ bytes ∷ []) old.counts stop = record {
      before = come.before;
      bytes = come.bytes;
      after = come.after ++ bytes ∷ [];
      whole = ap (λ l. l ++ bytes ∷ []) come.whole
          ∙ append_assoc come.before (come.bytes ∷ come.after) (bytes ∷ []);
      progress = come.progress;
      going = come.going;
      wrong = come.wrong;
      line = come.line;
      counts_are = come.counts_are;
    } in
    subst (λ (c : CoverProgress). HasCome c.stop task (past ++ bytes ∷ []) c) (sym took)
    (subst (λ s. HasCome s task (past ++ bytes ∷ []) old) (sym is) ended)

-- what is left, by the size
left_of_size : {task : Task} {past : List (List ℕ)} {progress : CoverProgress} (going : Going task past progress)
    {size : Option Size} → progress.size ≡ size → HasLeft task.below size progress.walk (lines_of going.items)
left_of_size {task} {past} {progress} going is =
    subst (λ s. HasLeft task.below s progress.walk (lines_of going.items)) is going.has_left

-- a whole walk along a beginning
walked_left : (task : Task) (past : List (List ℕ)) (progress : CoverProgress) (going : Going task past progress)
    (more : List VerdictLine) (n k : ℕ) → HasSize task.below n k
    → IsWalk (root_of task.below n k ∷ []) (lines_of going.items ++ more)
    → (size : Size) → progress.size ≡ Some size → IsWalk progress.walk more
walked_left task past progress going more n k sized walk size is =
    let lines = lines_of going.items in
    let same = begun_size task.below lines more size n k (going.begun size is) sized walk in
    let left : HasLeft task.below (Some size) progress.walk lines = left_of_size going is in
    (left.1 more).1 (subst (λ j. IsWalk (root_of task.below size.states j ∷ []) (lines ++ more)) (sym same.1)
    (subst (λ i. IsWalk (root_of task.below i k ∷ []) (lines ++ more)) (sym same.0) walk))

-- so a line of it is the next one
pub record IsNextLine (below : Option Table) (size : Option Size) (left : List Table) (table : Table)
    : Type 0 where
  pub rest : List Table
  pub asked : IsAsked below size left table rest

pub head_asked : (below : Option Table) (left : List Table) (line : VerdictLine) (more : List VerdictLine)
    → IsWalk left (line ∷ more) → (size : Size) → IsNextLine below (Some size) left line.table
head_asked below [] line more walk size = absurd walk
head_asked below (t ∷ ts) line more walk size =
    record { rest = ts; asked = ap (λ x. x ∷ ts) (sym walk.0) }

next_asked : (task : Task) (past : List (List ℕ)) (progress : CoverProgress) (going : Going task past progress)
    (line : VerdictLine) (more : List VerdictLine) (n k : ℕ) → HasSize task.below n k
    → IsWalk (root_of task.below n k ∷ []) (lines_of going.items ++ line ∷ more) → (size : Option Size)
    → progress.size ≡ size → IsNextLine task.below size progress.walk line.table
next_asked task past progress going line more n k sized walk None is =
    let left : HasLeft task.below None progress.walk (lines_of going.items) = left_of_size going is in
    let first : IsWalk (root_of task.below n k ∷ []) (line ∷ more) =
    subst (λ l. IsWalk (root_of task.below n k ∷ []) (l ++ line ∷ more)) left.0 walk in
    record { rest = []; asked = (root_starts task.below n k line.table first.0, refl) }
next_asked task past progress going line more n k sized walk (Some size) is =
    head_asked task.below progress.walk line more
    (walked_left task past progress going (line ∷ more) n k sized walk size is) size

-- so no reason to stop applies to it
pub none_applies : (task : Task) (past : ℕ) (size : Option Size) (left : List Table) (bytes : List ℕ)
    (item : Item) (why : Why) → IsTrueLine task bytes item → HasRoom past item.content
    → IsNextLine task.below size left item.table → Applies task past size left bytes why → ⊥
none_applies task past size left bytes item Unread is room next applies = applies item is.is_line
none_applies task past size left bytes item TooMany is room next applies =
    let same = one_item task.form bytes item applies.0 is.is_line applies.1 in
    applies.2 (subst (λ (i : Item). HasRoom past i.content) same room)
none_applies task past size left bytes item NotNext is room next applies =
    let same = one_item task.form bytes item applies.0 is.is_line applies.1 in
    applies.2 next.rest
    (subst (λ (i : Item). IsAsked task.below size left i.table next.rest) same next.asked)
none_applies task past size left bytes item (Refused given) is room next applies =
    let line = applies.0 in
    let same = one_item task.form bytes item (record { table = line.table; content = Claim line.verdict })
    is.is_line applies.1 in
    fine_or_not task.limits line.table line.verdict
    (subst (λ (i : Item). IsFineContent task.limits i.table i.content) same is.is_fine) given
    applies.2.is_answer applies.2.not_fine
none_applies task past size left bytes item TooSoon is room next applies = applies
none_applies task past None left bytes item Beyond is room next applies = applies.0 refl
none_applies task past (Some size) left bytes item Beyond is room next applies =
    let some = next.asked in
    let none = applies.1 in
    let both : item.table ∷ next.rest ≡ [] = sym some ∙ none in
    cc

-- at the end

module _ (task : Task) (all : List (List ℕ)) (progress : CoverProgress) where
  -- where a list stops, by the walk up to there
  stops_after : (stop : Stop) (before after : List (List ℕ)) → all ≡ before ++ after → (here : CoverProgress)
      (going : Going task before here) → IsWrongAt task here.counts.lines here.size here.walk after stop.why
      → stop.line ≡ saturated (here.counts.read + 1) → StopsAt task all here.counts stop
  stops_after stop before after whole here going wrong line = record {
    before = before;
    after = after;
    all = whole;
    items = going.items;
    are_true = going.are_true;
    size = here.size;
    left = here.walk;
    has_left = going.has_left;
    wrong = wrong;
    line = line ∙ next_line (marks_of task) going.items before here.counts going.counted
        (true_length task before going.items going.are_true);
    counted = going.counted;
  }

  stops_at : (stop : Stop) → Ended task all progress.counts stop → StopsAt task all progress.counts stop
  stops_at stop ended =
      rw ended.counts_are (stops_after stop ended.before (ended.bytes ∷ ended.after) ended.whole ended.progress
      ended.going ended.wrong ended.line)

  no_whole : (stop : Stop) → Ended task all progress.counts stop → (n k : ℕ) → IsWholeWalk task all n k → ⊥
  no_whole stop ended n k whole =
      let there = behind task ended.before ended.bytes ended.after ended.going.items whole.items
      ended.going.are_true (subst (λ l. AreTrueLines task l whole.items) ended.whole whole.are_true) in
      none_applies task ended.progress.counts.lines ended.progress.size ended.progress.walk ended.bytes
      there.item stop.why there.is_true
      (room_within (marks_of task) whole.items ended.going.items there.later there.item ended.progress.counts
      ended.going.counted there.whole whole.few)
      (next_asked task ended.before ended.progress ended.going (line_of there.item) (lines_of there.later) n k
      whole.sized
      (subst (IsWalk (root_of task.below n k ∷ []))
      (ap lines_of there.whole ∙ lines-append ended.going.items (there.item ∷ there.later)) whole.walk)
      ended.progress.size refl)
      ended.wrong.applies

  -- the list ended too soon
  ends_at : (stop : Stop) → EndsTooSoon progress stop → Going task all progress
      → StopsAt task all progress.counts stop
  ends_at stop ends going =
      stops_after stop all [] (sym (append-nil all)) progress going (ends.why, ends.something) ends.line

  nothing_left : (left : List Table) → IsWalk left [] → left ≡ []
  nothing_left [] walk = refl
  nothing_left (t ∷ ts) walk = absurd walk

  -- a whole walk goes along the lines so far
  walk_going : (n k : ℕ) (going : Going task all progress) → IsWholeWalk task all n k
      → IsWalk (root_of task.below n k ∷ []) (lines_of going.items ++ [])
  walk_going n k going whole =
      subst (IsWalk (root_of task.below n k ∷ []))
      (ap lines_of (same_true task all whole.items going.items whole.are_true going.are_true)
      ∙ sym (append-nil (lines_of going.items))) whole.walk

  no_whole_yet : (stop : Stop) → EndsTooSoon progress stop → (going : Going task all progress) → (n k : ℕ)
      → IsWholeWalk task all n k → (size : Option Size) → progress.size ≡ size → ⊥
  no_whole_yet stop ends going n k whole None is =
      let left : HasLeft task.below None progress.walk (lines_of going.items) = left_of_size going is in
      subst (IsWalk (root_of task.below n k ∷ []))
      (ap lines_of (same_true task all whole.items going.items whole.are_true going.are_true) ∙ left.0)
      whole.walk
  no_whole_yet stop ends going n k whole (Some size) is =
      let walk = walk_going n k going whole in
      ends.something (λ none. let both : Some size ≡ None = sym is ∙ none in cc)
      (nothing_left progress.walk
      (walked_left task all progress going [] n k whole.sized walk size is))

  -- it covers a size
  walk_of : (n k : ℕ) (going : Going task all progress)
      → progress.size ≡ Some (record { states = n; symbols = k }) → progress.walk ≡ []
      → IsWalk (root_of task.below n k ∷ []) (lines_of going.items)
  walk_of n k going size done =
      let here : Size = record { states = n; symbols = k } in
      let left : HasLeft task.below (Some here) [] (lines_of going.items) =
      subst (λ t. HasLeft task.below (Some here) t (lines_of going.items)) done
      (left_of_size going size) in
      subst (IsWalk (root_of task.below n k ∷ [])) (append-nil (lines_of going.items)) ((left.1 []).0 tt)

  size_of : (n k n' k' : ℕ) (going : Going task all progress)
      → progress.size ≡ Some (record { states = n; symbols = k }) → IsWholeWalk task all n' k'
      → Covers n k ≡ Covers n' k'
  size_of n k n' k' going size whole =
      let same = begun_size task.below (lines_of going.items) [] (record { states = n; symbols = k }) n' k'
      (going.begun _ size) whole.sized (walk_going n' k' going whole) in
      ap₂ Covers same.0 same.1

  -- what is found is so

  found_covers : (n k : ℕ) (going : Going task all progress)
      → progress.size ≡ Some (record { states = n; symbols = k }) → progress.walk ≡ []
      → CoversSize task all progress.counts n k
  found_covers n k going size done =
      let whole : IsWholeWalk task all n k = record {
        items = going.items;
        are_true = going.are_true;
        few = subst (λ n. n < 2 ^ 64) going.counted.all going.counted.few;
        sized = (going.begun _ size).sized;
        walk = walk_of n k going size done;
      } in
      record {
        whole = whole;
        counted = going.counted;
        joins = joins task all progress.counts n k whole going.counted;
        bounds = bounds task all progress.counts n k whole going.counted;
      }

  found_so : (stop : Option Stop) → progress.stop ≡ stop → HasCome stop task all progress → (found : Found)
      → IsFoundBy progress found → IsFound task all progress.counts found
  found_so None is come (Covers n k) by = found_covers n k come by.1 by.2
  found_so (Some stop) is come (Covers n k) by = absurd (cc by.0)
  found_so None is come (Stops stop) (inl by) = absurd cc
  found_so None is come (Stops stop) (inr ends) = ends_at stop ends come
  found_so (Some other) is come (Stops stop) (inl by) =
      let same : other ≡ stop = cc in
      stops_at stop (subst (Ended task all progress.counts) same come)
  found_so (Some other) is come (Stops stop) (inr ends) = absurd cc

  exactly : (stop : Option Stop) → progress.stop ≡ stop → HasCome stop task all progress → (found : Found)
      → IsFoundBy progress found → (n k : ℕ) → IsWholeWalk task all n k → found ≡ Covers n k
  exactly None is come (Covers i j) by n k whole = size_of i j n k come by.1 whole
  exactly (Some stop) is come (Covers i j) by n k whole = absurd (cc by.0)
  exactly None is come (Stops stop) (inl by) n k whole = absurd cc
  exactly None is come (Stops stop) (inr ends) n k whole =
      absurd (no_whole_yet stop ends come n k whole progress.size refl)
  exactly (Some other) is come (Stops stop) (inl by) n k whole = absurd (no_whole other come n k whole)
  exactly (Some other) is come (Stops stop) (inr ends) n k whole = absurd cc

-- a run that begins with nothing visited
module _ {D : Type 0} (task : D → Task) (progress : D → CoverProgress) where
  abbrev pub TookOwn : D → List ℕ → D → Type 0
  TookOwn a line b = (task b ≡ task a) × TookBy (progress a).stop (task a) (progress a) line (progress b)

  pub has_come : (lines : List (List ℕ)) (a b : D) → (progress a).size ≡ None → (progress a).walk ≡ []
      → (progress a).stop ≡ None → (progress a).counts ≡ no_counts → FoldsTo TookOwn a lines b
      → HasCome (progress b).stop (task a) lines (progress b)
  has_come lines a b size walk stop counts folds = (chained_keeps TookOwn
      (λ past d. (task d ≡ task a) × HasCome (progress d).stop (task a) past (progress d)) more lines a b
      (refl, subst (λ s. HasCome s (task a) [] (progress a)) (sym stop) none) folds).1
    where
      none : Going (task a) [] (progress a)
      none = record {
        items = [];
        are_true = tt;
        has_left = subst (λ s. HasLeft (task a).below s (progress a).walk []) (sym size) (refl, walk);
        begun = λ s is. let both = sym size ∙ is in cc;
        counted = rw counts (none_counted (marks_of (task a)));
      }

      more : (past : List (List ℕ)) (d : D) (line : List ℕ) (e : D)
          → (task d ≡ task a) × HasCome (progress d).stop (task a) past (progress d) → TookOwn d line e
          → (task e ≡ task a) × HasCome (progress e).stop (task a) (past ++ line ∷ []) (progress e)
      more past d line e before took = (
        took.0 ∙ before.0,
        one_more (task a) past line (progress d) (progress e) (progress d).stop refl before.1
            (subst (λ (l : Task). TookBy (progress d).stop l (progress d) line (progress e)) before.0 took.1),
      )

pub is_cover : (task : Task) (all : List (List ℕ)) (progress : CoverProgress)
    → HasCome progress.stop task all progress → (cover : Cover) → cover.counts ≡ progress.counts
    → IsFoundBy progress cover.found → IsCover task all cover
is_cover task all progress come cover counts found = record {
  found = rw counts (found_so task all progress progress.stop refl come cover.found found);
  exact = exactly task all progress progress.stop refl come cover.found found;
}
