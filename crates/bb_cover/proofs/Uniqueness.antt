-- No list comes to two things: where it stops, why, and what is counted up to there are settled by its bytes.
use Rattle.std.proofs.Common.{◌≡◌, ◌≢◌, ℕ, ◌+◌, ◌<◌, ◌^◌, ◌⊎◌, List, [], ◌∷◌, ◌++◌, length, map, Option}
use Rattle.std.proofs.Common.{Some, None, inl, inr, refl, ap, ap₂, sym, subst, ◌∙◌, arith, append_assoc}
use Rattle.bb_machine.specs.Limits.{Bounds}
use Rattle.bb_machine.specs.Machine.{Table}
use Rattle.bb_cert.specs.declared.checker.answer.Answer.{Answer}
use Rattle.bb_cert.specs.declared.verdict.Why.TheVariants as reason
use Rattle.bb_cert.specs.declared.verdict.Verdict.TheVariants.{Undecided}
use Rattle.bb_cert.specs.checker.Answer.{IsAnswer}
use Rattle.bb_cert.proofs.Facts.{answer_is_unique}
use Rattle.laws_of_verdicts.specs.Closed.{VerdictLine}
use Rattle.laws_of_verdicts.specs.Walk.{HaltsOnOneOf, IsWalk}
use Rattle.bb_cover.specs.declared.counts.Counts.{Counts}
use Rattle.bb_cover.specs.declared.found.Found.{Found}
use Rattle.bb_cover.specs.declared.found.Found.TheVariants.{Covers, Stops}
use Rattle.bb_cover.specs.declared.found.Stop.{Stop}
use Rattle.bb_cover.specs.declared.found.Why.{Why}
use Rattle.bb_cover.specs.declared.found.Why.TheVariants.{Unread, NotNext, Refused, TooMany, TooSoon, Beyond}
use Rattle.bb_cover.specs.declared.list.Size.{Size}
use Rattle.bb_cover.specs.declared.content.Content.{Content}
use Rattle.bb_cover.specs.declared.content.Content.TheVariants.{Claim, Shard}
use Rattle.bb_cover.specs.declared.task.Task.{Task}
use Rattle.bb_cover.specs.Claims.{AreTrueLines}
use Rattle.bb_cover.specs.Content.{Item, line_of, lines_of}
use Rattle.bb_cover.specs.Counts.{AreCounts, marks_of, saturated}
use Rattle.bb_cover.specs.CoverProgress.{Applies, IsWrong, rank}
use Rattle.bb_cover.specs.Covering.{CoverIsUnique, HasLeft, IsFound, IsWholeWalk, IsWrongAt, StopsAt, root_of}
use Rattle.bb_cover.proofs.ShardLines.{one_item}
use Rattle.bb_cover.proofs.Tallies.{room_within}
use Rattle.bb_cover.proofs.Wholes.{IsNextLine, behind, head_asked, lines-append, none_applies, root_starts, same_true}

-- two ways to part a list

record IsLonger {A : Type 0} (a after b after_too : List A) : Type 0 where
  item : A
  more : List A
  longer : b ≡ a ++ item ∷ more
  rest : after ≡ item ∷ (more ++ after_too)

part_twice : {A : Type 0} (a after b after_too : List A) → a ++ after ≡ b ++ after_too
    → ((a ≡ b) × (after ≡ after_too)) ⊎ (IsLonger a after b after_too ⊎ IsLonger b after_too a after)
part_twice [] after [] after_too same = inl (refl, same)
part_twice [] after (y ∷ b) after_too same =
    inr (inl (record { item = y; more = b; longer = refl; rest = same }))
part_twice (x ∷ a) after [] after_too same =
    inr (inr (record { item = x; more = a; longer = refl; rest = sym same }))
part_twice (x ∷ a) after (y ∷ b) after_too same =
    let head : x ≡ y = cc in
    let tail : a ++ after ≡ b ++ after_too = cc in
    elim (part_twice a after b after_too tail) [
      | inl both ↦ inl (ap₂ ◌∷◌ head both.0, both.1)
      | inr (inl long) ↦ inr (inl (record {
        item = long.item;
        more = long.more;
        longer = ap₂ ◌∷◌ (sym head) long.longer;
        rest = long.rest;
      }))
      | inr (inr long) ↦ inr (inr (record {
        item = long.item;
        more = long.more;
        longer = ap₂ ◌∷◌ head long.longer;
        rest = long.rest;
      }))
    ]

-- the walk that visits these machines alone, each undecided

abbrev undecided : Table → VerdictLine
undecided table = record { table = table; verdict = Undecided reason.Steps }

no_halt : (table : Table) (q s : ℕ) → HaltsOnOneOf (undecided table) q s → ⊥
no_halt table q s halts = let says = halts.says in cc

undecided_walk : (left : List Table) → IsWalk left (map undecided left)
undecided_walk [] = tt
undecided_walk (table ∷ left) = (
  refl,
  (
    [],
    record { filled = λ q s halts. absurd (no_halt table q s halts); none = λ _. refl },
    undecided_walk left,
  ),
)

walked_undecided : (left other : List Table) → IsWalk left (map undecided other) → left ≡ other
walked_undecided [] [] walk = refl
walked_undecided [] (o ∷ other) walk = absurd walk
walked_undecided (t ∷ left) [] walk = absurd walk
walked_undecided (t ∷ left) (o ∷ other) walk =
    let none = walk.1.1.none (no_halt o) in
    ap₂ ◌∷◌ (sym walk.0)
    (walked_undecided left other (subst (λ more. IsWalk (more ++ left) (map undecided other)) none walk.1.2))

-- a walk goes along these lines, which are some, and so their first machine is that at which it begins

first_is_root : (below : Option Table) (n k : ℕ) (lines tail : List VerdictLine) → lines ≢ []
    → IsWalk (root_of below n k ∷ []) (lines ++ tail) → (i j : ℕ) (tail_too : List VerdictLine)
    → IsWalk (root_of below i j ∷ []) (lines ++ tail_too) → root_of below n k ≡ root_of below i j
first_is_root below n k [] tail some walk i j tail_too walk_too = absurd (some refl)
first_is_root below n k (line ∷ lines) tail some walk i j tail_too walk_too = sym walk.0 ∙ walk_too.0

walk_from : (below : Option Table) (size : Size) (left : List Table) (lines : List VerdictLine)
    → HasLeft below (Some size) left lines
    → IsWalk (root_of below size.states size.symbols ∷ []) (lines ++ map undecided left)
walk_from below size left lines has = (has.1 (map undecided left)).0 (undecided_walk left)

-- what is left after these lines, where a walk of some size goes along them
next_line_of : (below : Option Table) (size : Option Size) (left : List Table) (lines : List VerdictLine)
    → HasLeft below size left lines → (n k : ℕ) (line : VerdictLine) (tail : List VerdictLine)
    → IsWalk (root_of below n k ∷ []) (lines ++ line ∷ tail) → IsNextLine below size left line.table
next_line_of below None left lines has n k line tail walk =
    let first : IsWalk (root_of below n k ∷ []) (line ∷ tail) =
    subst (λ l. IsWalk (root_of below n k ∷ []) (l ++ line ∷ tail)) has.0 walk in
    record { rest = []; asked = (root_starts below n k line.table first.0, refl) }
next_line_of below (Some size) left lines has n k line tail walk =
    let root = first_is_root below n k lines (line ∷ tail) has.0 walk size.states size.symbols
    (map undecided left) (walk_from below size left lines has) in
    head_asked below left line tail
    ((has.1 (line ∷ tail)).1 (subst (λ t. IsWalk (t ∷ []) (lines ++ line ∷ tail)) root walk)) size

-- the checker's answer to an item, that of a verdict

abbrev IsAnswerTo : Bounds → Answer → Table → Content → Type 0
IsAnswerTo bounds given table (Claim verdict) = IsAnswer table bounds verdict given
IsAnswerTo bounds given table (Shard shard) = ⊥

abbrev claim : VerdictLine → Item
claim of = record { table = of.table; content = Claim of.verdict }

-- a list that goes on rightly after these lines doesn't stop there
module _ (task : Task) (bytes : List (List ℕ)) where
  not_sooner : (c d : Counts) (one two : Stop) (first : StopsAt task bytes c one)
      (second : StopsAt task bytes d two) → IsLonger first.before first.after second.before second.after
      → (size : Option Size) → second.size ≡ size → ⊥
  not_sooner c d one two first second long None is =
      let none = (subst (λ s. HasLeft task.below s second.left (lines_of second.items)) is second.has_left).0 in
      let true_too : AreTrueLines task (first.before ++ long.item ∷ long.more) second.items =
      subst (λ b. AreTrueLines task b second.items) long.longer second.are_true in
      let there = behind task first.before long.item long.more first.items second.items
      first.are_true true_too in
      not_none first.items there.item there.later (ap lines_of (sym there.whole) ∙ none)
    where
      not_none : (a : List Item) (l : Item) (b : List Item) → lines_of (a ++ l ∷ b) ≡ [] → ⊥
      not_none [] l b none = cc
      not_none (x ∷ a) l b none = cc
  not_sooner c d one two first second long (Some size) is =
      let has = subst (λ s. HasLeft task.below s second.left (lines_of second.items)) is second.has_left in
      let true_too : AreTrueLines task (first.before ++ long.item ∷ long.more) second.items =
      subst (λ b. AreTrueLines task b second.items) long.longer second.are_true in
      let there = behind task first.before long.item long.more first.items second.items
      first.are_true true_too in
      let tail = map undecided second.left in
      let root = root_of task.below size.states size.symbols in
      let walk : IsWalk (root ∷ [])
      (lines_of first.items ++ line_of there.item ∷ (lines_of there.later ++ tail)) =
      subst (IsWalk (root ∷ []))
      (ap (λ l. lines_of l ++ tail) there.whole
      ∙ ap (λ l. l ++ tail) (lines-append first.items (there.item ∷ there.later))
      ∙ append_assoc (lines_of first.items) (line_of there.item ∷ lines_of there.later) tail)
      (walk_from task.below size second.left (lines_of second.items) has) in
      let next = next_line_of task.below first.size first.left (lines_of first.items) first.has_left size.states
      size.symbols (line_of there.item) (lines_of there.later ++ tail) walk in
      let wrong : IsWrong task c.lines first.size first.left long.item one.why =
      subst (λ a. IsWrongAt task c.lines first.size first.left a one.why) long.rest first.wrong in
      let room = room_within (marks_of task) second.items first.items there.later there.item c first.counted there.whole
      (subst (λ n. n < 2 ^ 64) second.counted.all second.counted.few) in
      none_applies task c.lines first.size first.left long.item there.item one.why there.is_true room next
      wrong.applies

  -- at one line there is one reason

  same_why : (past : ℕ) (size : Option Size) (left : List Table) (line : List ℕ) (a b : Why)
      → Applies task past size left line a → Applies task past size left line b → rank a ≡ rank b → a ≡ b
  same_why past size left line TooSoon b one two e = absurd one
  same_why past size left line a TooSoon one two e = absurd two
  same_why past size left line Beyond Beyond one two e = refl
  same_why past size left line Beyond Unread one two e = absurd (omega (arith, e))
  same_why past size left line Beyond NotNext one two e = absurd (omega (arith, e))
  same_why past size left line Beyond (Refused given) one two e = absurd (omega (arith, e))
  same_why past size left line Beyond TooMany one two e = absurd (omega (arith, e))
  same_why past size left line Unread Beyond one two e = absurd (omega (arith, e))
  same_why past size left line Unread Unread one two e = refl
  same_why past size left line Unread NotNext one two e = absurd (omega (arith, e))
  same_why past size left line Unread (Refused given) one two e = absurd (omega (arith, e))
  same_why past size left line Unread TooMany one two e = absurd (omega (arith, e))
  same_why past size left line NotNext Beyond one two e = absurd (omega (arith, e))
  same_why past size left line NotNext Unread one two e = absurd (omega (arith, e))
  same_why past size left line NotNext NotNext one two e = refl
  same_why past size left line NotNext (Refused given) one two e = absurd (omega (arith, e))
  same_why past size left line NotNext TooMany one two e = absurd (omega (arith, e))
  same_why past size left line (Refused given) Beyond one two e = absurd (omega (arith, e))
  same_why past size left line (Refused given) Unread one two e = absurd (omega (arith, e))
  same_why past size left line (Refused given) NotNext one two e = absurd (omega (arith, e))
  same_why past size left line (Refused given) TooMany one two e = absurd (omega (arith, e))
  same_why past size left line (Refused given) (Refused other) one two e =
      let same : claim two.0 ≡ claim one.0 = one_item task.form line (claim two.0) (claim one.0) two.1 one.1 in
      ap Refused (answer_is_unique one.0.table task.limits one.0.verdict given other one.2.is_answer
      (subst (λ (item : Item). IsAnswerTo task.limits other item.table item.content) same two.2.is_answer))
  same_why past size left line TooMany Beyond one two e = absurd (omega (arith, e))
  same_why past size left line TooMany Unread one two e = absurd (omega (arith, e))
  same_why past size left line TooMany NotNext one two e = absurd (omega (arith, e))
  same_why past size left line TooMany (Refused given) one two e = absurd (omega (arith, e))
  same_why past size left line TooMany TooMany one two e = refl

  one_why : (past : ℕ) (size : Option Size) (left : List Table) (after : List (List ℕ)) (a b : Why)
      → IsWrongAt task past size left after a → IsWrongAt task past size left after b → a ≡ b
  one_why past size left [] a b one two = one.0 ∙ sym two.0
  one_why past size left (line ∷ after) a b one two =
      let below = one.first b two.applies in
      let above = two.first a one.applies in
      same_why past size left line a b one.applies two.applies (omega (arith, below, above))

  -- which size it is says nothing of the reason, but that there is one

  any_size : (past : ℕ) (s t : Size) (left : List Table) (line : List ℕ) (why : Why)
      → Applies task past (Some s) left line why → Applies task past (Some t) left line why
  any_size past s t left line Beyond applies = (λ none. cc, applies.1)
  any_size past s t left line why applies = applies

  wrong_any : (past : ℕ) (s t : Size) (left : List Table) (after : List (List ℕ)) (why : Why)
      → IsWrongAt task past (Some s) left after why → IsWrongAt task past (Some t) left after why
  wrong_any past s t left [] why wrong = (wrong.0, λ some. wrong.1 (λ none. cc))
  wrong_any past s t left (line ∷ after) why wrong = record {
    applies = any_size past s t left line why wrong.applies;
    first = λ other applies. wrong.first other (any_size past t s left line other applies);
  }

  why_there : (past : ℕ) (size size_too : Option Size) (left left_too : List Table) (lines : List VerdictLine)
      (after : List (List ℕ)) (a b : Why) → HasLeft task.below size left lines
      → HasLeft task.below size_too left_too lines
      → IsWrongAt task past size left after a → IsWrongAt task past size_too left_too after b → a ≡ b
  why_there past None None left left_too lines after a b has has_too wrong wrong_too =
      one_why past None left after a b wrong
      (subst (λ l. IsWrongAt task past None l after b) (has_too.1 ∙ sym has.1) wrong_too)
  why_there past None (Some t) left left_too lines after a b has has_too wrong wrong_too =
      absurd (has_too.0 has.0)
  why_there past (Some s) None left left_too lines after a b has has_too wrong wrong_too =
      absurd (has.0 has_too.0)
  why_there past (Some s) (Some t) left left_too lines after a b has has_too wrong wrong_too =
      let walk = walk_from task.below s left lines has in
      let root = first_is_root task.below s.states s.symbols lines (map undecided left) has.0 walk t.states
      t.symbols (map undecided left_too) (walk_from task.below t left_too lines has_too) in
      let same : left_too ≡ left = walked_undecided left_too left ((has_too.1 (map undecided left)).1
      (subst (λ r. IsWalk (r ∷ []) (lines ++ map undecided left)) root walk)) in
      one_why past (Some s) left after a b wrong
      (wrong_any past t s left after b (subst (λ l. IsWrongAt task past (Some t) l after b) same wrong_too))

  -- so it stops once

  one_count : (items : List Item) (c d : Counts) → AreCounts (marks_of task) items c
      → AreCounts (marks_of task) items d → c ≡ d
  one_count items c d one two = λ i. record {
    read = (one.read ∙ sym two.read) i;
    shards = (one.shards ∙ sym two.shards) i;
    lines = (one.all ∙ sym two.all) i;
    halt = (one.halt ∙ sym two.halt) i;
    cycler = (one.cycler ∙ sym two.cycler) i;
    translated = (one.translated ∙ sym two.translated) i;
    backward = (one.backward ∙ sym two.backward) i;
    undecided = (one.undecided ∙ sym two.undecided) i;
    wide = (one.wide ∙ sym two.wide) i;
    assumed = (one.assumed ∙ sym two.assumed) i;
    most_steps = (one.most_steps ∙ sym two.most_steps) i;
    most_score = (one.most_score ∙ sym two.most_score) i;
    place = (one.place ∙ sym two.place) i;
  }

  one_stop : (c d : Counts) (one two : Stop) → StopsAt task bytes c one → StopsAt task bytes d two
      → (Stops one ≡ Stops two) × (c ≡ d)
  one_stop c d one two first second =
      elim (part_twice first.before first.after second.before second.after (sym first.all ∙ second.all)) [
        | inl both ↦
            let true_too : AreTrueLines task first.before second.items =
            subst (λ b. AreTrueLines task b second.items) (sym both.0) second.are_true in
            let items : second.items ≡ first.items =
            same_true task first.before second.items first.items true_too first.are_true in
            let counts : c ≡ d =
            one_count first.items c d first.counted (subst (λ l. AreCounts (marks_of task) l d) items second.counted) in
            let wrong_too : IsWrongAt task c.lines second.size second.left first.after two.why =
            subst (λ (x : Counts). IsWrongAt task x.lines second.size second.left first.after two.why)
            (sym counts)
            (subst (λ a. IsWrongAt task d.lines second.size second.left a two.why) (sym both.1) second.wrong) in
            let why = why_there c.lines first.size second.size first.left second.left (lines_of first.items)
            first.after one.why two.why first.has_left
            (subst (HasLeft task.below second.size second.left) (ap lines_of items) second.has_left) first.wrong
            wrong_too in
            let line : one.line ≡ two.line =
            first.line ∙ ap (λ b. saturated (length b + 1)) both.0 ∙ sym second.line in (
              λ i. Stops (record { line = line i; why = why i }),
              counts,
            )
        | inr (inl long) ↦ absurd (not_sooner c d one two first second long second.size refl)
        | inr (inr long) ↦ absurd (not_sooner d c two one second first long first.size refl)
      ]

  one_found : (f g : Found) (c d : Counts) → IsFound task bytes c f → IsFound task bytes d g
      → ((n k : ℕ) → IsWholeWalk task bytes n k → f ≡ Covers n k)
      → ((n k : ℕ) → IsWholeWalk task bytes n k → g ≡ Covers n k) → (f ≡ g) × (c ≡ d)
  one_found (Covers n k) (Covers i j) c d one two exact exact_too = (
    sym (exact_too n k one.whole),
    one_count one.whole.items c d one.counted
        (subst (λ l. AreCounts (marks_of task) l d) (same_true task bytes two.whole.items one.whole.items
        two.whole.are_true one.whole.are_true) two.counted),
  )
  one_found (Covers n k) (Stops t) c d one two exact exact_too =
      let same = exact_too n k one.whole in absurd cc
  one_found (Stops s) (Covers i j) c d one two exact exact_too =
      let same = exact i j two.whole in absurd cc
  one_found (Stops s) (Stops t) c d one two exact exact_too = one_stop c d s t one two

pub cover_is_unique : CoverIsUnique
cover_is_unique task bytes one two is is_too =
    one_found task bytes one.found two.found one.counts two.counts is.found is_too.found is.exact is_too.exact
