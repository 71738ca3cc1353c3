-- A list with the lines of its shards in their places.
use Rattle.std.proofs.Common.{◌≡◌, ℕ, ◌+◌, Bool, cond, List, [], ◌∷◌, ◌++◌, Option, Some, None}
use Rattle.std.proofs.Common.{length, inl, inr, refl, ap, sym, subst, ◌∙◌, arith, length-append}
use Rattle.std.specs.Prelude.{◌⊎◌, Contains, count_by}
use Rattle.std.proofs.lemmas.List.Sums.{sum_by-append}
use Rattle.bb_machine.specs.Machine.{Table, IsMachine}
use Rattle.bb_cert.specs.declared.verdict.Why.TheVariants.{Steps}
use Rattle.bb_cert.specs.claims.Claim as claims
use Rattle.laws_of_verdicts.specs.Closed as closed
use Rattle.laws_of_verdicts.specs.Closed.{VerdictLine, blank_table}
use Rattle.laws_of_verdicts.specs.Walk.{AreWalked, IsWalk}
use Rattle.laws_of_verdicts.proofs.Facts.{contains_cases, contains_first, contains_right, covers_decide}
use Rattle.laws_of_verdicts.proofs.Facts.{normal_form_covers, walks_are_in_normal_form, walks_compose}
use Rattle.bb_cover.specs.declared.content.Content.{Content}
use Rattle.bb_cover.specs.declared.content.Content.TheVariants.{Claim, Shard}
use Rattle.bb_cover.specs.declared.counts.Counts.{Counts}
use Rattle.bb_cover.specs.declared.task.Task.{Task}
use Rattle.bb_cover.specs.Claims.{AreTrueLines, IsTrueLine}
use Rattle.bb_cover.specs.Content.{Item, line_of, lines_of}
use Rattle.bb_cover.specs.Counts.{AreCounts, HasTotals, marks_of, is_undecided, is_wide, lines_in}
use Rattle.bb_cover.specs.Counts.{sum_of, undecided_in, wide_in}
use Rattle.bb_cover.specs.Covering.{AreParts, CoversRoot, IsJoinedWalk, IsPart, IsWalkBelow}
use Rattle.bb_cover.specs.Covering.{IsWholeWalk, joined, root_of}
use Rattle.bb_cover.proofs.Judging.{fine_claim}
use Rattle.bb_cover.proofs.Steps.{undecided_nowhere}

-- the walk

walked : (tables : List Table) (items : List Item) (parts : List (List VerdictLine)) → AreParts items parts
    → IsWalk tables (lines_of items) → IsWalk tables (joined parts)
walked tables [] [] are walk = walk
walked tables [] (part ∷ parts) are walk = absurd are
walked tables (item ∷ items) [] are walk = absurd are
walked [] (item ∷ items) (part ∷ parts) are walk = absurd walk
walked (t ∷ ts) (item ∷ items) (part ∷ parts) are walk =
    by item.content (λ tables. walked tables items parts are.1) are.0 walk
  where
    by : (content : Content)
        → ((tables : List Table) → IsWalk tables (lines_of items) → IsWalk tables (joined parts))
        → IsPart item.table content part
        → IsWalk (t ∷ ts) (line_of (record { table = item.table; content = content }) ∷ lines_of items)
        → IsWalk (t ∷ ts) (part ++ joined parts)
    by (Claim verdict) later is going =
        subst (λ (p : List VerdictLine). IsWalk (t ∷ ts) (p ++ joined parts)) (sym is)
        (going.0, (going.1.0, going.1.1, later (going.1.0 ++ ts) going.1.2))
    by (Shard shard) later is going =
        let none : going.1.0 ≡ [] = undecided_nowhere item.table Steps going.1.0 going.1.1 in
        let rest : IsWalk ts (lines_of items) =
        subst (λ (more : List Table). IsWalk (more ++ ts) (lines_of items)) none going.1.2 in
        let below : IsWalk (t ∷ []) part = subst (λ (x : Table). IsWalk (x ∷ []) part) going.0 is.below.walk in
        (walks_compose (t ∷ []) ts (part ++ joined parts)).1 (record {
          before = part;
          after = joined parts;
          joined = refl;
          walk_before = below;
          walk_after = later ts rest;
        })

-- the claims

record IsTrueOf (line : VerdictLine) : Type 0 where
  machine : IsMachine line.table
  claim : claims.Claim line.table line.verdict

contains_part : {X : Type 0} (x : X) (xs ys : List X) → Contains (xs ++ ys) x → Contains xs x ⊎ Contains ys x
contains_part x [] ys has = inr has
contains_part x (y ∷ xs) ys has = elim (contains_cases y x (xs ++ ys) has) [
  | inl e ↦ inl (subst (λ z. Contains (z ∷ xs) x) (sym e) (contains_first x xs))
  | inr rest ↦ elim (contains_part x xs ys rest) [
    | inl here ↦ inl (contains_right x (y ∷ []) xs here)
    | inr there ↦ inr there
  ]
]

all_true : (task : Task) (bytes : List (List ℕ)) (items : List Item) (parts : List (List VerdictLine))
    → AreTrueLines task bytes items → AreParts items parts → (line : VerdictLine)
    → Contains (joined parts) line → IsTrueOf line
all_true task bytes [] [] true_lines are line has = let h = has.1 in absurd (omega (arith, h))
all_true task bytes [] (part ∷ parts) true_lines are line has = absurd are
all_true task bytes (item ∷ items) [] true_lines are line has = absurd are
all_true task [] (item ∷ items) (part ∷ parts) true_lines are line has = absurd true_lines
all_true task (b ∷ bytes) (item ∷ items) (part ∷ parts) true_lines are line has =
    elim (contains_part line part (joined parts) has) [
      | inl here ↦ by item.content true_lines.0 are.0 here
      | inr there ↦ all_true task bytes items parts true_lines.1 are.1 line there
    ]
  where
    by : (content : Content) → IsTrueLine task b (record { table = item.table; content = content })
        → IsPart item.table content part → Contains part line → IsTrueOf line
    by (Claim verdict) is part_is here =
        let only : VerdictLine = record { table = item.table; verdict = verdict } in
        elim (contains_cases only line [] (subst (λ (p : List VerdictLine). Contains p line) part_is here)) [
          | inl e ↦ subst IsTrueOf e (record {
            machine = is.is_line.0;
            claim = fine_claim task.limits item.table verdict is.is_fine;
          })
          | inr none ↦ let h = none.1 in absurd (omega (arith, h))
        ]
    by (Shard shard) is part_is here =
        record { machine = part_is.below.machines line here; claim = part_is.below.claims line here }

-- the totals: a number of each item, and the same of its part

module _ (f : Item → ℕ) (g : List VerdictLine → ℕ) (nothing : g [] ≡ 0)
    (adds : (a b : List VerdictLine) → g (a ++ b) ≡ g a + g b)
    (each : (item : Item) (part : List VerdictLine) → IsPart item.table item.content part
    → f item ≡ g part) where
  same_total : (items : List Item) (parts : List (List VerdictLine)) → AreParts items parts
      → sum_of f items ≡ g (joined parts)
  same_total [] [] are = sym nothing
  same_total [] (part ∷ parts) are = absurd are
  same_total (item ∷ items) [] are = absurd are
  same_total (item ∷ items) (part ∷ parts) are =
      let here = each item part are.0 in
      let rest = same_total items parts are.1 in
      let both = adds part (joined parts) in
      omega (arith, here, rest, both)

lines_each : (item : Item) (part : List VerdictLine) → IsPart item.table item.content part
    → lines_in item.content ≡ length part
lines_each item part is = by item.content is
  where
    by : (content : Content) → IsPart item.table content part → lines_in content ≡ length part
    by (Claim verdict) part_is = ap (λ (p : List VerdictLine). length p) (sym part_is)
    by (Shard shard) part_is = part_is.totals.lines_are

abbrev count_undecided : List VerdictLine → ℕ
count_undecided lines = count_by (λ (line : VerdictLine). is_undecided line.verdict) lines

undecided_each : (item : Item) (part : List VerdictLine) → IsPart item.table item.content part
    → undecided_in item.content ≡ count_undecided part
undecided_each item part is = by item.content is
  where
    by : (content : Content) → IsPart item.table content part
        → undecided_in content ≡ count_undecided part
    by (Claim verdict) part_is =
        omega arith ∙ ap (λ (p : List VerdictLine). count_undecided p) (sym part_is)
    by (Shard shard) part_is = part_is.totals.undecided_are

wide_each : (item : Item) (part : List VerdictLine) → IsPart item.table item.content part
    → wide_in item.table item.content ≡ count_by is_wide part
wide_each item part is = by item.content is
  where
    by : (content : Content) → IsPart item.table content part
        → wide_in item.table content ≡ count_by is_wide part
    by (Claim verdict) part_is =
        omega arith ∙ ap (λ (p : List VerdictLine). count_by is_wide p) (sym part_is)
    by (Shard shard) part_is = part_is.totals.wide_are

counts_add : (p : VerdictLine → Bool) (a b : List VerdictLine)
    → count_by p (a ++ b) ≡ count_by p a + count_by p b
counts_add p a b = sum_by-append (λ x. cond (p x) 1 0) a b

-- all of it

module _ (task : Task) (all : List (List ℕ)) (counts : Counts) (n k : ℕ) (whole : IsWholeWalk task all n k)
    (counted : AreCounts (marks_of task) whole.items counts) (parts : List (List VerdictLine))
    (are : AreParts whole.items parts) where
  below_root : IsWalkBelow (root_of task.below n k) (joined parts)
  below_root = record {
    walk = walked (root_of task.below n k ∷ []) whole.items parts are whole.walk;
    machines = λ line has. (all_true task all whole.items parts whole.are_true are line has).machine;
    claims = λ line has. (all_true task all whole.items parts whole.are_true are line has).claim;
  }

  totals : HasTotals (joined parts) counts.lines counts.undecided counts.wide
  totals = record {
    lines_are = counted.all
        ∙ same_total (λ item. lines_in item.content) length refl (λ a b. length-append a b) lines_each
        whole.items parts are;
    undecided_are = counted.undecided
        ∙ same_total (λ item. undecided_in item.content) count_undecided refl
        (counts_add (λ line. is_undecided line.verdict)) undecided_each whole.items parts are;
    wide_are = counted.wide
        ∙ same_total (λ item. wide_in item.table item.content) (count_by is_wide) refl (counts_add is_wide)
        wide_each whole.items parts are;
  }

  covers : (below : Option Table) → IsWalkBelow (root_of below n k) (joined parts)
      → CoversRoot below (joined parts) n k
  covers (Some first) is = tt
  covers None is =
      let lines_walked : AreWalked (joined parts) n k =
      record { walk = is.walk; machines = is.machines; claims = is.claims } in
      let covers_size : closed.Covers (joined parts) n k =
      normal_form_covers (joined parts) n k (walks_are_in_normal_form (joined parts) n k lines_walked) in (
        covers_size,
        λ machine is_machine states symbols.
            covers_decide (joined parts) machine is_machine (rw (states, symbols) covers_size),
      )

  pub joins : IsJoinedWalk task.below counts n k (joined parts)
  joins = record { below_root = below_root; covers = covers task.below below_root; totals = totals }
