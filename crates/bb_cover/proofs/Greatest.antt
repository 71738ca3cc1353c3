-- The greatest halt of a list bounds the halts of the size that it covers.
use Rattle.std.proofs.Common.{◌≡◌, ℕ, ◌≤◌, List, [], ◌∷◌, Option, None, inl, inr, refl, ap, sym}
use Rattle.std.proofs.Common.{subst, ◌∙◌, arith}
use Rattle.std.specs.Prelude.{Contains, max}
use Rattle.bb_machine.specs.Machine.{Table}
use Rattle.bb_cert.specs.declared.verdict.Verdict.{Verdict}
use Rattle.bb_cert.specs.declared.verdict.Verdict.TheVariants.{Halt}
use Rattle.laws_of_verdicts.specs.Bound.{TellsAtMost}
use Rattle.laws_of_verdicts.specs.Closed as closed
use Rattle.laws_of_verdicts.specs.Closed.{VerdictLine}
use Rattle.laws_of_verdicts.proofs.Facts.{contains_cases, covers_bound_given}
use Rattle.bb_cover.specs.declared.content.Content.{Content}
use Rattle.bb_cover.specs.declared.content.Content.TheVariants.{Claim, Shard}
use Rattle.bb_cover.specs.declared.counts.Counts.{Counts}
use Rattle.bb_cover.specs.declared.task.Form.TheVariants.{Verdicts}
use Rattle.bb_cover.specs.declared.task.Task.{Task}
use Rattle.bb_cover.specs.Claims.{AreTrueLines, IsTrueLine}
use Rattle.bb_cover.specs.Content.{Item, line_of, lines_of, verdict_of}
use Rattle.bb_cover.specs.Counts.{AreCounts, assumed_texts, greatest_of, halt_score, halt_steps, is_among, marks_of, of_claim}
use Rattle.bb_cover.specs.Covering.{AreParts, BoundsSize, CoversRoot, IsPart, IsWholeWalk, joined}
use Rattle.bb_cover.proofs.Parts.{joins}

-- no halt of the lines is greater

at_least : (a b n : ℕ) → n ≤ b → n ≤ max a b
at_least a b n below = omega (arith, below)

module _ (number : Verdict → ℕ) (steps score : ℕ) (line : VerdictLine)
    (says : line.verdict ≡ Halt steps score) where
  of_content : (content : Content) → verdict_of content ≡ Halt steps score
      → number (Halt steps score) ≡ of_claim number content
  of_content (Claim verdict) is = ap number (sym is)
  of_content (Shard shard) is = cc

  below_greatest : (items : List Item) → Contains (lines_of items) line
      → number (Halt steps score) ≤ greatest_of (λ item. of_claim number item.content) items
  below_greatest [] has = let none = has.1 in absurd (omega (arith, none))
  below_greatest (item ∷ items) has = elim (contains_cases (line_of item) line (lines_of items) has) [
    | inl e ↦
        let is : verdict_of item.content ≡ Halt steps score =
        ap (λ (l : VerdictLine). l.verdict) e ∙ says in
        let here = of_content item.content is in
        omega (arith, here)
    | inr later ↦ at_least (of_claim number item.content) _ _ (below_greatest items later)
  ]

-- without shards, each line is a part of its own

abbrev singles : List Item → List (List VerdictLine)
singles [] = []
singles (item ∷ items) = (line_of item ∷ []) ∷ singles items

joined_singles : (items : List Item) → joined (singles items) ≡ lines_of items
joined_singles [] = refl
joined_singles (item ∷ items) = ap (λ lines. line_of item ∷ lines) (joined_singles items)

are_singles : (task : Task) → task.form ≡ Verdicts → (bytes : List (List ℕ)) (items : List Item)
    → AreTrueLines task bytes items → AreParts items (singles items)
are_singles task verdicts [] [] are = tt
are_singles task verdicts [] (item ∷ items) are = absurd are
are_singles task verdicts (b ∷ bytes) [] are = absurd are
are_singles task verdicts (b ∷ bytes) (item ∷ items) are =
    (by item.content are.0, are_singles task verdicts bytes items are.1)
  where
    by : (content : Content) → IsTrueLine task b (record { table = item.table; content = content })
        → IsPart item.table content (line_of (record { table = item.table; content = content }) ∷ [])
    by (Claim verdict) is = refl
    by (Shard shard) is = let skeleton = is.is_line.0 in let both = sym verdicts ∙ skeleton in absurd cc

-- so the list bounds the halts of its size

covers_root : (below : Option Table) (lines : List VerdictLine) (n k : ℕ) → below ≡ None
    → CoversRoot below lines n k → closed.Covers lines n k
covers_root None lines n k none covers = covers.0
covers_root below lines n k none covers = absurd cc

module _ (task : Task) (all : List (List ℕ)) (counts : Counts) (n k : ℕ) (whole : IsWholeWalk task all n k)
    (counted : AreCounts (marks_of task) whole.items counts) where
  tells : TellsAtMost (lines_of whole.items) counts.most_steps counts.most_score
  tells = record {
    steps = λ line steps score has says.
        let most = below_greatest halt_steps steps score line says whole.items has in
        let is = counted.most_steps in
        omega (arith, most, is);
    score = λ line steps score has says.
        let most = below_greatest halt_score steps score line says whole.items has in
        let is = counted.most_score in
        omega (arith, most, is);
  }

  pub bounds : task.form ≡ Verdicts → task.below ≡ None
      → BoundsSize (assumed_texts task) (lines_of whole.items) counts n k
  bounds verdicts none machine is_machine states symbols never =
      let parts = are_singles task verdicts all whole.items whole.are_true in
      let walk = joins task all counts n k whole counted (singles whole.items) parts in
      let covers : closed.Covers (lines_of whole.items) n k =
      subst (λ lines. closed.Covers lines n k) (joined_singles whole.items)
      (covers_root task.below (joined (singles whole.items)) n k none walk.covers) in
      covers_bound_given (is_among (assumed_texts task)) never (lines_of whole.items) machine
      counts.most_steps counts.most_score is_machine (rw (states, symbols) covers) tells
