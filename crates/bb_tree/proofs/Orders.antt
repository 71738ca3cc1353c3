-- A walk may enter what could come before a node in any order.
use Rattle.std.proofs.Common.{◌≡◌, ℕ, zero, suc, ◌+◌, ◌-◌, inl, inr, List, [], ◌∷◌, ◌++◌, length, map}
use Rattle.std.proofs.Common.{ap, sym, subst, ◌∙◌, length-append, arith}
use Rattle.std.specs.List.{flat_map}
use Rattle.std.specs.List.Sorted.{IsPermutation}
use Rattle.std.proofs.lemmas.List.Concat.{flat_map_single}
use Rattle.std.proofs.lemmas.List.Recursion.{is_sum_by}
use Rattle.std.proofs.lemmas.List.Sorted.{IsPermutation-sym, sum_by-IsPermutation}
use Rattle.bb_machine.specs.Machine.{Table}
use Rattle.bb_sim.specs.Configuration.{start}
use Rattle.bb_tree.specs.declared.rules.Rule.{Rule}
use Rattle.bb_tree.specs.Tree.{Node, Matches, MatchesOne, OneOf, grown, grown_below}
use Rattle.bb_tree.specs.inside.Walk.{IsPart, IsWalked}
use Rattle.bb_tree.proofs.Walked.{grown-append, grown-empty, empty_below}
use Rattle.bb_tree.proofs.OneOf.{one-flat_map, one_permuted}

-- in place of some nodes a walk may enter others: they stand in the same level, and their trees are alike
pub record AreAlike (table : Table) (nodes others : List Node) : Type 0 where
  pub below : (h : ℕ) → grown_below table nodes h ≡ grown_below table others h
  pub part : IsPart others nodes
  pub matches : (i : ℕ) → MatchesOne (grown table nodes i) start → MatchesOne (grown table others i) start

pub walk_rearranged : {table : Table} {first others : List Node} {comb : List (List Node)} {nodes levels : ℕ}
    → AreAlike table first others → IsWalked table (first ∷ comb) nodes levels
    → IsWalked table (others ∷ comb) nodes levels
walk_rearranged {comb = comb} alike walked = record {
  counted = λ h deep.
      omega (arith, walked.counted h deep, alike.below (h - length comb));
  reached = walked.reached;
  parts = (λ node one. walked.parts.0 node (alike.part node one), walked.parts.1);
  matches = λ i one. elim (walked.matches i one) [
    | inl both ↦ inl (both.0, alike.matches (i - length comb) both.1)
    | inr further ↦ inr further
  ];
}

below-append : (table : Table) (a b : List Node) (h : ℕ)
    → grown_below table (a ++ b) h ≡ grown_below table a h + grown_below table b h
below-append table a b zero = omega arith
below-append table a b (suc h) =
    let here = ap length (grown-append table a b h) ∙ length-append (grown table a h) (grown table b h) in
    omega (arith, below-append table a b h, here)

grown-flat_map : (table : Table) (f : Rule → List Node) (rules : List Rule) (i : ℕ)
    → grown table (flat_map f rules) i ≡ flat_map (λ r. grown table (f r) i) rules
grown-flat_map table f [] i = grown-empty table i
grown-flat_map table f (r ∷ rules) i = grown-append table (f r) (flat_map f rules) i
    ∙ ap (λ nodes. grown table (f r) i ++ nodes) (grown-flat_map table f rules i)

module _ (table : Table) (f : Rule → List Node) (rules others : List Rule) (same : IsPermutation rules others)
  where
    below_permuted : (h : ℕ) → grown_below table (flat_map f rules) h ≡ grown_below table
        (flat_map f others) h
    below_permuted h =
        let sum = is_sum_by (λ rs. grown_below table (flat_map f rs) h) (λ r. grown_below table (f r) h)
        (empty_below table h) (λ r rs. below-append table (f r) (flat_map f rs) h) in
        sum rules ∙ sym (sum_by-IsPermutation (λ r. grown_below table (f r) h) rules others same)
        ∙ sym (sum others)

    one_after : (P : Node → Type 0) (from to : List Rule) → IsPermutation from to → OneOf P (flat_map f from)
        → OneOf P (flat_map f to)
    one_after P from to moved one = (one-flat_map P f to).1
        (one_permuted (λ r. OneOf P (f r)) from to moved ((one-flat_map P f from).0 one))

    matches_permuted : (i : ℕ) → MatchesOne (grown table (flat_map f rules) i) start
        → MatchesOne (grown table (flat_map f others) i) start
    matches_permuted i one =
        let of : Rule → List Node = λ r. grown table (f r) i in
        let one_of = subst (λ nodes. MatchesOne nodes start) (grown-flat_map table f rules i) one in
        subst (λ nodes. MatchesOne nodes start) (sym (grown-flat_map table f others i))
        ((one-flat_map (λ n. Matches n start) of others).1
        (one_permuted (λ r. MatchesOne (grown table (f r) i) start) rules others same
        ((one-flat_map (λ n. Matches n start) of rules).0 one_of)))

    -- what rules give in one order, and in another
    pub alike_permuted : AreAlike table (flat_map f rules) (flat_map f others)
    alike_permuted = record {
      below = below_permuted;
      part = λ node one. one_after (λ other. other ≡ node) others rules
          (IsPermutation-sym rules others same) one;
      matches = matches_permuted;
    }

pub alike_mapped : (table : Table) (f : Rule → Node) (rules others : List Rule) → IsPermutation rules others
    → AreAlike table (map f rules) (map f others)
alike_mapped table f rules others same =
    subst (λ nodes. AreAlike table nodes (map f others)) (flat_map_single f rules)
    (subst (AreAlike table (flat_map (λ r. f r ∷ []) rules)) (flat_map_single f others)
    (alike_permuted table (λ r. f r ∷ []) rules others same))
