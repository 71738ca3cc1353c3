-- What is left of the tree when a walk enters a node and leaves one.
use Rattle.std.proofs.Common.{◌≡◌, ◌≢◌, ℕ, zero, suc, ◌+◌, ◌-◌, ◌<◌, ◌≤◌, max, inl, inr, List, [], ◌∷◌, ◌++◌}
use Rattle.std.proofs.Common.{length, refl, ap, sym, subst, ◌∙◌, length-append, arith}
use Rattle.std.specs.List.{flat_map}
use Rattle.std.proofs.lemmas.Bool.{cases_lt}
use Rattle.std.proofs.lemmas.List.Concat.{flat_map-append}
use Rattle.bb_machine.specs.declared.entry.Dir.{Dir}
use Rattle.bb_machine.specs.Machine.{Table}
use Rattle.bb_sim.specs.Configuration.{start}
use Rattle.bb_tree.specs.Tree.{Node, Matches, OneOf, MatchesOne, before, grown, level, grown_below, Ends}
use Rattle.bb_tree.specs.Tree.{Clear, EndsNowhere}
use Rattle.bb_tree.specs.inside.Walk.{comb_below, CombMatches, IsPart, IsWalked, Refused, too_deep, too_many}
use Rattle.bb_tree.specs.inside.Walk.{matched, without_end, AreEndless, IsOpen}
use Rattle.bb_tree.proofs.EndlessPaths.{never_empty}
use Rattle.bb_tree.proofs.OneOf.{one_more, one-append, one-flat_map}
use Rattle.bb_tree.proofs.TreeEnds.{empty_levels_stay}

-- trees of two lists

pub grown-append : (table : Table) (a b : List Node) (i : ℕ)
    → grown table (a ++ b) i ≡ grown table a i ++ grown table b i
grown-append table a b zero = refl
grown-append table a b (suc i) = ap (flat_map (before table)) (grown-append table a b i)
    ∙ flat_map-append (before table) (grown table a i) (grown table b i)

pub grown-empty : (table : Table) (i : ℕ) → grown table [] i ≡ []
grown-empty table zero = refl
grown-empty table (suc i) = ap (flat_map (before table)) (grown-empty table i)

grown-first : (table : Table) (nodes : List Node) (i : ℕ)
    → grown table nodes (suc i) ≡ grown table (flat_map (before table) nodes) i
grown-first table nodes zero = refl
grown-first table nodes (suc i) = ap (flat_map (before table)) (grown-first table nodes i)

one_node : (nodes : List Node) → nodes ++ [] ≡ nodes
one_node [] = refl
one_node (n ∷ nodes) = ap (λ ns. n ∷ ns) (one_node nodes)

-- the tree of a node and of those after it
grown-node : (table : Table) (node : Node) (rest : List Node) (i : ℕ)
    → grown table (node ∷ rest) (suc i) ≡ grown table (before table node) i ++ grown table rest (suc i)
grown-node table node rest i =
    grown-append table (node ∷ []) rest (suc i)
    ∙ ap (λ ns. ns ++ grown table rest (suc i)) (grown-first table (node ∷ []) i
    ∙ ap (λ ns. grown table ns i) (one_node (before table node)))

below-node : (table : Table) (node : Node) (rest : List Node) (h : ℕ)
    → grown_below table (node ∷ rest) (suc h) ≡ suc
    (grown_below table (before table node) h + grown_below table rest (suc h))
below-node table node rest zero = omega arith
below-node table node rest (suc h) =
    let here = ap length (grown-node table node rest h)
    ∙ length-append (grown table (before table node) h) (grown table rest (suc h)) in
    omega (arith, below-node table node rest h, here)

-- entering and leaving

pub empty_below : (table : Table) (h : ℕ) → grown_below table [] h ≡ 0
empty_below table zero = refl
empty_below table (suc h) = omega (arith, empty_below table h, ap length (grown-empty table h))

below_entered : (table : Table) (node : Node) (rest : List Node) (comb : List (List Node)) (h : ℕ)
    → length comb < h → comb_below table ((node ∷ rest) ∷ comb) h ≡ suc
    (comb_below table (before table node ∷ rest ∷ comb) h)
below_entered table node rest comb h deep =
    let n : h - length comb ≡ suc (h - suc (length comb)) = omega (arith, deep) in
    let here = ap (grown_below table (node ∷ rest)) n ∙ below-node table node rest (h - suc (length comb)) in
    omega (arith, here, ap (grown_below table rest) n)

matches_entered : (table : Table) (node : Node) (rest : List Node) (comb : List (List Node)) (i : ℕ)
    → (Matches node start → ⊥) → CombMatches table ((node ∷ rest) ∷ comb) i
    → CombMatches table (before table node ∷ rest ∷ comb) i
matches_entered table node rest comb i apart (inr further) = inr (inr further)
matches_entered table node rest comb i apart (inl both) = elim (cases_lt (length comb) i) [
  | inl less ↦
      let n : i - length comb ≡ suc (i - suc (length comb)) = omega (arith, less) in
      let split = subst (λ nodes. MatchesOne nodes start) (ap (grown table (node ∷ rest)) n
      ∙ grown-node table node rest (i - suc (length comb))) both.1 in
      elim ((one-append (λ m. Matches m start) (grown table (before table node) (i - suc (length comb)))
      (grown table rest (suc (i - suc (length comb))))).0 split) [
        | inl here ↦ inl (omega (arith, less), here)
        | inr later ↦ inr (inl (both.0, subst (λ j. MatchesOne (grown table rest j) start) (sym n) later))
      ]
  | inr more ↦
      let n : i - length comb ≡ zero = omega (arith, more) in
      elim (subst (λ nodes. MatchesOne nodes start) (ap (grown table (node ∷ rest)) n) both.1) [
        | inl here ↦ absurd (apart here)
        | inr later ↦ inr (inl (both.0, subst (λ j. MatchesOne (grown table rest j) start) (sym n) later))
      ]
]

-- what could come before a node of a level is a part of the next
before_part : (table : Table) (node : Node) (rest : List Node) (i : ℕ) → IsPart (node ∷ rest) (level table i)
    → IsPart (before table node) (level table (suc i))
before_part table node rest i part n one =
    (one-flat_map (λ other. other ≡ n) (before table) (level table i)).1
    (one_more (λ other. other ≡ node) (λ other. OneOf (λ o. o ≡ n) (before table other))
    (λ other same. subst (λ m. OneOf (λ o. o ≡ n) (before table m)) (sym same) one) (level table i)
    (part node (inl refl)))

-- a level that has a node
has_node : (table : Table) (node : Node) (rest : List Node) (i : ℕ) → IsPart (node ∷ rest) (level table i)
    → level table i ≢ []
has_node table node rest i part none = subst (OneOf (λ other. other ≡ node)) none (part node (inl refl))

pub walk_enters : {table : Table} {node : Node} {rest : List Node} {comb : List (List Node)}
    {nodes levels : ℕ} → IsWalked table ((node ∷ rest) ∷ comb) nodes levels → (Matches node start → ⊥)
    → IsWalked table (before table node ∷ rest ∷ comb) (nodes + 1) (max levels (length comb + 1))
walk_enters {table} {node} {rest} {comb} {levels = levels} walked apart = record {
  counted = λ h deep.
      let old = walked.counted h (omega (arith, deep)) in
      omega (arith, old, below_entered table node rest comb h (omega (arith, deep)));
  reached = λ i less. elim (cases_lt i levels) [
    | inl known ↦ walked.reached i known
    | inr more ↦ λ none.
        let less_here : i ≤ length comb = omega (arith, less, more) in
        has_node table node rest (length comb) walked.parts.0
        (empty_levels_stay table i (length comb) less_here none)
  ];
  parts = (
    before_part table node rest (length comb) walked.parts.0,
    ((λ n one. walked.parts.0 n (inr one)), walked.parts.1),
  );
  matches = λ i one. matches_entered table node rest comb i apart (walked.matches i one);
}

no_matches : (table : Table) (comb : List (List Node)) (i : ℕ) → CombMatches table ([] ∷ comb) i
    → CombMatches table comb i
no_matches table comb i (inr further) = further
no_matches table comb i (inl both) =
    absurd (subst (λ nodes. MatchesOne nodes start) (grown-empty table (i - length comb)) both.1)

pub walk_leaves : {table : Table} {comb : List (List Node)} {nodes levels : ℕ}
    → IsWalked table ([] ∷ comb) nodes levels → IsWalked table comb nodes levels
walk_leaves {table} {comb} walked = record {
  counted = λ h deep. omega (arith, walked.counted h deep, empty_below table (h - length comb));
  reached = walked.reached;
  parts = walked.parts.1;
  matches = λ i one. no_matches table comb i (walked.matches i one);
}

-- the tree goes on where a node is still to be entered

module _ {table : Table} {node : Node} {rest : List Node} {comb : List (List Node)} {nodes levels : ℕ}
    (walked : IsWalked table ((node ∷ rest) ∷ comb) nodes levels) {h k : ℕ} (ends : Ends table h k) where
  goes_deeper : length comb < h
  goes_deeper = elim (cases_lt (length comb) h) [
    | inl less ↦ less
    | inr more ↦ absurd (has_node table node rest (length comb) walked.parts.0
        (empty_levels_stay table h (length comb) more ends.is_empty))
  ]

  goes_further : nodes < k
  goes_further =
      let deep : levels ≤ h = elim (cases_lt h levels) [
        | inl less ↦ absurd (walked.reached h less ends.is_empty)
        | inr more ↦ more
      ] in
      omega (arith, walked.counted h deep, below_entered table node rest comb h goes_deeper, ends.counted)

  -- it is one of its level's nodes
  on_level : (P : Node → Type 0) → P node → OneOf P (level table (length comb))
  on_level P here = one_more (λ other. other ≡ node) P (λ other same. subst P (sym same) here)
      (level table (length comb)) (walked.parts.0 node (inl refl))

  never_clear : Matches node start → Clear table h → ⊥
  never_clear here clear = clear.clear (length comb) goes_deeper (on_level (λ n. Matches n start) here)

  never_ends : (sets : Dir → ℕ) → AreEndless table sets → (dir : Dir) → IsOpen sets dir node → ⊥
  never_ends sets are dir open_here = never_empty sets dir (are dir) (length comb) h
      (on_level (IsOpen sets dir) open_here) ends.is_empty

pub walk_refused : {table : Table} {node : Node} {rest : List Node} {comb : List (List Node)}
    {nodes levels most_nodes most_levels : ℕ} {sets : Dir → ℕ} → AreEndless table sets
    → IsWalked table ((node ∷ rest) ∷ comb) nodes levels
    → Refused sets node (length comb) nodes most_nodes most_levels → EndsNowhere table most_levels most_nodes
walk_refused are walked (too_deep deep) =
    record { nowhere = λ h k tree. omega (arith, tree.within_levels, goes_deeper walked tree.ends) }
walk_refused are walked (too_many many) =
    record { nowhere = λ h k tree. omega (arith, tree.within_nodes, goes_further walked tree.ends) }
walk_refused are walked (matched here) =
    record { nowhere = λ h k tree. never_clear walked tree.ends here tree.clear }
walk_refused {sets = sets} are walked (without_end dir open_here) =
    record { nowhere = λ h k tree. never_ends walked tree.ends sets are dir open_here }

-- the walk's start and its end

pub walk_begins : (table : Table) → IsWalked table (level table 0 ∷ []) 0 0
walk_begins table = record {
  counted = λ h deep.
      let n : h - 0 ≡ h = omega arith in
      omega (arith, ap (grown_below table (level table 0)) n);
  reached = λ i less. absurd (omega arith);
  parts = (λ node one. one, tt);
  matches = λ i one.
      let n : i ≡ i - 0 = omega arith in
      inl (omega arith, subst (λ j. MatchesOne (grown table (level table 0) j) start) n one);
}

none_if_short : (nodes : List Node) → length nodes ≡ 0 → nodes ≡ []
none_if_short [] e = refl
none_if_short (n ∷ nodes) e = absurd (omega arith)

pub walk_ends : {table : Table} {nodes levels : ℕ} → IsWalked table ([] ∷ []) nodes levels
    → Ends table levels nodes × Clear table levels
walk_ends {table} {levels = levels} walked =
    let here = walked.counted levels (omega arith) in
    let next = walked.counted (suc levels) (omega arith) in
    let none_here = empty_below table (levels - 0) in
    let none_next = empty_below table (suc levels - 0) in
    let empty : length (level table levels) ≡ 0 = omega (arith, here, next, none_here, none_next) in (
      record {
        is_empty = none_if_short (level table levels) empty;
        is_first = walked.reached;
        counted =
            omega (arith, here, none_here);
      },
      record { clear = λ i less one. no_matches table [] i (walked.matches i one) },
    )
