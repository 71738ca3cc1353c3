-- What a tape shows of a node, and what changes where a branch is entered and left.
use Rattle.std.proofs.Common.{◌≡◌, ℕ, zero, suc, ◌+◌, ◌-◌, ◌<◌, ◌≤◌, min, true, false, inl, inr, Option}
use Rattle.std.proofs.Common.{Some, None, List, [], ◌∷◌, ◌++◌, length, get_or, take, drop, slice_range, ℤ}
use Rattle.std.proofs.Common.{◌⊎◌, pos, neg_ℤ, ◌+ℤ◌, ◌≤ℤ◌, refl, ap, sym, subst, ◌∙◌, arith}
use Rattle.std.proofs.Math.Path.{fun_ext}
use Rattle.std.specs.List.{AllByRecursion, flat_map}
use Rattle.std.proofs.lemmas.Bool.{cases_eq, eq-eqb, ne_eqb, cond-true, cond-false}
use Rattle.std.proofs.lemmas.List.{drop_more}
use Rattle.std.proofs.lemmas.Int.{ints}
use Rattle.std.proofs.lemmas.List.Elements.{All-from_recursion, All-get_or}
use Rattle.bb_machine.specs.declared.entry.Dir.{Dir}
use Rattle.bb_machine.specs.declared.entry.Dir.TheVariants.{L, R}
use Rattle.bb_machine.specs.declared.entry.Next.{Next}
use Rattle.bb_machine.specs.declared.entry.Next.TheVariants.{State}
use Rattle.bb_machine.specs.declared.entry.Entry.{Entry}
use Rattle.bb_machine.specs.declared.entry.Entry.TheVariants.{Undefined, Go}
use Rattle.bb_machine.specs.declared.machine.TheConstants.{MAX_SYMBOLS}
use Rattle.bb_machine.specs.Entry.{IsEntryOf}
use Rattle.bb_tape.specs.Content.{Content, blank, cell, with_cell, score}
use Rattle.bb_tape.proofs.Facts.{cell-blank, cell-with_cell-same, cell-with_cell-other, by_position}
use Rattle.bb_tape.proofs.Facts.{same_content, score-blank, score-with_cell}
use Rattle.bb_sim.specs.Configuration.{start}
use Rattle.bb_tree.specs.declared.path.Frame.{Frame}
use Rattle.bb_tree.specs.declared.rules.Rule.{Rule}
use Rattle.bb_tree.specs.declared.traversal.Branch.{Branch}
use Rattle.bb_tree.specs.Tree.{Node, Matches, with_known, halting_node, left_cell, may_be, seen_from}
use Rattle.bb_tree.specs.Tree.{before_by_entry, before_by}
use Rattle.bb_tree.specs.inside.Walk.{shown_symbol, shown, shown_node, HasNonzero, branches, IsRule}
use Rattle.bb_tree.specs.inside.Steps.{IsFirstBranch}
use Rattle.bb_tree.proofs.Levels.{known-here, known-other}

-- the node of a branch

same_place : (p x : ℤ) → x ≡ pos 0 → p +ℤ x ≡ p
same_place p x e = omega (arith, ints)

known_more : (content : Content) (p : ℤ) (symbol : ℕ) (x : ℤ) → with_known (shown content p)
    (pos 0) symbol x ≡ shown (with_cell content p (symbol + 1)) p x
known_more content p symbol x = by_position x (pos 0) _
    (λ here.
    let there : cell (with_cell content p (symbol + 1)) (p +ℤ x) ≡ suc symbol =
    ap (cell (with_cell content p (symbol + 1))) (same_place p x here)
    ∙ cell-with_cell-same content p (symbol + 1) ∙ omega arith in
    known-here (shown content p) (pos 0) symbol x here ∙ sym (ap shown_symbol there))
    (λ apart.
    known-other (shown content p) (pos 0) symbol x apart
    ∙ ap shown_symbol (sym (cell-with_cell-other content p (symbol + 1) (p +ℤ x) (λ e.
    apart (omega (arith, ints, e))))))

seen_shown : (content : Content) (p d x : ℤ) → seen_from d (shown content p) x ≡ shown content (p +ℤ d) x
seen_shown content p d x =
    let e : p +ℤ (x +ℤ d) ≡ (p +ℤ d) +ℤ x = omega (arith, ints) in
    ap (λ q. shown_symbol (cell content q)) e

known_seen : (content : Content) (p d : ℤ) (symbol : ℕ) → with_known (seen_from d (shown content p))
    (pos 0) symbol ≡ shown (with_cell content (p +ℤ d) (symbol + 1)) (p +ℤ d)
known_seen content p d symbol =
    ap (λ known. with_known known (pos 0) symbol) (fun_ext (seen_shown content p d))
    ∙ fun_ext (known_more content (p +ℤ d) symbol)

abbrev node : ℕ → (ℤ → Option ℕ) → Node
node state known = record { state = state; known = known }

-- what a halting rule's node is shown as
pub halting_shown : (rule : Rule) (p : ℤ) → halting_node rule ≡ shown_node (with_cell blank p
    (rule.symbol + 1)) p rule.state
halting_shown rule p =
    let none : (x : ℤ) → None ≡ shown blank p x = λ x. sym (ap shown_symbol (cell-blank (p +ℤ x))) in
    ap (node rule.state) (ap (λ known. with_known known (pos 0) rule.symbol) (fun_ext none) ∙ fun_ext
    (known_more blank p rule.symbol))

may_be-shown : (held write : ℕ) → (held ≡ 0 → ⊥) → (held ≡ write + 1 → ⊥) → may_be
    (shown_symbol held) write ≡ false
may_be-shown zero write known other = absurd (known refl)
may_be-shown (suc held) write known other = ne_eqb held write (λ e. other (omega (arith, e)))

may_be-fits : (held write : ℕ) → (held ≡ 0) ⊎ (held ≡ write + 1) → may_be (shown_symbol held) write ≡ true
may_be-fits zero write fits = refl
may_be-fits (suc held) write (inl none) = absurd (omega (arith, none))
may_be-fits (suc held) write (inr same) = eq-eqb held write (omega (arith, same))

-- the node that a rule leads from, its head at p
abbrev from_rule : Content → ℤ → Rule → Node
from_rule content p rule = shown_node (with_cell content p (rule.symbol + 1)) p rule.state

-- a rule that doesn't fit, and one that does

pub none_before : (content : Content) (position : ℤ) (state : ℕ) (rule : Rule) → rule.entry ≡ Undefined
    → before_by (shown_node content position state) rule ≡ []
none_before content position state rule e = ap (before_by_entry
    (shown_node content position state) rule.state rule.symbol) e

module _ (content : Content) (position : ℤ) (state : ℕ) (rule : Rule) (write : ℕ) (dir : Dir)
    (next : Next) (is : rule.entry ≡ Go write dir next) where
  pub unfit_before : (held : ℕ) → held ≡ cell content (position +ℤ left_cell dir) → (held ≡ 0 → ⊥) →
      (held ≡ write + 1 → ⊥) → before_by (shown_node content position state) rule ≡ []
  unfit_before held shows known other =
      let no = ap (λ h. may_be (shown_symbol h) write) (sym shows) ∙ may_be-shown held write known other in
      ap (before_by_entry (shown_node content position state) rule.state rule.symbol) is ∙ cond-false _ _ _ no

  pub fit_before : (held : ℕ) → held ≡ cell content (position +ℤ left_cell dir)
      → (held ≡ 0) ⊎ (held ≡ write + 1)
      → before_by (shown_node content position state) rule ≡ from_rule content
      (position +ℤ left_cell dir) rule ∷ []
  fit_before held shows fits =
      ap (before_by_entry (shown_node content position state) rule.state rule.symbol) is
      ∙ cond-true _ _ _ (may_be-fits _ write (subst (λ h. (h ≡ 0) ⊎ (h ≡ write + 1)) shows fits))
      ∙ ap (λ known. node rule.state known ∷ []) (known_seen content position (left_cell dir) rule.symbol)

-- one rule of a range

pub slice_step : {X : Type 0} (xs : List X) (from to : ℕ) (d : X) → from < to → from < length xs
    → slice_range xs from to ≡ get_or xs from d ∷ slice_range xs (from + 1) to
slice_step xs from to d less within =
    let n : to - from ≡ suc (to - (from + 1)) = omega (arith, less) in
    ap (λ k. take k (drop from xs)) n ∙ ap (take (suc (to - (from + 1)))) (drop_more xs from d within)

pub slice_none : {X : Type 0} (xs : List X) (from to : ℕ) → to ≤ from → slice_range xs from to ≡ []
slice_none xs from to h =
    let n : to - from ≡ zero = omega (arith, h) in
    ap (λ k. take k (drop from xs)) n

module _ (list : List Rule) (content : Content) (f : Frame) (d : Rule) (less : f.next < f.end)
    (within : f.end ≤ length list) where
  branches_step : branches list content f ≡ before_by (shown_node content f.position f.state)
      (get_or list f.next d) ++ branches list content (record f { next = f.next + 1 })
  branches_step =
      let in_list : f.next < length list = omega (arith, less, within) in
      ap (flat_map (before_by (shown_node content f.position f.state)))
      (slice_step list f.next f.end d less in_list)

  pub branches_skip : before_by (shown_node content f.position f.state) (get_or list f.next d) ≡ []
      → branches list content f ≡ branches list content (record f { next = f.next + 1 })
  branches_skip none = branches_step ∙ ap (λ ns. ns ++ branches list content (record f { next = f.next + 1 }))
      none

  pub branches_first : (n : Node) → before_by (shown_node content f.position f.state)
      (get_or list f.next d) ≡ n ∷ [] → branches list content f ≡ n ∷ branches list content
      (record f { next = f.next + 1 })
  branches_first n one = branches_step
      ∙ ap (λ ns. ns ++ branches list content (record f { next = f.next + 1 })) one

-- what is read past a list's end
abbrev pub no_rule : Rule
no_rule = record { state = 0; symbol = 0; entry = Undefined }

pub undefined_else : (entry : Entry) → ((write : ℕ) (dir : Dir) (next : Next) → entry ≡ Go write dir next
    → ⊥) → entry ≡ Undefined
undefined_else Undefined other = refl
undefined_else (Go write dir next) other = absurd (other write dir next refl)

pub named_at : (states : ℕ) (list : List Rule) → AllByRecursion (IsRule states) list → (index : ℕ)
    (d : Rule) → index < length list → IsRule states (get_or list index d)
named_at states list all index d h =
    All-get_or (IsRule states) list index d h (All-from_recursion (IsRule states) list all)

-- a rule's symbol to be written is one of the machine's
pub writes_symbol : (states : ℕ) {list seen : List Rule} → seen ≡ list → AllByRecursion (IsRule states) list
    → {index : ℕ} (d : Rule) → index < length list → {write : ℕ} {dir : Dir} {next : Next}
    → (get_or seen index d).entry ≡ Go write dir next → write < MAX_SYMBOLS
writes_symbol states {list} same named {index} d less entry =
    let is = named_at states list named index d less in
    let written = ap (λ xs. (get_or xs index d).entry) (sym same) ∙ entry in
    (subst (IsEntryOf states MAX_SYMBOLS) written is.entry).0

-- a rule is tried, which stands in the list that the code reads
module _ {list seen : List Rule} (same : seen ≡ list) (content : Content) (f : Frame) {index : ℕ}
    (d : Rule) (from : f.next ≤ index) (less : index < f.end) (within : f.end ≤ length list)
    (so_far : branches list content f ≡ branches list content (record f { next = index })) where
  abbrev tried : Rule
  tried = get_or seen index d

  there : get_or list index d ≡ tried
  there = ap (λ xs. get_or xs index d) (sym same)

  pub skips_undefined : tried.entry ≡ Undefined → branches list content f ≡ branches list content
      (record f { next = index + 1 })
  skips_undefined e = so_far ∙ branches_skip list content (record f { next = index }) d less within
      (ap (before_by (shown_node content f.position f.state)) there
      ∙ none_before content f.position f.state tried e)

  module _ {write : ℕ} {dir : Dir} {next : Next} (entry : tried.entry ≡ Go write dir next) {p : ℤ}
      (at : p ≡ f.position +ℤ left_cell dir) {held : ℕ} (shows : held ≡ cell content p) where
    shows_left : held ≡ cell content (f.position +ℤ left_cell dir)
    shows_left = shows ∙ ap (cell content) at

    pub skips_unfit : (held ≡ 0 → ⊥) → (held ≡ write + 1 → ⊥) → branches list content f
        ≡ branches list content (record f { next = index + 1 })
    skips_unfit known other = so_far ∙ branches_skip list content (record f { next = index }) d less within
        (ap (before_by (shown_node content f.position f.state)) there
        ∙ unfit_before content f.position f.state tried write dir next entry held shows_left known other)

    branch_here : (held ≡ 0) ⊎ (held ≡ write + 1)
        → branches list content f ≡ from_rule content p tried ∷ branches list content
        (record f { next = index + 1 })
    branch_here fits = so_far ∙ branches_first list content (record f { next = index }) d less within
        (from_rule content p tried)
        (ap (before_by (shown_node content f.position f.state)) there
        ∙ fit_before content f.position f.state tried write dir next entry held shows_left fits
        ∙ ap (λ q. from_rule content q tried ∷ []) (sym at))

    abbrev found : Branch
    found = record {
      position = p;
      state = tried.state;
      symbol = tried.symbol;
      dir = dir;
      held = held;
      nonzero_known = f.nonzero_known;
    }

    near : (f.position ≤ℤ (p +ℤ pos 1)) × (p ≤ℤ (f.position +ℤ pos 1))
    near = elim dir as (λ dir. p ≡ f.position +ℤ left_cell dir
        → (f.position ≤ℤ (p +ℤ pos 1)) × (p ≤ℤ (f.position +ℤ pos 1)))
        [ L ↦ λ e. omega (arith, ints, e) | R ↦ λ e. omega (arith, ints, e) ] at

    pub first_fitting : {states : ℕ} → AllByRecursion (IsRule states) list → (held ≡ 0) ⊎ (held ≡ write + 1)
        → IsFirstBranch list states content f found (index + 1)
    first_fitting {states} named fits =
        let is : IsRule states tried =
        rw (← there) (named_at states list named index d (omega (arith, less, within))) in
        record {
          not_below = near.0;
          not_above = near.1;
          state = is.state;
          symbol = is.symbol;
          held = shows;
          nonzero_known = refl;
          further = omega (arith, from);
          within = omega (arith, less);
          first = branch_here fits;
        }

pub branches_none : (list : List Rule) (content : Content) (f : Frame) → f.end ≤ f.next
    → branches list content f ≡ []
branches_none list content f h = ap (flat_map (before_by (shown_node content f.position f.state)))
    (slice_none list f.next f.end h)

-- cells known to be other than 0

pub blank_nonzero : HasNonzero blank 0
blank_nonzero = record {
  one_less = blank;
  each = λ p. let e = cell-blank p in omega (arith, e);
  counted = sym score-blank;
}

pub written_nonzero : (content : Content) (p : ℤ) (symbol nonzero more : ℕ) → HasNonzero content nonzero
    → more + min 1 (cell content p - 1) ≡ nonzero + min 1 symbol → HasNonzero (with_cell content p
    (symbol + 1)) more
written_nonzero content p symbol nonzero more has sum = record {
  one_less = with_cell has.one_less p symbol;
  each = λ q. by_position q p _
      (λ here.
      let new = ap (cell (with_cell has.one_less p symbol)) here
      ∙ cell-with_cell-same has.one_less p symbol in
      let is = ap (cell (with_cell content p (symbol + 1))) here
      ∙ cell-with_cell-same content p (symbol + 1) in
      omega (arith, new, is))
      (λ apart.
      cell-with_cell-other has.one_less p symbol q apart ∙ has.each q
      ∙ ap (λ c. c - 1) (sym (cell-with_cell-other content p (symbol + 1) q apart)));
  counted =
      let here = has.each p in
      let same : min 1 (cell has.one_less p) ≡ min 1 (cell content p - 1) = ap (min 1) here in
      omega (arith, score-with_cell has.one_less p symbol, same, has.counted, sum);
}

-- a cell that is known to be other than 0 is counted
pub some_nonzero : (content : Content) (p : ℤ) (nonzero : ℕ) → HasNonzero content nonzero
    → 1 < cell content p → 0 < nonzero
some_nonzero content p nonzero has more = elim (cases_eq nonzero 0) [
  | inl none ↦
      let here = has.each p in
      let same : min 1 (cell has.one_less p) ≡ min 1 (cell content p - 1) = ap (min 1) here in
      absurd (omega (arith, score-with_cell has.one_less p 0, same, has.counted, none, more))
  | inr some ↦ omega (arith, some)
]

no_nonzero : (content : Content) (p : ℤ) → HasNonzero content 0 → cell content p ≤ 1
no_nonzero content p has = elim (cases_eq (min 1 (cell content p - 1)) 0) [
  | inl e ↦ omega (arith, e)
  | inr some ↦ absurd (omega (arith, some_nonzero content p 0 has (omega (arith, some))))
]

-- where the start matches

shown_blank : (c symbol : ℕ) → c ≤ 1 → shown_symbol c ≡ Some symbol → 0 ≡ symbol
shown_blank zero symbol few e = absurd cc
shown_blank (suc c) symbol few e = let same : c ≡ symbol = cc in omega (arith, few, same)

pub start_matches : (content : Content) (position : ℤ) (state nonzero : ℕ) → HasNonzero content nonzero
    → state ≡ 0 → nonzero ≡ 0 → Matches (shown_node content position state) start
start_matches content position state nonzero has in_a none = record {
  same_state = ap State (sym in_a);
  same_cells = λ d symbol e.
      let few = no_nonzero content (position +ℤ d) (subst (HasNonzero content) none has) in
      cell-blank (pos 0 +ℤ d) ∙ shown_blank (cell content (position +ℤ d)) symbol few e;
}

few_known : (c : ℕ) → ((s : ℕ) → c ≡ suc s → 0 ≡ s) → c - 1 ≡ 0
few_known zero only = omega arith
few_known (suc c) only = let e = only c refl in omega (arith, e)

all_zero : (content one_less : Content) (position : ℤ) (state : ℕ) → ((p : ℤ) → cell one_less p
    ≡ cell content p - 1) → Matches (shown_node content position state) start → (p : ℤ) → cell one_less p
    ≡ cell blank p
all_zero content one_less position state each matches p =
    let d = p +ℤ neg_ℤ position in
    let there : position +ℤ d ≡ p = omega (arith, ints) in
    let few : cell content (position +ℤ d) - 1 ≡ 0 = few_known (cell content (position +ℤ d)) (λ s e. sym
    (cell-blank (pos 0 +ℤ d)) ∙ matches.same_cells d s (ap shown_symbol e)) in
    each p ∙ ap (λ q. cell content q - 1) (sym there) ∙ few ∙ sym (cell-blank p)

pub matched_none : (content : Content) (position : ℤ) (state nonzero : ℕ) → HasNonzero content nonzero
    → Matches (shown_node content position state) start → nonzero ≡ 0
matched_none content position state nonzero has matches =
    has.counted ∙ ap score (same_content has.one_less blank
    (all_zero content has.one_less position state has.each matches)) ∙ score-blank

pub matched_in_a : (content : Content) (position : ℤ) (state : ℕ) → Matches
    (shown_node content position state) start → state ≡ 0
matched_in_a content position state matches = let e = matches.same_state in cc
