-- The cells of which an ordered map's entries tell.
use Rattle.std.proofs.Common.{arith, refl, ◌≡◌, ℕ, suc, ◌+◌, ℤ, List, [], ◌∷◌, length, Bool, true, false}
use Rattle.std.proofs.Common.{cond, Option, Some, None, is_some, sym, ◌∙◌, ap}
use Rattle.std.specs.Ordering.{int_cmp, int_eq}
use Rattle.std.specs.Cmp.{int_cmp_total, int_eq_equiv}
use Rattle.std.specs.Map.{keys_of, lookup, update_all}
use Rattle.std.specs.BTreeMap.{BTreeMap, is_at, IsOrdered, InsertsAll}
use Rattle.std.specs.List.Sorted.{IsStrictlySortedBy}
use Rattle.std.specs.FinMap.{get, find, from_entries, get-from_entries, len-empty, len-insert}
use Rattle.std.proofs.lemmas.Map.{lookup-none}
use Rattle.std.proofs.lemmas.Map.Entries.{none_past_head}
use Rattle.std.proofs.lemmas.Map.Lookups.{btree_map_from_get, exact_signed}
use Rattle.std.proofs.lemmas.Map.Made.{update_all_none}
use Rattle.std.proofs.lemmas.Map.Keys.{IsDistinct-from_sorted, sorted_tail}
use Rattle.bb_tape.specs.Content.{symbol_of, blank, cell, with_cell, score}
use Rattle.bb_tape.specs.Entries.{content_of}
use Rattle.bb_tape.proofs.Content.{cell-with_cell, same_content}

-- what the map has at a position
abbrev pub entry_at : List (ℤ × ℕ) → ℤ → Option ℕ
entry_at es p = lookup (is_at (int_cmp p)) es

find_entry : (es : List (ℤ × ℕ)) (p : ℤ) → find int_cmp p es ≡ entry_at es p
find_entry [] p = refl
find_entry (e ∷ es) p = ap (cond (is_at (int_cmp p) e.0) (Some e.1)) (find_entry es p)

get-content_of : (es : List (ℤ × ℕ)) (p : ℤ) → get (content_of es) p ≡ entry_at es p
unfolding content_of
get-content_of es p = get-from_entries int_cmp_total es p ∙ find_entry es p

pub cell-content_of : (es : List (ℤ × ℕ)) (p : ℤ) → cell (content_of es) p ≡ symbol_of (entry_at es p)
unfolding cell
cell-content_of es p = ap symbol_of (get-content_of es p)

pub content_of-empty : (es : List (ℤ × ℕ)) → es ≡ [] → content_of es ≡ blank
unfolding content_of blank
content_of-empty es e = ap from_entries e

chosen : (b : Bool) (o w : Option ℕ) → symbol_of (cond b o w) ≡ cond b (symbol_of o) (symbol_of w)
chosen true o w = refl
chosen false o w = refl

-- what is read at a position
pub cell_read : (es : List (ℤ × ℕ)) (p p' : ℤ) (o : Option ℕ) → p' ≡ p → o ≡ entry_at es p'
    → symbol_of o ≡ cell (content_of es) p
cell_read es p p' o same e = ap symbol_of (e ∙ ap (entry_at es) same) ∙ sym (cell-content_of es p)

-- entries that differ at one position make tapes that differ there
pub content_of-updated : (es fs : List (ℤ × ℕ)) (p p' : ℤ) (o : Option ℕ) → p' ≡ p
    → ((q : ℤ) → entry_at fs q ≡ cond (is_at (int_cmp p') q) o (entry_at es q))
    → content_of fs ≡ with_cell (content_of es) p (symbol_of o)
content_of-updated es fs p p' o same is = same_content _ _ (λ q.
    cell-content_of fs q ∙ ap symbol_of (is q)
    ∙ ap (λ x. symbol_of (cond (is_at (int_cmp x) q) o (entry_at es q))) same ∙ chosen _ _ _
    ∙ ap (λ b. cond b (symbol_of o) (symbol_of (entry_at es q))) (int_eq_equiv.symm p q)
    ∙ sym (cell-with_cell (content_of es) p (symbol_of o) q
    ∙ ap (cond (int_eq q p) (symbol_of o)) (cell-content_of es q)))

-- the same cells, the same entry at each position
pub entry_at-same : (es fs : List (ℤ × ℕ)) → content_of es ≡ content_of fs → (p : ℤ)
    → entry_at es p ≡ entry_at fs p
entry_at-same es fs e p = sym (get-content_of es p) ∙ ap (λ c. get c p) e ∙ get-content_of fs p

new_key : (e : ℤ × ℕ) (es : List (ℤ × ℕ)) → IsStrictlySortedBy int_cmp (keys_of (e ∷ es))
    → entry_at es e.0 ≡ None
new_key e es s =
    lookup-none (is_at (int_cmp e.0)) es
    (none_past_head int_eq_equiv e.0 e es (IsDistinct-from_sorted int_cmp _ s) (int_eq_equiv.refl e.0))

added : (o : Option ℕ) (n m : ℕ) → o ≡ None → m ≡ cond (is_some o) n (n + 1) → m ≡ suc n
added None n m e is = omega arith
added (Some k) n m e is = cc

-- as many cells aren't 0 as there are entries
pub score-content_of : (es : List (ℤ × ℕ)) → IsStrictlySortedBy int_cmp (keys_of es)
    → score (content_of es) ≡ length es
unfolding score content_of
score-content_of [] s = len-empty int_cmp ℕ
score-content_of (e ∷ es) s =
    added _ _ _ (get-content_of es e.0 ∙ new_key e es s) (len-insert int_cmp_total (from_entries es) e.0 e.1)
    ∙ ap suc (score-content_of es (sorted_tail int_cmp _ _ s))

-- what a map is into which the entries of another were put in turn, where it had none
pub copied_entries : (to from copy : BTreeMap ℤ ℕ) (es : List (ℤ × ℕ)) → to.entries ≡ []
    → IsOrdered int_cmp from → es ≡ from.entries → InsertsAll int_cmp to es copy → copy.entries ≡ from.entries
copied_entries to from copy es none ordered all put =
    btree_map_from_get int_cmp_total copy from put.1 ordered (λ q.
    put.0 q
    ∙ ap (λ (fs : List (ℤ × ℕ)). update_all int_eq (λ k. entry_at fs k) es q) none
    ∙ ap (λ (fs : List (ℤ × ℕ)). update_all int_eq (λ _. None) fs q) all
    ∙ update_all_none int_eq_equiv int_eq (λ _ _. refl) from.entries q
    (IsDistinct-from_sorted int_cmp _ ordered)) exact_signed

-- two maps make the same tape exactly if their entries are the same
pub same_entries : (m n : BTreeMap ℤ ℕ) → IsOrdered int_cmp m → IsOrdered int_cmp n
    → content_of m.entries ≡ content_of n.entries → m.entries ≡ n.entries
same_entries m n s t e =
    btree_map_from_get int_cmp_total m n s t (entry_at-same m.entries n.entries e) exact_signed
