-- The trees of the halting entries, one after another.
use Rattle.std.proofs.Common.{◌≡◌, ℕ, ◌+◌, ◌<◌, ◌≤◌, true, false, List, [], ◌∷◌, length, get_or}
use Rattle.std.proofs.Common.{map, slice_range, pos, ap, sym, subst, ◌∙◌, arith}
use Rattle.std.proofs.lemmas.Int.{ints}
use Rattle.bb_machine.specs.declared.entry.Dir.{Dir}
use Rattle.bb_machine.specs.declared.entry.Dir.TheVariants.{L, R}
use Rattle.bb_machine.specs.declared.entry.Next.TheVariants.{Halt}
use Rattle.bb_machine.specs.declared.machine.TheConstants.{MAX_STATES}
use Rattle.bb_machine.specs.Machine.{IsMachine, Table}
use Rattle.bb_tape.specs.Content.{Content, blank}
use Rattle.bb_tape.proofs.Facts.{cell-blank}
use Rattle.bb_tree.specs.declared.rules.Rule.{Rule}
use Rattle.bb_tree.specs.declared.traversal.Branch.{Branch}
use Rattle.bb_tree.specs.declared.traversal.Count.{Count}
use Rattle.bb_tree.specs.Tree.{halting_node, rules_to, EndsNowhere}
use Rattle.bb_tree.specs.inside.Walk.{AreEndless, AreInOrder, AreRules, IsBranch, IsRange, IsRule}
use Rattle.bb_tree.specs.inside.Walk.{IsWalked, branch_node}
use Rattle.bb_tree.specs.inside.Steps.{Explores, HasTable, IsWithin, WalksAll, states_of}
use Rattle.bb_tree.proofs.Walked.{walk_begins, walk_ends}
use Rattle.bb_tree.proofs.Orders.{alike_mapped, walk_rearranged}
use Rattle.bb_tree.proofs.Shown.{blank_nonzero, halting_shown, named_at, no_rule, slice_none}
use Rattle.bb_tree.proofs.Shown.{slice_step}

-- the branch of a halting rule
abbrev pub root_of : Rule → Branch
root_of rule =
    record {
      position = pos 0;
      state = rule.state;
      symbol = rule.symbol;
      dir = R;
      held = 0;
      nonzero_known = 0;
    }

-- a halting rule, which stands in the list that the code reads
pub record IsRoot (table : Table) (list seen : List Rule) (starts : Dir → List ℕ) (index to : ℕ)
    : Type 0 where
  pub rules : AreRules table list starts
  pub same : seen ≡ list
  pub less : index < to
  pub within : to ≤ length list

module _ {table : Table} {list seen : List Rule} {starts : Dir → List ℕ} {index to : ℕ}
    (root : IsRoot table list seen starts index to) where
  there : get_or seen index no_rule ≡ get_or list index no_rule
  there = ap (λ xs. get_or xs index no_rule) root.same

  in_list : index < length list
  in_list = let less = root.less in let within = root.within in omega (arith, less, within)

  pub rule_within : index < length seen
  rule_within = subst (λ xs. index < length xs) (sym root.same) in_list

  pub root_is : IsBranch (states_of starts) blank 0 (root_of (get_or seen index no_rule))
  root_is =
      let is : IsRule (length table) (get_or seen index no_rule) = rw there
      (named_at (length table) list root.rules.named index no_rule in_list) in
      record {
        not_below = omega (arith, ints);
        not_above = omega (arith, ints);
        state = let s = is.state in let n = (root.rules.in_order L).count in omega (arith, s, n);
        symbol = is.symbol;
        held = sym (cell-blank (pos 0));
        nonzero_known = blank_nonzero;
        few_nonzero = omega arith;
        span = record {
          lowest = pos 1;
          highest = pos 0;
          below = λ p less. cell-blank p;
          above = λ p more. cell-blank p;
          known = λ p from to none. omega (arith, ints, from, to);
          reaches_from = omega (arith, ints);
          reaches_to = omega (arith, ints);
        };
      }

  pub roots_first : map halting_node (slice_range list index to) ≡ branch_node blank (root_of
      (get_or seen index no_rule)) ∷ map halting_node (slice_range list (index + 1) to)
  roots_first =
      ap (map halting_node) (slice_step list index to no_rule root.less in_list)
      ∙ ap (λ n. n ∷ map halting_node (slice_range list (index + 1) to)) (halting_shown
      (get_or list index no_rule) (pos 0) ∙ ap (λ r. branch_node blank (root_of r)) (sym there))

  pub root_explored : (old new most : Count) (sets : Dir → ℕ) {content : Content}
      → Explores list starts sets (root_of
      (get_or seen index no_rule)) most old new content true → IsWalked table (map halting_node
      (slice_range list index to) ∷ []) old.nodes old.levels → IsWalked table (map halting_node
      (slice_range list (index + 1) to) ∷ []) new.nodes new.levels
  root_explored old new most sets explores walked =
      explores.1 table (map halting_node (slice_range list (index + 1) to)) root.rules
      (rw roots_first at walked)

  pub root_stops : (old new most : Count) {sets : Dir → ℕ} (content : Content) → AreEndless table sets
      → Explores list starts sets (root_of
      (get_or seen index no_rule)) most old new content false → IsWalked table (map halting_node
      (slice_range list index to) ∷ []) old.nodes old.levels → EndsNowhere table most.levels most.nodes
  root_stops old new most content are explores walked =
      explores table (map halting_node (slice_range list (index + 1) to)) root.rules are
      (rw roots_first at walked)

pub roots_begin : {table : Table} {list : List Rule} {from to nodes levels : ℕ}
    → IsRange table list from to Halt → nodes ≡ 0 → levels ≡ 0
    → IsWalked table (map halting_node (slice_range list from to) ∷ []) nodes levels
roots_begin {table} {list} {from} {to} range none no_levels = rw (none, no_levels)
    (walk_rearranged
    (alike_mapped table halting_node (rules_to table Halt) (slice_range list from to) range.are)
    (walk_begins table))

pub roots_end : (table : Table) (list : List Rule) (index to : ℕ) (most entered : Count) → to ≤ index
    → IsWalked table (map halting_node (slice_range list index to) ∷ []) entered.nodes entered.levels
    → WalksAll table most entered true
roots_end table list index to most entered past walked =
    walk_ends (rw (slice_none list index to past) at walked)

pub no_more : (most entered : Count) → entered.nodes ≡ 0 → entered.levels ≡ 0 → IsWithin most entered
no_more most entered none no_levels = omega arith

-- where the halting rules end, as the code reads it
pub end_at : {seen starts : List ℕ} {states n : ℕ} → seen ≡ starts → states ≡ n
    → get_or seen (states + 1) 0 ≡ get_or starts (n + 1) 0
end_at {starts = starts} {states} same e =
    ap (λ xs. get_or xs (states + 1) 0) same ∙ ap (λ k. get_or starts (k + 1) 0) e

pub before_end : {index read to : ℕ} → read ≡ to → index < read → index < to
before_end e h = omega (arith, e, h)

pub past_end : {index read to : ℕ} → read ≡ to → read ≤ index → to ≤ index
past_end e h = omega (arith, e, h)

-- the places of all starts are in their list
pub start_within : {table : Table} {list : List Rule} {starts : List ℕ} {state : ℕ}
    → AreInOrder table list starts → state ≡ length table → state + 1 < length starts
start_within order e = let n = order.count in omega (arith, n, e)

pub state_within : {list : List Rule} {starts : Dir → List ℕ} {state : ℕ} → HasTable list starts
    → (first : Dir) → state < states_of starts → state + 1 < length (starts first)
state_within known first h =
    omega (arith, (known.1.in_order L).count, (known.1.in_order first).count, h)

-- the rules of a machine are of no more states than a machine may have
pub few_states : {table : Table} {list : List Rule} {starts : Dir → List ℕ} → AreRules table list starts
    → IsMachine table → states_of starts ≤ MAX_STATES
few_states rules machine =
    let count = (rules.in_order L).count in let few = machine.states in omega (arith, count, few)

pub below_next : {state long : ℕ} → state + 1 < long → state < long
below_next h = omega (arith, h)
