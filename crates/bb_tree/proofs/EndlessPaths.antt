-- Nodes that have an endless path of predecessors by moves in one direction, and sets of states with one.
use Rattle.std.proofs.Common.{◌≡◌, ◌≢◌, ℕ, zero, suc, ◌+◌, ◌-◌, ◌*◌, ◌%◌, ◌^◌, ◌<◌, ◌⊎◌, inl, inr}
use Rattle.std.proofs.Common.{None, List, [], ℤ, pos, ◌+ℤ◌, refl, ap, subst, ◌∙◌}
use Rattle.std.proofs.Common.{bit_and, bit_or, arith}
use Rattle.std.specs.Int.{bit_at}
use Rattle.std.proofs.lemmas.Bool.{cases_eq, cases_lt}
use Rattle.std.proofs.lemmas.Int.{ints}
use Rattle.std.proofs.lemmas.Nat.{one_shl}
use Rattle.std.proofs.lemmas.Nat.Bits.{bit_at_and, bit_at_or, bit_at-lt, bit_at-zero, bit_at-pow_other}
use Rattle.bb_machine.specs.declared.entry.Dir.{Dir}
use Rattle.bb_machine.specs.declared.entry.Dir.TheVariants.{L, R}
use Rattle.bb_machine.specs.declared.entry.Next.{Next}
use Rattle.bb_machine.specs.declared.entry.Next.TheVariants.{State, Halt}
use Rattle.bb_machine.specs.declared.entry.Entry.{Entry}
use Rattle.bb_machine.specs.declared.entry.Entry.TheVariants.{Go}
use Rattle.bb_machine.specs.Machine.{Table}
use Rattle.bb_tree.specs.Tree.{Node, OneOf, EndsNowhere, before, before_by, before_by_entry, goes_to}
use Rattle.bb_tree.specs.Tree.{halting_node, left_cell, level, may_be, rules_to, seen_from}
use Rattle.bb_tree.specs.inside.Walk.{IsBehind, IsEndless, IsIn, IsOpen}
use Rattle.bb_tree.specs.inside.Walk.{MayHalt}
use Rattle.bb_tree.proofs.Levels.{known-other, stands_in}
use Rattle.bb_tree.proofs.OneOf.{one_more, one-flat_map, one-map}
use Rattle.bb_tree.proofs.RuleEntries.{one-table}
use Rattle.bb_tree.proofs.TreeEnds.{empty_levels_stay}

-- sets of states

pub in_either : (a b state : ℕ) → IsIn (bit_or a b) state → IsIn a state ⊎ IsIn b state
in_either a b state is = elim (cases_eq (bit_at a state) 1) [
  | inl here ↦ inl here
  | inr apart ↦
      let both = bit_at_or a b state in
      let less = bit_at-lt a state in
      let zero_a : bit_at a state ≡ 0 = omega (arith, less, apart) in
      inr (omega (arith, is, both, zero_a))
]

pub in_both : (a b state : ℕ) → IsIn (bit_and a b) state → IsIn b state
in_both a b state is =
    let both = bit_at_and a b state in
    let less = bit_at-lt b state in
    omega (arith, is, both, less)

pub in_one : (at state : ℕ) → at < 32 → IsIn (1 * 2 ^ at % 2 ^ 32) state → state ≡ at
in_one at state less is = elim (cases_eq state at) [
  | inl same ↦ same
  | inr apart ↦
      let none : bit_at (1 * 2 ^ at % 2 ^ 32) state ≡ 0 =
      ap (λ n. bit_at n state) (one_shl at 32 less) ∙ bit_at-pow_other at state apart in
      absurd (omega (arith, is, none))
]

pub in_none : (state : ℕ) → IsIn 0 state → ⊥
in_none state is = let none = bit_at-zero state in omega (arith, is, none)

pub same_go : (write : ℕ) {to dir : Dir} {next : Next} {q state : ℕ} → to ≡ dir → next ≡ State q → state ≡ q
    → Go write to next ≡ Go write dir (State state)
same_go write a b c = rw (a, b, c) refl

-- nodes

-- the cell left by a move is behind the head that made it, and what is behind that cell is behind the head
behind_left : (dir : Dir) → IsBehind dir (left_cell dir)
behind_left L = omega (arith, ints)
behind_left R = omega (arith, ints)

behind_further : (dir : Dir) (x : ℤ) → IsBehind dir x → IsBehind dir (x +ℤ left_cell dir)
behind_further L x behind = omega (arith, ints, behind)
behind_further R x behind = omega (arith, ints, behind)

behind_apart : (dir : Dir) (x : ℤ) → IsBehind dir x → x ≢ pos 0
behind_apart L x behind = λ same. omega (arith, ints, behind, same)
behind_apart R x behind = λ same. omega (arith, ints, behind, same)

module _ (sets : Dir → ℕ) (dir : Dir) where
  abbrev OneOpen : List Node → Type 0
  OneOpen nodes = OneOf (IsOpen sets dir) nodes

module _ {table : Table} (sets : Dir → ℕ) (dir : Dir) (endless : IsEndless table dir (sets dir)) where
  opens_by : (node : Node) → IsOpen sets dir node → (from symbol write : ℕ) (entry : Entry)
      → IsIn (sets dir) from → entry ≡ Go write dir (State node.state)
      → OneOpen sets dir (before_by_entry node from symbol entry)
  opens_by node is from symbol write entry is_in e =
      let any = ap (λ known. may_be known write) (is.unknown (left_cell dir) (behind_left dir)) in
      rw (e, any) (inl (record {
        state = is_in;
        unknown = λ x behind. known-other (seen_from (left_cell dir) node.known) (pos 0) symbol x
            (behind_apart dir x behind) ∙ is.unknown (x +ℤ left_cell dir) (behind_further dir x behind);
      }))

  opens_before : (node : Node) → IsOpen sets dir node → OneOpen sets dir (before table node)
  opens_before node is =
      let entered = endless node.state is.state in
      let entry = entered.enters.entry in
      (one-flat_map (IsOpen sets dir) (before_by node) (rules_to table (State node.state))).1
      (one-table (λ r. OneOpen sets dir (before_by node r)) table (State node.state) (record {
        state = entered.from;
        symbol = entered.enters.symbol;
        within = stands_in table entered.from entered.enters.symbol entered.enters.write dir _ entry;
        leads = ap goes_to entry;
        holds = opens_by node is entered.from entered.enters.symbol entered.enters.write _ entered.is_in
            entry;
      }))

  opens_levels : (i d : ℕ) → OneOpen sets dir (level table i) → OneOpen sets dir (level table (d + i))
  opens_levels i zero one =
      let n : i ≡ 0 + i = omega arith in
      subst (λ j. OneOpen sets dir (level table j)) n one
  opens_levels i (suc d) one =
      let n : suc (d + i) ≡ suc d + i = omega arith in
      subst (λ j. OneOpen sets dir (level table j)) n
      ((one-flat_map (IsOpen sets dir) (before table) (level table (d + i))).1
      (one_more (IsOpen sets dir) (λ node. OneOpen sets dir (before table node)) opens_before
      (level table (d + i)) (opens_levels i d one)))

  -- with such a node on a level no level is empty
  pub never_empty : (i h : ℕ) → OneOpen sets dir (level table i) → level table h ≢ []
  never_empty i h one none = elim (cases_lt i h) [
    | inl less ↦
        let n : (h - i) + i ≡ h = omega (arith, less) in
        let later = opens_levels i (h - i) one in
        subst (OneOpen sets dir) none (subst (λ j. OneOpen sets dir (level table j)) n later)
    | inr more ↦ subst (OneOpen sets dir) (empty_levels_stay table h i more none) one
  ]

  -- no node of a halting entry knows another cell
  pub root_endless : (state : ℕ) → IsIn (sets dir) state → MayHalt table state
      → (levels nodes : ℕ) → EndsNowhere table levels nodes
  root_endless state is_in halts levels nodes =
      let one = (one-map (IsOpen sets dir) halting_node (rules_to table Halt)).1
      (one-table (λ r. IsOpen sets dir (halting_node r)) table Halt (record {
        state = state;
        symbol = halts.symbol;
        within = halts.within;
        leads = halts.halts;
        holds = record {
          state = is_in;
          unknown = λ x behind. known-other (λ distance. None) (pos 0) halts.symbol x
              (behind_apart dir x behind);
        };
      })) in
      record { nowhere = λ h k tree. never_empty 0 h one tree.ends.is_empty }
