-- What could come before a halt. Backward reasoning is bbchallenge's; this profile of it is this project's
-- own.
use Rattle.std.specs.Prelude.{◌≡◌, ◌≢◌, ℕ, zero, suc, ◌+◌, ◌<◌, ◌≤◌, ◌⊎◌, Bool, true, false, cond, nat_eq}
use Rattle.std.specs.Prelude.{Option, Some, None, List, [], ◌∷◌, ◌++◌, length, map, slice_index_or, ℤ, pos}
use Rattle.std.specs.Prelude.{neg_ℤ, ◌+ℤ◌}
use Rattle.std.specs.List.{filter, flat_map}
use Rattle.std.specs.Ordering.{int_eq}
use Rattle.bb_machine.specs.declared.entry.Dir.{Dir}
use Rattle.bb_machine.specs.declared.entry.Next.{Next}
use Rattle.bb_machine.specs.declared.entry.Next.TheVariants.{State, Halt}
use Rattle.bb_machine.specs.declared.entry.Entry.{Entry}
use Rattle.bb_machine.specs.declared.entry.Entry.TheVariants.{Undefined, Go}
use Rattle.bb_machine.specs.Limits.{Bounds}
use Rattle.bb_machine.specs.Machine.{Table, entry_of}
use Rattle.bb_tape.specs.Content.{cell}
use Rattle.bb_sim.specs.Configuration.{Configuration, start, beside}
use Rattle.bb_sim.specs.Run.{after}
use Rattle.bb_tree.specs.declared.rules.Rule.{Rule}

-- a state, and the symbols that are known at some distances from the head: to the right, and negative ones to
-- the left
pub record Node : Type 0 where
  pub state : ℕ
  pub known : ℤ → Option ℕ

-- the configuration has the node's state, and each known cell has its symbol
pub record Matches (node : Node) (c : Configuration) : Type 0 where
  pub same_state : c.state ≡ State node.state
  pub same_cells : (distance : ℤ) (symbol : ℕ) → node.known distance ≡ Some symbol
      → cell c.tape (c.head +ℤ distance) ≡ symbol

-- P holds of one of the elements
abbrev pub OneOf : {X : Type 0} → (X → Type 0) → List X → Type 0
OneOf P [] = ⊥
OneOf P (x ∷ xs) = P x ⊎ OneOf P xs

-- the configuration matches one of the nodes
abbrev pub MatchesOne : List Node → Configuration → Type 0
MatchesOne nodes c = OneOf (λ node. Matches node c) nodes

-- the rules of a state from a symbol on: each entry, with the state and the symbol for which it stands
abbrev pub rules_in : ℕ → ℕ → List Entry → List Rule
rules_in state symbol [] = []
rules_in state symbol (entry ∷ entries) =
    record { state = state; symbol = symbol; entry = entry } ∷ rules_in state (symbol + 1) entries

-- the rules of the groups from a state on
abbrev pub rules_from : ℕ → Table → List Rule
rules_from state [] = []
rules_from state (group ∷ groups) = rules_in state 0 group ++ rules_from (state + 1) groups

-- where an entry leads: to a state; an undefined one halts, as one to Z does
abbrev pub goes_to : Entry → Next
goes_to Undefined = Halt
goes_to (Go write dir next) = next

abbrev pub is_same : Next → Next → Bool
is_same (State p) (State q) = nat_eq p q
is_same (State p) Halt = false
is_same Halt (State q) = false
is_same Halt Halt = true

abbrev pub leads_to : Next → Rule → Bool
leads_to next rule = is_same (goes_to rule.entry) next

-- the rules that lead to a state, or those that halt, in the table's order
abbrev pub rules_to : Table → Next → List Rule
rules_to table next = filter (leads_to next) (rules_from 0 table)

-- with this symbol known at a distance
abbrev pub with_known : (ℤ → Option ℕ) → ℤ → ℕ → ℤ → Option ℕ
with_known known distance symbol x = cond (int_eq x distance) (Some symbol) (known x)

-- the node of a halting rule: its state, its symbol at the head
abbrev pub halting_node : Rule → Node
halting_node rule = record { state = rule.state; known = with_known (λ distance. None) (pos 0) rule.symbol }

-- the distance of the cell that the head left, after a move
abbrev pub left_cell : Dir → ℤ
left_cell dir = neg_ℤ (beside dir (pos 0))

-- a cell may have been written with this symbol: it is known as that, or not known
abbrev pub may_be : Option ℕ → ℕ → Bool
may_be None symbol = true
may_be (Some known) symbol = nat_eq known symbol

-- the node as the cell at a distance sees it
abbrev pub seen_from : ℤ → (ℤ → Option ℕ) → ℤ → Option ℕ
seen_from distance known x = known (x +ℤ distance)

-- the predecessor of a node by an entry into its state: none if the cell left by the head is known to have
-- another symbol than the one written; else the node as seen from that cell, with the rule's symbol there
abbrev pub before_by_entry : Node → ℕ → ℕ → Entry → List Node
before_by_entry node state symbol Undefined = []
before_by_entry node state symbol (Go write dir next) = cond (may_be (node.known (left_cell dir)) write)
    (record {
      state = state;
      known = with_known (seen_from (left_cell dir) node.known) (pos 0) symbol;
    } ∷ []) []

abbrev pub before_by : Node → Rule → List Node
before_by node rule = before_by_entry node rule.state rule.symbol rule.entry

-- all that could come before a node
abbrev pub before : Table → Node → List Node
before table node = flat_map (before_by node) (rules_to table (State node.state))

-- what could come so many steps before nodes, each as often as there are ways to it
abbrev pub grown : Table → List Node → ℕ → List Node
grown table nodes zero = nodes
grown table nodes (suc i) = flat_map (before table) (grown table nodes i)

-- level 0 has a node for each halting entry, level i + 1 what could come before the nodes of level i
abbrev pub level : Table → ℕ → List Node
level table i = grown table (map halting_node (rules_to table Halt)) i

-- how many nodes there are less than so many steps before these ones
abbrev pub grown_below : Table → List Node → ℕ → ℕ
grown_below table nodes zero = 0
grown_below table nodes (suc h) = grown_below table nodes h + length (grown table nodes h)

-- how many nodes the levels below h have
abbrev pub nodes_below : Table → ℕ → ℕ
nodes_below table h = grown_below table (map halting_node (rules_to table Halt)) h

-- the tree ends in h levels with k nodes: level h is the first empty one
pub record Ends (table : Table) (h k : ℕ) : Type 0 where
  pub is_empty : level table h ≡ []
  pub is_first : (i : ℕ) → i < h → level table i ≢ []
  pub counted : k ≡ nodes_below table h

-- the start matches no node of the levels below h
pub record Clear (table : Table) (h : ℕ) : Type 0 where
  pub clear : (i : ℕ) → i < h → MatchesOne (level table i) start → ⊥

-- the tree ends in h levels with k nodes, no more than so many, and the start matches no node of it
pub record EndsWithin (table : Table) (levels nodes h k : ℕ) : Type 0 where
  pub ends : Ends table h k
  pub clear : Clear table h
  pub within_levels : h ≤ levels
  pub within_nodes : k ≤ nodes

-- the same within bounds
abbrev pub Back : Table → Bounds → ℕ → ℕ → Type 0
Back table bounds h k = EndsWithin table bounds.depth bounds.nodes h k

-- no tree that ends has no more than so many levels and nodes, and no node that the start matches
pub record EndsNowhere (table : Table) (levels nodes : ℕ) : Type 0 where
  pub nowhere : (h k : ℕ) → EndsWithin table levels nodes h k → ⊥

-- the table has an entry for the state and the symbol under the head, and it halts
pub record IsAtHaltingEntry (table : Table) (c : Configuration) : Type 0 where
  pub state : ℕ
  pub in_state : c.state ≡ State state
  pub in_table : cell c.tape c.head < length (slice_index_or table state [])
  pub halts : goes_to (entry_of table state (cell c.tape c.head)) ≡ Halt

-- so many steps after c there is a configuration, and it is at a halting entry
pub record HaltsNextAfter (table : Table) (c : Configuration) (i : ℕ) : Type 0 where
  pub then_here : Configuration
  pub exists : after table c i ≡ Some then_here
  pub at_halt : IsAtHaltingEntry table then_here
