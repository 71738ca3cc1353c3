-- How a walk in depth holds the nodes of the tree. No public contract speaks of it.
use Rattle.std.specs.Prelude.{◌≡◌, ◌≢◌, ℕ, zero, suc, ◌+◌, ◌-◌, ◌*◌, ◌<◌, ◌≤◌, ◌⊎◌, Option, Some, None, List}
use Rattle.std.specs.Prelude.{[], ◌∷◌, ◌++◌, length, slice_index, slice_range, ℤ, pos, neg_ℤ, ◌+ℤ◌, ◌≤ℤ◌}
use Rattle.std.specs.Prelude.{slice_index_or, ◌-ℤ◌, ◌<ℤ◌}
use Rattle.std.specs.Int.{bit_at}
use Rattle.std.specs.List.{flat_map, AllByRecursion}
use Rattle.std.specs.List.Sorted.{IsPermutation}
use Rattle.bb_machine.specs.declared.entry.Dir.{Dir}
use Rattle.bb_machine.specs.declared.entry.Dir.TheVariants.{L, R}
use Rattle.bb_machine.specs.declared.entry.Next.{Next}
use Rattle.bb_machine.specs.declared.entry.Next.TheVariants.{State, Halt}
use Rattle.bb_machine.specs.declared.machine.TheConstants.{MAX_STATES, MAX_SYMBOLS}
use Rattle.bb_machine.specs.declared.entry.Entry.TheVariants.{Go}
use Rattle.bb_machine.specs.Entry.{IsEntryOf}
use Rattle.bb_machine.specs.Machine.{Table, entry_of}
use Rattle.bb_tape.specs.Content.{Content, blank, cell, with_cell, score}
use Rattle.bb_tape.specs.TapeView.{TapeView}
use Rattle.bb_sim.specs.Configuration.{start}
use Rattle.bb_tree.specs.declared.endless.Endless.{Endless}
use Rattle.bb_tree.specs.declared.path.Frame.{Frame}
use Rattle.bb_tree.specs.declared.rules.Rule.{Rule}
use Rattle.bb_tree.specs.declared.rules.Rules.{Rules}
use Rattle.bb_tree.specs.declared.traversal.Branch.{Branch}
use Rattle.bb_tree.specs.Tree.{Node, Matches, MatchesOne, OneOf, before_by, grown, level, grown_below}
use Rattle.bb_tree.specs.Tree.{nodes_below}
use Rattle.bb_tree.specs.Tree.{goes_to, left_cell, rules_to}

-- a tape shows the symbol r as r + 1, and an unknown cell as 0
abbrev pub shown_symbol : ℕ → Option ℕ
shown_symbol zero = None
shown_symbol (suc symbol) = Some symbol

-- what a tape shows at distances from a position
abbrev pub shown : Content → ℤ → ℤ → Option ℕ
shown content position distance = shown_symbol (cell content (position +ℤ distance))

-- the node of this state that a tape shows from a position
abbrev pub shown_node : Content → ℤ → ℕ → Node
shown_node content position state = record { state = state; known = shown content position }

-- of the cells that a tape shows, so many are known to be other than 0
pub record HasNonzero (content : Content) (nonzero_known : ℕ) : Type 0 where
  pub one_less : Content
  pub each : (p : ℤ) → cell one_less p ≡ cell content p - 1
  pub counted : nonzero_known ≡ score one_less

-- what could come before a frame's node by the rules that are still to be tried
abbrev pub branches : List Rule → Content → Frame → List Node
branches rules content f =
    flat_map (before_by (shown_node content f.position f.state)) (slice_range rules f.next f.end)

-- The nodes that are still to be entered: before each frame's node, the deepest frame first, with the tape as
-- it was when that node was entered last; and then the halting nodes. Those before a list are a level
-- further.
abbrev pub comb_of : List Rule → List Node → Content → List Frame → List (List Node)
comb_of rules roots content [] = roots ∷ []
comb_of rules roots content (f ∷ fs) =
    branches rules content f ∷ comb_of rules roots (with_cell content f.position f.before) fs

-- how many nodes of the levels below h there are in the trees that these nodes begin
abbrev pub comb_below : Table → List (List Node) → ℕ → ℕ
comb_below table [] h = 0
comb_below table (nodes ∷ comb) h = grown_below table nodes (h - length comb) + comb_below table comb h

-- the start matches a node of level i in the trees that these nodes begin
abbrev pub CombMatches : Table → List (List Node) → ℕ → Type 0
CombMatches table [] i = ⊥
CombMatches table (nodes ∷ comb) i =
    ((length comb ≤ i) × MatchesOne (grown table nodes (i - length comb)) start) ⊎ CombMatches table comb i

-- each node of a list stands in another
abbrev pub IsPart : List Node → List Node → Type 0
IsPart part whole = (node : Node) → OneOf (λ other. other ≡ node) part → OneOf (λ other. other ≡ node) whole

-- each list is a part of its level
abbrev pub AreParts : Table → List (List Node) → Type 0
AreParts table [] = Unit {0}
AreParts table (nodes ∷ comb) = IsPart nodes (level table (length comb)) × AreParts table comb

-- a walk entered so many nodes, the deepest on level `levels` - 1, none of which the start matches, and these
-- are still to be entered
pub record IsWalked (table : Table) (comb : List (List Node)) (nodes levels : ℕ) : Type 0 where
  pub counted : (h : ℕ) → levels ≤ h → nodes_below table h ≡ nodes + comb_below table comb h
  pub reached : (i : ℕ) → i < levels → level table i ≢ []
  pub parts : AreParts table comb
  pub matches : (i : ℕ) → MatchesOne (level table i) start → CombMatches table comb i

-- the known cells are those from a lowest to a highest position, and reach at least so far
pub record HasSpan (content : Content) (from to : ℤ) : Type 0 where
  pub lowest : ℤ
  pub highest : ℤ
  pub below : (p : ℤ) → p <ℤ lowest → cell content p ≡ 0
  pub above : (p : ℤ) → highest <ℤ p → cell content p ≡ 0
  pub known : (p : ℤ) → lowest ≤ℤ p → p ≤ℤ highest → cell content p ≢ 0
  pub reaches_from : lowest ≤ℤ from
  pub reaches_to : to ≤ℤ highest

-- a frame of a node on a level, whose node the tape shows
pub record IsFrame (rules : List Rule) (low high : ℤ) (content : Content) (level : ℕ) (f : Frame)
    : Type 0 where
  pub not_below : neg_ℤ (pos level) ≤ℤ f.position
  pub not_above : f.position ≤ℤ pos level
  pub from_low : low ≤ℤ f.position
  pub to_high : f.position ≤ℤ high
  pub symbol : f.before ≤ 10
  pub in_order : f.next ≤ f.end
  pub in_rules : f.end ≤ length rules
  pub nonzero_known : HasNonzero content f.nonzero_known
  pub few_nonzero : f.nonzero_known ≤ level + 1
  pub span : HasSpan content f.position f.position

-- the frames of the nodes on the way to one, the deepest first; when all are left the tape is blank
abbrev pub AreFrames : List Rule → ℤ → ℤ → Content → List Frame → Type 0
AreFrames rules low high content [] = content ≡ blank
AreFrames rules low high content (f ∷ fs) = IsFrame rules low high content (length fs) f
    × AreFrames rules low high (with_cell content f.position f.before) fs

-- a rule of a machine of so many states
pub record IsRule (states : ℕ) (rule : Rule) : Type 0 where
  pub state : rule.state < states
  pub symbol : rule.symbol < MAX_SYMBOLS
  pub entry : IsEntryOf states MAX_SYMBOLS rule.entry

-- between two places of a list stand the rules that lead to a state, or those that halt
pub record IsRange (table : Table) (list : List Rule) (from to : ℕ) (next : Next) : Type 0 where
  pub in_order : from ≤ to
  pub within : to ≤ length list
  pub are : IsPermutation (rules_to table next) (slice_range list from to)

-- the rules of a table, ordered by where they lead, and where those of each state begin, and the halting ones
pub record AreInOrder (table : Table) (list : List Rule) (starts : List ℕ) : Type 0 where
  pub count : length starts ≡ length table + 2
  pub to_state : (state : ℕ) → state < length table
      → IsRange table list (slice_index starts state) (slice_index starts (state + 1)) (State state)
  pub halting :
      IsRange table list (slice_index starts (length table)) (slice_index starts (length table + 1)) Halt

-- so they are once for each direction
pub record AreRules (table : Table) (list : List Rule) (starts : Dir → List ℕ) : Type 0 where
  pub named : AllByRecursion (IsRule (length table)) list
  pub in_order : (first : Dir) → AreInOrder table list (starts first)

-- where the rules begin whose first ones move in a direction
abbrev pub starts_of : Rules → Dir → List ℕ
starts_of rules L = rules.left_first.items
starts_of rules R = rules.right_first.items

-- a list was made longer by the elements of another, in any order
pub record AddsRules (rules old new : List Rule) : Type 0 where
  pub added : List Rule
  pub is : new ≡ old ++ added
  pub are : IsPermutation rules added

-- a list was made longer by the rules of a table, ordered by where they lead, whatever comes after them
pub record AddsAll (table : Table) (old new : List Rule) (starts : List ℕ) : Type 0 where
  pub added : List Rule
  pub is : new ≡ old ++ added
  pub few : length added ≤ MAX_STATES * MAX_SYMBOLS
  pub named : AllByRecursion (IsRule (length table)) added
  pub in_order : (more : List Rule) → AreInOrder table (new ++ more) starts

-- what could come before a node, as the tape shows that node, on a level
pub record IsBranch (states : ℕ) (content : Content) (level : ℕ) (branch : Branch) : Type 0 where
  pub not_below : neg_ℤ (pos level) ≤ℤ branch.position
  pub not_above : branch.position ≤ℤ pos level
  pub state : branch.state < states
  pub symbol : branch.symbol < MAX_SYMBOLS
  pub held : branch.held ≡ cell content branch.position
  pub nonzero_known : HasNonzero content branch.nonzero_known
  pub few_nonzero : branch.nonzero_known ≤ level
  pub span : HasSpan content (branch.position +ℤ pos 1) (branch.position -ℤ pos 1)

-- what a tape has when a branch is entered, and its node
abbrev pub content_in : Content → Branch → Content
content_in content branch = with_cell content branch.position (branch.symbol + 1)

abbrev pub branch_node : Content → Branch → Node
branch_node content branch = shown_node (content_in content branch) branch.position branch.state

-- the window keeps within so many levels of 0, and there is room for all of them
pub record HasRoom (view : TapeView) (levels : ℕ) : Type 0 where
  pub not_below : neg_ℤ (pos (levels - 1)) ≤ℤ view.low
  pub not_above : view.high ≤ℤ pos (levels - 1)
  pub limit : 2 * levels ≤ view.limit + 1

-- a state is in a set, a number with the bit of each of its states
abbrev pub IsIn : ℕ → ℕ → Type 0
IsIn set state = bit_at set state ≡ 1

-- an entry of a state moves in a direction and leads to another state
pub record IsEnteredFrom (table : Table) (dir : Dir) (from state : ℕ) : Type 0 where
  pub symbol : ℕ
  pub write : ℕ
  pub entry : entry_of table from symbol ≡ Go write dir (State state)

-- the same of a state in a set
pub record IsEntered (table : Table) (dir : Dir) (set state : ℕ) : Type 0 where
  pub from : ℕ
  pub is_in : IsIn set from
  pub enters : IsEnteredFrom table dir from state

-- each state of the set is entered from a state of the set, by a move in one direction
abbrev pub IsEndless : Table → Dir → ℕ → Type 0
IsEndless table dir set = (state : ℕ) → IsIn set state → IsEntered table dir set state

-- so it is with the set of each direction
abbrev pub AreEndless : Table → (Dir → ℕ) → Type 0
AreEndless table sets = (dir : Dir) → IsEndless table dir (sets dir)

abbrev pub endless_of : Endless → Dir → ℕ
endless_of endless L = endless.left
endless_of endless R = endless.right

-- an entry of the state halts
pub record MayHalt (table : Table) (state : ℕ) : Type 0 where
  pub symbol : ℕ
  pub within : symbol < length (slice_index_or table state [])
  pub halts : goes_to (entry_of table state symbol) ≡ Halt

-- a move in the direction comes from this side of the head
abbrev pub IsBehind : Dir → ℤ → Type 0
IsBehind L distance = pos 0 <ℤ distance
IsBehind R distance = distance <ℤ pos 0

-- the node's state is in the set of a direction, and no cell is known on the side such moves come from
pub record IsOpen (sets : Dir → ℕ) (dir : Dir) (node : Node) : Type 0 where
  pub state : IsIn (sets dir) node.state
  pub unknown : (distance : ℤ) → IsBehind dir distance → node.known distance ≡ None

-- a branch's state is in the set of a direction, and the cell that such a move would leave is unknown
abbrev pub IsAtEdge : (Dir → ℕ) → Content → Branch → Dir → Type 0
IsAtEdge sets content branch dir =
    IsIn (sets dir) branch.state × (cell content (branch.position +ℤ left_cell dir) ≡ 0)

-- why a walk doesn't go on with a node, with these endless sets
pub data Refused (sets : Dir → ℕ) (node : Node) (level nodes most_nodes most_levels : ℕ) : Type 0 where
  too_deep : most_levels ≤ level → Refused sets node level nodes most_nodes most_levels
  too_many : most_nodes ≤ nodes → Refused sets node level nodes most_nodes most_levels
  matched : Matches node start → Refused sets node level nodes most_nodes most_levels
  without_end : (dir : Dir) → IsOpen sets dir node → Refused sets node level nodes most_nodes most_levels
