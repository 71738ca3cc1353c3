-- Definitions for the steps of a walk. No public contract cites them.
use Rattle.std.specs.Prelude.{◌≡◌, ℕ, ◌+◌, ◌-◌, ◌<◌, ◌≤◌, max, Bool, true, false, List, [], ◌∷◌, length}
use Rattle.std.specs.Prelude.{slice_index, pos, ◌+ℤ◌, ◌≤ℤ◌}
use Rattle.std.specs.Int.{int_min, int_max}
use Rattle.bb_machine.specs.declared.entry.Dir.{Dir}
use Rattle.bb_machine.specs.declared.entry.Dir.TheVariants.{L}
use Rattle.bb_machine.specs.declared.machine.TheConstants.{MAX_SYMBOLS}
use Rattle.bb_machine.specs.Machine.{Table}
use Rattle.bb_tape.specs.Content.{Content, blank, cell}
use Rattle.bb_tape.specs.TapeView.{TapeView}
use Rattle.bb_sim.specs.Configuration.{start}
use Rattle.bb_tree.specs.declared.path.Frame.{Frame}
use Rattle.bb_tree.specs.declared.rules.Rule.{Rule}
use Rattle.bb_tree.specs.declared.traversal.Branch.{Branch}
use Rattle.bb_tree.specs.declared.traversal.Count.{Count}
use Rattle.bb_tree.specs.Tree.{Node, Matches, Ends, Clear, EndsNowhere}
use Rattle.bb_tree.specs.inside.Walk.{AreEndless, AreRules, HasNonzero, IsWalked, branch_node, branches}
use Rattle.bb_tree.specs.inside.Walk.{content_in}

-- of how many states the rules are
abbrev pub states_of : (Dir → List ℕ) → ℕ
states_of starts = length (starts L) - 2

-- the list and the starts are those of some table
abbrev pub HasTable : List Rule → (Dir → List ℕ) → Type 0
HasTable list starts = (table : Table) × AreRules table list starts

-- no more than these
pub record IsWithin (most entered : Count) : Type 0 where
  pub nodes : entered.nodes ≤ most.nodes
  pub levels : entered.levels ≤ most.levels

-- one node more, on a level
abbrev pub entered_on : ℕ → Count → Count
entered_on level entered = record { nodes = entered.nodes + 1; levels = max entered.levels (level + 1) }

-- a branch was entered: the tape has its node, not matched by the start, and the frame has the old content
pub record Enters (starts : Dir → List ℕ) (branch : Branch) (level : ℕ) (old new : TapeView) (frame : Frame)
    : Type 0 where
  pub content : new.content ≡ content_in old.content branch
  pub low : new.low ≡ int_min old.low branch.position
  pub high : new.high ≡ int_max old.high branch.position
  pub position : frame.position ≡ branch.position
  pub state : frame.state ≡ branch.state
  pub before : frame.before ≡ branch.held
  pub next : frame.next ≡ slice_index (starts branch.dir) branch.state
  pub to : frame.end ≡ slice_index (starts branch.dir) (branch.state + 1)
  pub nonzero_known : HasNonzero new.content frame.nonzero_known
  pub few_nonzero : frame.nonzero_known ≤ level + 1
  pub apart : Matches (branch_node old.content branch) start → ⊥

-- the first of a frame's branches, and the rule after the one by which it comes
pub record IsFirstBranch (list : List Rule) (states : ℕ) (content : Content) (frame : Frame) (branch : Branch)
    (next : ℕ) : Type 0 where
  pub not_below : frame.position ≤ℤ (branch.position +ℤ pos 1)
  pub not_above : branch.position ≤ℤ (frame.position +ℤ pos 1)
  pub state : branch.state < states
  pub symbol : branch.symbol < MAX_SYMBOLS
  pub held : branch.held ≡ cell content branch.position
  pub nonzero_known : branch.nonzero_known ≡ frame.nonzero_known
  pub further : frame.next < next
  pub within : next ≤ frame.end
  pub first : branches list content frame
      ≡ branch_node content branch ∷ branches list content (record frame { next = next })

-- the tree of a root was walked through, and the tape is blank; or no tree ends within the bounds
abbrev pub Explores : List Rule → (Dir → List ℕ) → (Dir → ℕ) → Branch → Count → Count → Count → Content → Bool
    → Type 0
Explores list starts sets root most old new content true = (content ≡ blank)
    × ((table : Table) (rest : List Node) → AreRules table list starts
    → IsWalked table ((branch_node blank root ∷ rest) ∷ []) old.nodes old.levels
    → IsWalked table (rest ∷ []) new.nodes new.levels)
Explores list starts sets root most old new content false = (table : Table) (rest : List Node)
    → AreRules table list starts
    → AreEndless table sets
    → IsWalked table ((branch_node blank root ∷ rest) ∷ []) old.nodes old.levels
    → EndsNowhere table most.levels most.nodes

-- the tree was walked through, and is clear; or none ends within the bounds
abbrev pub WalksAll : Table → Count → Count → Bool → Type 0
WalksAll table most entered true = Ends table entered.levels entered.nodes × Clear table entered.levels
WalksAll table most entered false = EndsNowhere table most.levels most.nodes
