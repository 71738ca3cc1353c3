-- What checking a claim counts: this project's own.
use Rattle.std.specs.Prelude.{◌≡◌, ℕ, ◌≤◌, ◌⊎◌}
use Rattle.bb_machine.specs.Limits.{Bounds}
use Rattle.bb_machine.specs.Machine.{Table}
use Rattle.bb_sim.specs.declared.meter.Meter.{Meter}
use Rattle.bb_sim.specs.Span.{IsLastInside, span}
use Rattle.bb_cert.specs.checker.Answer.{IsSettled}
use Rattle.bb_cert.specs.declared.verdict.Verdict.{Verdict}
use Rattle.bb_cert.specs.declared.verdict.Verdict.TheVariants.{Halt, Cycler, Translated, Backward, Undecided}
use Rattle.bb_tree.specs.Tree.{EndsWithin}

-- the last step named in a verdict, 0 if it names none
abbrev pub last_step : Verdict → ℕ
last_step (Halt steps score) = steps
last_step (Cycler first second) = second
last_step (Translated side first second extent) = second
last_step (Backward levels nodes) = 0
last_step (Undecided why) = 0

-- the levels named in it, 0 if it names none
abbrev pub levels_of : Verdict → ℕ
levels_of (Halt steps score) = 0
levels_of (Cycler first second) = 0
levels_of (Translated side first second extent) = 0
levels_of (Backward levels nodes) = levels
levels_of (Undecided why) = 0

-- the nodes named in it, 0 if it names none
abbrev pub nodes_of : Verdict → ℕ
nodes_of (Halt steps score) = 0
nodes_of (Cycler first second) = 0
nodes_of (Translated side first second extent) = 0
nodes_of (Backward levels nodes) = nodes
nodes_of (Undecided why) = 0

-- just what the verdict names was counted
pub record CountsClaim (verdict : Verdict) (meter : Meter) : Type 0 where
  pub steps : meter.steps ≡ last_step verdict
  pub levels : meter.most_levels ≡ levels_of verdict
  pub nodes : meter.nodes ≡ nodes_of verdict

-- no more was counted than the verdict names, nor than the bounds have
pub record IsWithinClaim (bounds : Bounds) (verdict : Verdict) (meter : Meter) : Type 0 where
  pub steps : meter.steps ≤ bounds.steps
  pub named_steps : meter.steps ≤ last_step verdict
  pub levels : meter.most_levels ≤ bounds.depth
  pub named_levels : meter.most_levels ≤ levels_of verdict
  pub nodes : meter.nodes ≤ bounds.nodes
  pub named_nodes : meter.nodes ≤ nodes_of verdict
  pub cells : meter.most_cells ≤ bounds.cells

-- a claim of a halt or of a pair is replayed
abbrev pub IsOfRun : Verdict → Type 0
IsOfRun (Halt steps score) = Unit {0}
IsOfRun (Cycler first second) = Unit {0}
IsOfRun (Translated side first second extent) = Unit {0}
IsOfRun (Backward levels nodes) = ⊥
IsOfRun (Undecided why) = ⊥

-- a pair is claimed
abbrev pub IsOfPair : Verdict → Type 0
IsOfPair (Halt steps score) = ⊥
IsOfPair (Cycler first second) = Unit {0}
IsOfPair (Translated side first second extent) = Unit {0}
IsOfPair (Backward levels nodes) = ⊥
IsOfPair (Undecided why) = ⊥

-- unless a rule applies for which nothing has to be run
abbrev pub IsReplayed : Bounds → Verdict → Type 0
IsReplayed bounds verdict = (IsSettled bounds verdict → ⊥) × IsOfRun verdict

-- the bounds of the replay: it goes no farther than the last step named in the verdict
abbrev pub replay_bounds : Bounds → Verdict → Bounds
replay_bounds bounds verdict = record bounds { steps = last_step verdict }

-- the window of a replay is so wide: as the span of its last step
pub record IsReplaySpan (table : Table) (bounds : Bounds) (verdict : Verdict) (width : ℕ) : Type 0 where
  pub is_replayed : IsReplayed bounds verdict
  pub last : ℕ
  pub is_last : IsLastInside table (replay_bounds bounds verdict) last
  pub is_span : width ≡ span table last

-- the widest window counted by checking a claim: that of the replay, 0 without one
abbrev pub CountsWindow : Table → Bounds → Verdict → ℕ → Type 0
CountsWindow table bounds verdict width = IsReplaySpan table bounds verdict width
    ⊎ ((IsReplayed bounds verdict → ⊥) × (width ≡ 0))

-- a claim of a tree is walked through
abbrev pub IsOfTree : Verdict → Type 0
IsOfTree (Halt steps score) = ⊥
IsOfTree (Cycler first second) = ⊥
IsOfTree (Translated side first second extent) = ⊥
IsOfTree (Backward levels nodes) = Unit {0}
IsOfTree (Undecided why) = ⊥

-- unless a rule applies for which nothing has to be run
abbrev pub IsWalked : Bounds → Verdict → Type 0
IsWalked bounds verdict = (IsSettled bounds verdict → ⊥) × IsOfTree verdict

-- the steps counted by checking a claim: up to the last step of the replay, 0 without one
pub record CountsSteps (table : Table) (bounds : Bounds) (verdict : Verdict) (steps : ℕ) : Type 0 where
  pub replayed : IsReplayed bounds verdict → IsLastInside table (replay_bounds bounds verdict) steps
  pub not_replayed : (IsReplayed bounds verdict → ⊥) → steps ≡ 0

-- the levels and nodes counted by it: those of the tree, if it ends within the named ones; 0 without a walk
pub record CountsTree (table : Table) (bounds : Bounds) (verdict : Verdict) (levels nodes : ℕ) : Type 0 where
  pub ended : IsWalked bounds verdict → (h k : ℕ)
      → EndsWithin table (levels_of verdict) (nodes_of verdict) h k → (levels ≡ h) × (nodes ≡ k)
  pub not_walked : (IsWalked bounds verdict → ⊥) → (levels ≡ 0) × (nodes ≡ 0)

-- the steps, levels and nodes of any answer
pub record CountsCheck (table : Table) (bounds : Bounds) (verdict : Verdict) (meter : Meter) : Type 0 where
  pub steps : CountsSteps table bounds verdict meter.steps
  pub tree : CountsTree table bounds verdict meter.most_levels meter.nodes
