-- What a walk knows between its steps, and why each step keeps it.
use Rattle.std.proofs.Common.{◌≡◌, ℕ, ◌+◌, ◌<◌, ◌≤◌, max, true, false, List, [], ◌∷◌, ◌++◌, length}
use Rattle.std.proofs.Common.{reverse, slice_index, slice_range, ℤ, pos, neg_ℤ, ◌≤ℤ◌, refl, ap, sym}
use Rattle.std.proofs.Common.{subst, ◌∙◌, length-append, arith}
use Rattle.std.specs.List.{AllByRecursion}
use Rattle.std.proofs.lemmas.Int.{ints, clamps}
use Rattle.std.proofs.lemmas.List.{reverse-append, length-reverse}
use Rattle.bb_machine.specs.declared.entry.Dir.{Dir}
use Rattle.bb_machine.specs.declared.entry.Dir.TheVariants.{L}
use Rattle.bb_machine.specs.declared.entry.Next.TheVariants.{State}
use Rattle.bb_machine.specs.declared.limits.TheConstants.{MAX_LEVELS}
use Rattle.bb_machine.specs.Machine.{Table}
use Rattle.bb_tape.specs.Content.{Content, HasSymbols, blank, with_cell}
use Rattle.bb_tape.specs.TapeView.{TapeView, IsInside, IsBeside, written}
use Rattle.bb_tape.proofs.Facts.{put_back}
use Rattle.bb_sim.proofs.Facts.{max_right, min_right}
use Rattle.bb_tree.specs.declared.path.Frame.{Frame}
use Rattle.bb_tree.specs.declared.rules.Rule.{Rule}
use Rattle.bb_tree.specs.declared.traversal.Branch.{Branch}
use Rattle.bb_tree.specs.declared.traversal.Count.{Count}
use Rattle.bb_tree.specs.Tree.{Node, before, before_by, rules_to}
use Rattle.bb_tree.specs.inside.Walk.{AreRules, AreFrames, IsFrame, IsBranch, IsRange, IsRule, IsWalked}
use Rattle.bb_tree.specs.inside.Walk.{Refused}
use Rattle.bb_tree.specs.inside.Walk.{branches, comb_of, branch_node}
use Rattle.bb_tree.specs.inside.Steps.{HasTable, Enters, Explores, IsFirstBranch, entered_on, states_of}
use Rattle.bb_tree.proofs.Entering.{span_entered, span_nearer}
use Rattle.bb_tree.proofs.Walked.{walk_enters, walk_leaves, walk_refused}
use Rattle.bb_tree.proofs.Orders.{AreAlike, alike_permuted, walk_rearranged}

-- a frame of a narrower window is one of a wider one, also with another rule to be tried next
frame_kept : {list : List Rule} {low high low' high' : ℤ} {content : Content} {level : ℕ} {f : Frame}
    (next : ℕ) → low' ≤ℤ low → high ≤ℤ high' → next ≤ f.end → IsFrame list low high content level f
    → IsFrame list low' high' content level (record f { next = next })
frame_kept next below above within is = record {
  not_below = is.not_below;
  not_above = is.not_above;
  from_low = let a = is.from_low in omega (arith, ints, a, below);
  to_high = let a = is.to_high in omega (arith, ints, a, above);
  symbol = is.symbol;
  in_order = within;
  in_rules = is.in_rules;
  nonzero_known = is.nonzero_known;
  few_nonzero = is.few_nonzero;
  span = is.span;
}

frames_wider : (list : List Rule) {low high low' high' : ℤ} → low' ≤ℤ low → high ≤ℤ high'
    → (fs : List Frame) (content : Content) → AreFrames list low high content fs
    → AreFrames list low' high' content fs
frames_wider list below above [] content are = are
frames_wider list below above (f ∷ fs) content are = (
  frame_kept f.next below above are.0.in_order are.0,
  frames_wider list below above fs (with_cell content f.position f.before) are.1,
)

pub comb_long : (list : List Rule) (rest : List Node) (fs : List Frame) (content : Content)
    → length (comb_of list rest content fs) ≡ length fs + 1
comb_long list rest [] content = omega arith
comb_long list rest (f ∷ fs) content =
    omega (arith, comb_long list rest fs (with_cell content f.position f.before))

pub all_named : {list : List Rule} {starts : Dir → List ℕ} → HasTable list starts
    → AllByRecursion (IsRule (states_of starts)) list
all_named {list} {starts} known =
    let same : length known.0 ≡ states_of starts = omega (arith, (known.1.in_order L).count) in
    subst (λ states. AllByRecursion (IsRule states) list) same known.1.named

-- a branch was entered

module _ {list : List Rule} {starts : Dir → List ℕ} (known : HasTable list starts) {branch : Branch}
    {level : ℕ} {old new : TapeView} {frame : Frame} (enters : Enters starts branch level old new frame)
    (is : IsBranch (states_of starts) old.content level branch) (symbols : HasSymbols old.content) where
  undone : with_cell new.content frame.position frame.before ≡ old.content
  undone = rw (enters.position, enters.content, enters.before, is.held)
      (put_back old.content branch.position (branch.symbol + 1))

  in_states : (table : Table) → AreRules table list starts → branch.state < length table
  in_states table rules = let n = (rules.in_order L).count in let s = is.state in omega (arith, n, s)

  range : IsRange known.0 list frame.next frame.end (State branch.state)
  range = rw (enters.next, enters.to) ((known.1.in_order branch.dir).to_state branch.state
      (in_states known.0 known.1))

  frame_is : IsFrame list new.low new.high new.content level frame
  frame_is = record {
    not_below = rw enters.position is.not_below;
    not_above = rw enters.position is.not_above;
    from_low = rw (enters.position, enters.low) (min_right old.low branch.position);
    to_high = rw (enters.position, enters.high) (max_right old.high branch.position);
    symbol = let most = symbols branch.position in let e = enters.before ∙ is.held in omega (arith, most, e);
    in_order = range.in_order;
    in_rules = range.within;
    nonzero_known = enters.nonzero_known;
    few_nonzero = enters.few_nonzero;
    span = rw (enters.position, enters.content) (span_entered old.content is);
  }

  pub frames_entered : (fs : List Frame) → length fs ≡ level → AreFrames list old.low old.high old.content fs
      → AreFrames list new.low new.high new.content (frame ∷ fs)
  frames_entered fs long are = (
    rw long frame_is,
    frames_wider list {low = old.low} {high = old.high} (omega (arith, ints, clamps, enters.low))
        (omega (arith, ints, clamps, enters.high)) fs _ (rw undone are),
  )

  branches_before : (table : Table) → AreRules table list starts
      → AreAlike table (before table (branch_node old.content branch)) (branches list new.content frame)
  branches_before table rules =
      let place = (rules.in_order branch.dir).to_state branch.state (in_states table rules) in
      rw (enters.content, enters.position, enters.state, enters.next, enters.to)
      (alike_permuted table (before_by (branch_node old.content branch)) (rules_to table (State branch.state))
      (slice_range list (slice_index (starts branch.dir) branch.state)
      (slice_index (starts branch.dir) (branch.state + 1))) place.are)

  -- where the frames fs lie on the way to the branch
  pub walked_entered : (table : Table) (rest : List Node) {more : List Node} (fs : List Frame)
      {tail : List (List Node)} {nodes levels : ℕ} → AreRules table list starts → length tail ≡ level
      → comb_of list rest old.content fs ≡ more ∷ tail
      → IsWalked table ((branch_node old.content branch ∷ more) ∷ tail) nodes levels
      → IsWalked table (comb_of list rest new.content (frame ∷ fs)) (nodes + 1) (max levels (level + 1))
  walked_entered table rest {more} fs {tail} {nodes} {levels} rules long comb walked =
      let first = before table (branch_node old.content branch) in
      let left = with_cell new.content frame.position frame.before in
      let entered : IsWalked table (first ∷ comb_of list rest left fs) (nodes + 1)
      (max levels (level + 1)) = rw (undone, comb, sym long) (walk_enters walked enters.apart) in
      walk_rearranged (branches_before table rules) entered

-- what a walk from a root knows between its steps

abbrev pub WalkedTo : List Rule → (Dir → List ℕ) → Branch → Count → Content → List Frame → Count → Type 0
WalkedTo list starts root old content fs entered = (table : Table) (rest : List Node)
    → AreRules table list starts
    → IsWalked table ((branch_node blank root ∷ rest) ∷ []) old.nodes old.levels
    → IsWalked table (comb_of list rest content fs) entered.nodes entered.levels

pub record IsExploring (list : List Rule) (starts : Dir → List ℕ) (root : Branch) (old most : Count)
    (view : TapeView) (top : Frame) (frames : List Frame) (entered : Count) : Type 0 where
  pub are : AreFrames list view.low view.high view.content (top ∷ reverse frames)
  pub few : length frames < most.levels
  pub walked : WalkedTo list starts root old view.content (top ∷ reverse frames) entered

pub exploring_begins : {list : List Rule} {starts : Dir → List ℕ} {root : Branch} {old most : Count}
    {before after : TapeView} {frame : Frame} {entered : Count} → HasTable list starts
    → IsBranch (states_of starts) blank 0 root → before.content ≡ blank → HasSymbols before.content
    → Enters starts root 0 before after frame → 0 < most.levels → entered ≡ entered_on 0 old
    → IsExploring list starts root old most after frame [] entered
exploring_begins {list} {starts} {root} {old} {before = before} {after} {frame} known is blank_before symbols
    enters some counted =
    let is_here : IsBranch (states_of starts) before.content 0 root = rw blank_before is in
    record {
      are = frames_entered known enters is_here symbols [] refl blank_before;
      few = some;
      walked = λ table rest rules walked. rw counted (walked_entered known enters is_here symbols table rest
          [] rules refl refl (rw blank_before walked));
    }

module _ {list : List Rule} {starts : Dir → List ℕ} {root : Branch} {old most : Count} {view : TapeView}
    {top : Frame} {frames : List Frame} {entered : Count}
    (now : IsExploring list starts root old most view top frames entered) where
  long : length (reverse frames) ≡ length frames
  long = length-reverse frames

  pub top_is : IsFrame list view.low view.high view.content (length frames) top
  top_is = rw long at now.are.0

  pub top_low : most.levels ≤ MAX_LEVELS → neg_ℤ (pos MAX_LEVELS) ≤ℤ top.position
  top_low h = omega (arith, ints, h, now.few, top_is.not_below)

  pub top_high : most.levels ≤ MAX_LEVELS → top.position ≤ℤ pos MAX_LEVELS
  top_high h = omega (arith, ints, h, now.few, top_is.not_above)

  pub top_inside : IsInside view top.position
  top_inside = (top_is.from_low, top_is.to_high)

  -- a branch was found

  module _ {branch : Branch} {next : ℕ}
      (first : IsFirstBranch list (states_of starts) view.content top branch next) where
    pub branch_is : IsBranch (states_of starts) view.content (length frames + 1) branch
    branch_is = record {
      not_below = omega (arith, ints, top_is.not_below, first.not_below);
      not_above = omega (arith, ints, top_is.not_above, first.not_above);
      state = first.state;
      symbol = first.symbol;
      held = first.held;
      nonzero_known = rw first.nonzero_known top_is.nonzero_known;
      span = span_nearer top_is.span (omega (arith, ints, first.not_below))
          (omega (arith, ints, first.not_above));
      few_nonzero = omega (arith, top_is.few_nonzero, first.nonzero_known);
    }

    pub branch_beside : IsBeside view branch.position
    branch_beside =
        omega (arith, ints, top_is.from_low, first.not_below, top_is.to_high, first.not_above)

    abbrev tried_top : Frame
    tried_top = record top { next = next }

    abbrev tail_of : List Node → List (List Node)
    tail_of rest = comb_of list rest (with_cell view.content top.position top.before) (reverse frames)

    comb_first : (rest : List Node)
        → comb_of list rest view.content (top ∷ reverse frames) ≡
        (branch_node view.content branch ∷ branches list view.content tried_top) ∷ tail_of rest
    comb_first rest = ap (λ ns. ns ∷ tail_of rest) first.first

    tail_long : (rest : List Node) → length (tail_of rest) ≡ length frames + 1
    tail_long rest =
        let e = comb_long list rest (reverse frames) (with_cell view.content top.position top.before) in
        omega (arith, long, e)

    walked_first : (table : Table) (rest : List Node) → AreRules table list starts
        → IsWalked table ((branch_node blank root ∷ rest) ∷ []) old.nodes old.levels
        → IsWalked table ((branch_node view.content branch ∷ branches list view.content tried_top) ∷
        tail_of rest) entered.nodes entered.levels
    walked_first table rest rules walked = rw (comb_first rest) at (now.walked table rest rules walked)

    pub branch_refused : {sets : Dir → ℕ} → Refused sets (branch_node view.content branch)
        (length frames + 1) entered.nodes most.nodes most.levels → (content : Content) (new : Count)
        → Explores list starts sets root most old new content false
    branch_refused refused content new table rest rules are walked =
        walk_refused are (walked_first table rest rules walked) (rw (tail_long rest) refused)

    reversed : reverse (frames ++ (tried_top ∷ [])) ≡ tried_top ∷ reverse frames
    reversed = reverse-append frames (tried_top ∷ [])

    pub exploring_descends : {after : TapeView} {child : Frame} {then_entered : Count}
        {then_frames : List Frame} → HasTable list starts → HasSymbols view.content
        → Enters starts branch (length frames + 1) view after child → length frames + 1 < most.levels
        → then_entered ≡ entered_on (length frames + 1) entered → then_frames ≡ frames ++ (tried_top ∷ [])
        → IsExploring list starts root old most after child then_frames then_entered
    exploring_descends {after} {child} {then_entered} {then_frames} known symbols enters deep counted pushed =
        let order : reverse then_frames ≡ tried_top ∷ reverse frames = ap reverse pushed ∙ reversed in
        let are_tried : AreFrames list view.low view.high view.content (tried_top ∷ reverse frames) = (
          frame_kept next (omega (arith, ints)) (omega (arith, ints)) first.within now.are.0,
          now.are.1,
        ) in
        let deep_frames : length (tried_top ∷ reverse frames) ≡ length frames + 1 = omega (arith, long) in
        record {
          are = rw order (frames_entered known enters branch_is symbols (tried_top ∷ reverse frames)
              deep_frames are_tried);
          few = let n : length then_frames ≡ length frames + 1 = ap length pushed
              ∙ length-append frames (tried_top ∷ []) in omega (arith, n, deep);
          walked = λ table rest rules walked. rw (order, counted)
              (walked_entered known enters branch_is symbols table rest (tried_top ∷ reverse frames) rules
              (tail_long rest) refl (walked_first table rest rules walked));
        }

  -- nothing is left before the top node

  module _ (none : branches list view.content top ≡ []) {after : TapeView}
      (left : after ≡ written view top.position top.before) where
    walked_left : WalkedTo list starts root old (with_cell view.content top.position top.before)
        (reverse frames) entered
    walked_left table rest rules walked =
        walk_leaves (rw none at (now.walked table rest rules walked))

    pub explored : (sets : Dir → ℕ) → frames ≡ [] → {content : Content} → content ≡ after.content
        → Explores list starts sets root most old entered content true
    explored sets empty same =
        let gone : reverse frames ≡ [] = ap reverse empty in (
          same ∙ ap (λ s. s.content) left ∙ (rw gone at now.are.1),
          λ table rest rules walked. rw gone at (walked_left table rest rules walked),
        )

    pub exploring_returns : {parent : Frame} {then_frames : List Frame}
        → frames ≡ then_frames ++ (parent ∷ [])
        → IsExploring list starts root old most after parent then_frames entered
    exploring_returns {parent} {then_frames} popped =
        let order : reverse frames ≡ parent ∷ reverse then_frames = ap reverse popped
        ∙ reverse-append then_frames (parent ∷ []) in
        record {
          are = subst (λ s. AreFrames list s.low s.high s.content (parent ∷ reverse then_frames)) (sym left)
              (rw order at now.are.1);
          few = let n : length frames ≡ length then_frames + 1 = ap length popped
              ∙ length-append then_frames (parent ∷ []) in let few = now.few in omega (arith, n, few);
          walked = λ table rest rules walked. rw left (rw order at (walked_left table rest rules walked));
        }

-- the root itself is refused
pub root_refused : (list : List Rule) (starts : Dir → List ℕ) (sets : Dir → ℕ) (root : Branch)
    (old most new : Count) (content after : Content) → content ≡ blank
    → Refused sets (branch_node content root) 0 old.nodes most.nodes most.levels
    → Explores list starts sets root most old new after false
root_refused list starts sets root old most new content after none refused table rest rules are walked =
    walk_refused are walked (rw none at refused)
