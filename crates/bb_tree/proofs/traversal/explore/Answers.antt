use Rattle.std.proofs.Common.{◌≡◌, ℕ, ◌+◌, ◌-◌, ◌*◌, ◌<◌, ◌≤◌, length, refl, ap, ◌∙◌, length-append}
use Rattle.std.proofs.Common.{arith, rules}
use Rattle.std.proofs.lemmas.Int.{ints}
use Rattle.bb_machine.specs.declared.limits.TheConstants.{MAX_LEVELS}
use Rattle.bb_tree.specs.declared.traversal.Count.{Count}
use Rattle.bb_tree.specs.Path.{frames_of}
use Rattle.bb_tree.specs.inside.Walk.{endless_of, starts_of}
use Rattle.bb_tree.proofs.Entering.{room_written}
use Rattle.bb_tree.proofs.Exploring.{exploring_begins, top_is, top_low, top_high}
use Rattle.bb_tree.proofs.Exploring.{all_named, top_inside}
use Rattle.bb_tree.proofs.Exploring.{branch_is, branch_beside, branch_refused}
use Rattle.bb_tree.proofs.Exploring.{exploring_descends, explored}
use Rattle.bb_tree.proofs.Exploring.{exploring_returns, root_refused}
use Rattle.bb_tree.proofs.traversal.explore.Goals as goal

pub returns-in_default-clause-explores : goal.returns-in_default-clause-explores
returns-in_default-clause-explores g c = root_refused c.args.rules.now.list.items
    (starts_of c.args.rules.now) (endless_of c.args.endless) c.args.root c.args.entered.now c.args.most
    c.enter.new.entered
    (g.T.Tape.view c.args.tape.now).content (g.T.Tape.view c.enter.new.tape).content c.requires.blank
    (rw c.in_default.is at c.in_ok-top.ensures.refused)

pub loop-branch-init : goal.loop-branch-init
loop-branch-init g c =
    let counted = rw c.in-Some.is at c.in_ok-top.ensures.counted in
    record {
      exploring = rw c.clear.ensures.frames
          (exploring_begins c.requires.rules c.requires.root c.requires.blank
          (g.met.T.Tape.sound c.args.tape.now).symbols (rw c.in-Some.is at c.in_ok-top.ensures.enters)
          counted.0 counted.2);
      room = c.enter.ensures.room;
      within = c.enter.ensures.within;
      limit = c.enter.ensures.limit;
      depth = c.clear.ensures.depth;
    }

most_levels : (levels depth : ℕ) (then_depth : ℕ) → levels ≤ depth → then_depth ≡ depth
    → then_depth ≤ MAX_LEVELS → levels ≤ MAX_LEVELS
most_levels levels depth then_depth a b c = omega (arith, a, b, c)

pub next_branch-requires : goal.next_branch-requires
next_branch-requires g c =
    let now = c.loop-branch.invariant.exploring in
    let most = most_levels _ _ _ c.requires.path c.loop-branch.invariant.depth c.loop-branch.path.few in
    record {
      rules = all_named c.requires.rules;
      order = (top_is now).in_order;
      within = (top_is now).in_rules;
      low = top_low now most;
      high = top_high now most;
    }

few_levels : (frames levels most n : ℕ) → frames < levels → levels ≤ most → n ≡ frames → n + 1 ≤ most
few_levels frames levels most n a b c = omega (arith, a, b, c)

pub enter-requires-in-Some-next_branch : goal.enter-requires-in-Some-next_branch
enter-requires-in-Some-next_branch g c =
    let now = c.loop-branch.invariant.exploring in
    let first = c.in-Some-next_branch.ensures in
    let most = most_levels _ _ _ c.requires.path c.loop-branch.invariant.depth c.loop-branch.path.few in
    record {
      rules = c.requires.rules;
      states = c.requires.states;
      branch = rw c.len.ensures (branch_is now first);
      beside = branch_beside now first;
      level = few_levels _ _ _ _ now.few most c.len.ensures;
      room = c.loop-branch.invariant.room;
      within = c.loop-branch.invariant.within;
    }

pub returns-in_err-child-in-Some-next_branch-clause-limit : goal.returns-in_err-child-in-Some-next_branch-clause-limit
returns-in_err-child-in-Some-next_branch-clause-limit g c = c.enter-in-Some-next_branch.ensures.limit
    ∙ c.loop-branch.invariant.limit

pub returns-in_err-child-in-Some-next_branch-clause-depth : goal.returns-in_err-child-in-Some-next_branch-clause-depth
returns-in_err-child-in-Some-next_branch-clause-depth g c = c.loop-branch.invariant.depth

pub returns-in_default-2 : goal.returns-in_default-2
returns-in_default-2 g c =
    record {
      explores = branch_refused c.loop-branch.invariant.exploring c.in-Some-next_branch.ensures
          (rw (c.in_default-2.is, c.len.ensures) at c.in_ok-child-in-Some-next_branch.ensures.refused)
          (g.T.Tape.view c.enter-in-Some-next_branch.new.tape).content
          c.enter-in-Some-next_branch.new.entered;
      room = c.enter-in-Some-next_branch.ensures.room;
      within = c.enter-in-Some-next_branch.ensures.within;
      limit = c.enter-in-Some-next_branch.ensures.limit ∙ c.loop-branch.invariant.limit;
      depth = c.loop-branch.invariant.depth;
      memory = tt;
    }

room_to_push : (frames levels depth then_depth : ℕ) → frames < levels → levels ≤ depth → then_depth ≡ depth
    → frames < then_depth
room_to_push frames levels depth then_depth a b c = omega (arith, a, b, c)

pub push-requires : goal.push-requires
push-requires g c = room_to_push _ _ _ _ (c.loop-branch.invariant.exploring).few c.requires.path
    c.loop-branch.invariant.depth

pub loop-branch-preserved-in-Some-next_branch : goal.loop-branch-preserved-in-Some-next_branch
loop-branch-preserved-in-Some-next_branch g c =
    let counted = rw (c.in-Some-2.is, c.len.ensures) at c.in_ok-child-in-Some-next_branch.ensures.counted in
    let enters = rw (c.in-Some-2.is, c.len.ensures) at c.in_ok-child-in-Some-next_branch.ensures.enters in
    record {
      exploring = exploring_descends c.loop-branch.invariant.exploring c.in-Some-next_branch.ensures
          c.requires.rules (g.met.T.Tape.sound c.loop-branch.tape).symbols enters counted.0 counted.2
          c.push.ensures.frames;
      room = c.enter-in-Some-next_branch.ensures.room;
      within = c.enter-in-Some-next_branch.ensures.within;
      limit = c.enter-in-Some-next_branch.ensures.limit ∙ c.loop-branch.invariant.limit;
      depth = c.push.ensures.depth ∙ c.loop-branch.invariant.depth;
    }

pub leave-requires : goal.leave-requires
leave-requires g c =
    let now = c.loop-branch.invariant.exploring in
    record { inside = top_inside now; symbol = (top_is now).symbol }

pub returns-in_err-leave-in-None : goal.returns-in_err-leave-in-None
returns-in_err-leave-in-None g c =
    let kept = c.in_err-leave-in-None.ensures.refused in
    record {
      explores = search rules;
      room = rw kept c.loop-branch.invariant.room;
      within = c.loop-branch.invariant.within;
      limit = rw kept c.loop-branch.invariant.limit;
      depth = c.loop-branch.invariant.depth;
      memory = search rules;
    }

pub loop-branch-preserved : goal.loop-branch-preserved
loop-branch-preserved g c =
    let left = c.in_ok-leave-in-None.ensures.left in
    record {
      exploring = exploring_returns c.loop-branch.invariant.exploring c.in-None.ensures left
          c.in-Some-pop.ensures.frames;
      room = rw left (room_written _ _ _ _ c.loop-branch.invariant.room);
      within = c.loop-branch.invariant.within;
      limit = rw left c.loop-branch.invariant.limit;
      depth = c.pop.ensures.depth ∙ c.loop-branch.invariant.depth;
    }

pub returns-in-None-pop : goal.returns-in-None-pop
returns-in-None-pop g c =
    let left = c.in_ok-leave-in-None.ensures.left in
    record {
      explores = explored c.loop-branch.invariant.exploring c.in-None.ensures left
          (endless_of c.args.endless) c.in-None-pop.ensures.frames refl;
      room = rw left (room_written _ _ _ _ c.loop-branch.invariant.room);
      within = c.loop-branch.invariant.within;
      limit = rw left c.loop-branch.invariant.limit;
      depth = c.pop.ensures.depth ∙ c.loop-branch.invariant.depth;
      memory = tt;
    }

pub enter-requires-clause-branch : goal.enter-requires-clause-branch
enter-requires-clause-branch g c = rw c.requires.blank c.requires.root

pub enter-requires-clause-beside : goal.enter-requires-clause-beside
enter-requires-clause-beside g c =
    let sound = g.met.T.Tape.sound c.args.tape.now in (
      omega (arith, ints, sound.from_zero, c.requires.root.not_below),
      omega (arith, ints, sound.to_zero, c.requires.root.not_above),
    )

pub overflow_add-len : goal.overflow_add-len
overflow_add-len g c =
    let now = c.loop-branch.invariant.exploring in
    let most = most_levels _ _ _ c.requires.path c.loop-branch.invariant.depth c.loop-branch.path.few in
    omega (arith, few_levels _ _ _ _ now.few most c.len.ensures)

smaller_entered : (most nodes then_nodes frames then_frames : ℕ) → nodes < most → then_nodes ≡ nodes + 1
    → then_frames ≡ frames + 1 → 2 * (most - then_nodes) + then_frames < 2 * (most - nodes) + frames
smaller_entered most nodes then_nodes frames then_frames a b c = omega (arith, a, b, c)

smaller_left : (nodes frames then_frames : ℕ) → frames ≡ then_frames + 1
    → nodes + then_frames < nodes + frames
smaller_left nodes frames then_frames a = omega (arith, a)

pub loop-branch-smaller-in-Some-next_branch : goal.loop-branch-smaller-in-Some-next_branch
loop-branch-smaller-in-Some-next_branch g c =
    let counted = rw (c.in-Some-2.is, c.len.ensures) at c.in_ok-child-in-Some-next_branch.ensures.counted in
    smaller_entered _ _ _ _ _ counted.1 (ap (λ (n : Count). n.nodes) counted.2)
    (ap length c.push.ensures.frames ∙ length-append (frames_of c.loop-branch.path) _)

pub loop-branch-smaller : goal.loop-branch-smaller
loop-branch-smaller g c =
    smaller_left _ _ _ (ap length c.in-Some-pop.ensures.frames ∙ length-append (frames_of c.pop.new.self) _)

pub returns-in_default-clause-limit : goal.returns-in_default-clause-limit
returns-in_default-clause-limit g c = c.enter.ensures.limit

pub returns-in_default-clause-room : goal.returns-in_default-clause-room
returns-in_default-clause-room g c = c.enter.ensures.room

pub returns-in_default-clause-within : goal.returns-in_default-clause-within
returns-in_default-clause-within g c = c.enter.ensures.within

pub returns-in_default-clause-depth : goal.returns-in_default-clause-depth
returns-in_default-clause-depth g c = c.clear.ensures.depth

pub returns-in_err-top-clause-limit : goal.returns-in_err-top-clause-limit
returns-in_err-top-clause-limit g c = c.enter.ensures.limit

pub returns-in_err-top-clause-room : goal.returns-in_err-top-clause-room
returns-in_err-top-clause-room g c = c.enter.ensures.room

pub returns-in_err-top-clause-within : goal.returns-in_err-top-clause-within
returns-in_err-top-clause-within g c = c.enter.ensures.within

pub returns-in_err-top-clause-depth : goal.returns-in_err-top-clause-depth
returns-in_err-top-clause-depth g c = c.clear.ensures.depth

pub returns-in_err-child-in-Some-next_branch-clause-room :
    goal.returns-in_err-child-in-Some-next_branch-clause-room
returns-in_err-child-in-Some-next_branch-clause-room g c = c.enter-in-Some-next_branch.ensures.room

pub returns-in_err-child-in-Some-next_branch-clause-within :
    goal.returns-in_err-child-in-Some-next_branch-clause-within
returns-in_err-child-in-Some-next_branch-clause-within g c = c.enter-in-Some-next_branch.ensures.within
