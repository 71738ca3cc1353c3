use Rattle.std.proofs.Common.{◌≡◌, ◌+◌, ◌<◌, false, true, length, get_or, slice_index}
use Rattle.std.proofs.Common.{ap, refl, sym, subst, ◌∙◌, arith, rules}
use Rattle.bb_machine.specs.declared.entry.Dir.TheVariants.{R}
use Rattle.bb_tree.specs.inside.Walk.{endless_of, starts_of}
use Rattle.bb_tree.proofs.Roots.{IsRoot, root_is, root_explored, root_stops, roots_begin}
use Rattle.bb_tree.proofs.Roots.{before_end, end_at, no_more, past_end, roots_end}
use Rattle.bb_tree.proofs.Roots.{below_next, few_states, rule_within, start_within}
use Rattle.bb_tree.proofs.traversal.explore_all.Goals as goal
use Rattle.bb_tree.proofs.traversal.explore_all.Goals.{After-deref-in-loop-index}
use Rattle.bb_tree.proofs.traversal.explore_all.Given as given

pub loop-index-init : goal.loop-index-init
loop-index-init g c =
    let from = ap (λ xs. get_or xs c.states-halting.result 0) c.deref.ensures.0
    ∙ ap (λ n. get_or c.gather.new.self.right_first.items n 0) c.states-halting.ensures.value in
    record {
      walked = rw from (roots_begin (c.gather.ensures.rules.in_order R).halting c.requires.nodes
          c.requires.levels);
      blank = c.requires.blank;
      room = c.requires.room;
      within = no_more c.args.most c.args.entered.now c.requires.nodes c.requires.levels;
      limit = refl;
      depth = refl;
    }

-- the rule of this turn
root_here : (g : given.Over) (c : After-deref-in-loop-index g)
    → IsRoot c.args.machine.now c.gather.new.self.list.items c.deref-in-loop-index.result.now
    (starts_of c.gather.new.self) c.loop-index.index
    (slice_index c.gather.new.self.right_first.items (length c.args.machine.now + 1))
root_here g c = record {
  rules = c.gather.ensures.rules;
  same = c.deref-in-loop-index.ensures.0;
  less = before_end (end_at c.deref-2.ensures.0 c.states-halting.ensures.value)
      c.loop-index-test.true;
  within = (c.gather.ensures.rules.in_order R).halting.within;
}

pub bounds-deref-halting : goal.bounds-deref-halting
bounds-deref-halting g c = subst (λ starts. c.states-halting.result < length starts) (sym c.deref.ensures.0)
    (below_next (start_within (c.gather.ensures.rules.in_order R) c.states-halting.ensures.value))

pub bounds-deref-halting-2 : goal.bounds-deref-halting-2
bounds-deref-halting-2 g c = subst (λ starts. c.states-halting.result + 1 < length starts)
    (sym c.deref-2.ensures.0)
    (start_within (c.gather.ensures.rules.in_order R) c.states-halting.ensures.value)

pub bounds-deref-index : goal.bounds-deref-index
bounds-deref-index g c = rule_within (root_here g c)

pub explore-requires-clause-states : goal.explore-requires-clause-states
explore-requires-clause-states g c = few_states c.gather.ensures.rules c.gather.ensures.machine

pub explore-requires-clause-root : goal.explore-requires-clause-root
explore-requires-clause-root g c =
    root_is (root_here g (goal.at.explore-requires-clause-root g c).After-deref-in-loop-index)

pub returns-then-not-branch-clause-walked : goal.returns-then-not-branch-clause-walked
returns-then-not-branch-clause-walked g c =
    let root = root_here g (goal.at.returns-then-not-branch-clause-walked g c).After-deref-in-loop-index in
    let e : c.in_ok-explore.field-0 ≡ false = search rules in
    root_stops root c.loop-index.entered c.explore.new.entered c.args.most
    (g.T.Tape.view c.explore.new.tape).content c.of_machine-endless.ensures
    (rw e at c.in_ok-explore.ensures.explores)
    c.loop-index.invariant.walked

pub loop-index-preserved : goal.loop-index-preserved
loop-index-preserved g c =
    let root = root_here g (goal.at.loop-index-preserved g c).After-deref-in-loop-index in
    let e : c.in_ok-explore.field-0 ≡ true = search rules in
    let explores = rw e at c.in_ok-explore.ensures.explores in
    record {
      walked = root_explored root c.loop-index.entered c.explore.new.entered c.args.most
          (endless_of c.of_machine-endless.result) explores
          c.loop-index.invariant.walked;
      blank = explores.0;
      room = c.explore.ensures.room;
      within = c.explore.ensures.within;
      limit = c.explore.ensures.limit ∙ c.loop-index.invariant.limit;
      depth = c.explore.ensures.depth ∙ c.loop-index.invariant.depth;
    }

pub returns-clause-walked : goal.returns-clause-walked
returns-clause-walked g c =
    let ends = end_at c.deref-2.ensures.0 c.states-halting.ensures.value in
    roots_end c.args.machine.now c.gather.new.self.list.items c.loop-index.index _ c.args.most
    c.loop-index.entered (past_end ends c.loop-index-test.false) c.loop-index.invariant.walked

pub returns-then-has_root-clause-within : goal.returns-then-has_root-clause-within
returns-then-has_root-clause-within g c =
    no_more c.args.most c.args.entered.now c.requires.nodes c.requires.levels

pub overflow_cast-rule : goal.overflow_cast-rule
overflow_cast-rule g c = omega (arith, rule_within (root_here g c), c.deref-in-loop-index.type_inv.0)

pub offset_bounds-deref-index : goal.offset_bounds-deref-index
offset_bounds-deref-index g c = omega (arith, rule_within (root_here g c), c.deref-in-loop-index.type_inv.1)

pub explore-requires-clause-rules : goal.explore-requires-clause-rules
explore-requires-clause-rules g c = (c.args.machine.now, c.gather.ensures.rules)

pub loop-index-smaller : goal.loop-index-smaller
loop-index-smaller g c = omega (arith, c.loop-index-test.true)

pub returns-in_err-explore-clause-machine : goal.returns-in_err-explore-clause-machine
returns-in_err-explore-clause-machine g c = c.gather.ensures.machine

pub returns-in_err-explore-clause-within : goal.returns-in_err-explore-clause-within
returns-in_err-explore-clause-within g c = c.explore.ensures.within

pub returns-in_err-explore-clause-limit : goal.returns-in_err-explore-clause-limit
returns-in_err-explore-clause-limit g c = c.explore.ensures.limit ∙ c.loop-index.invariant.limit

pub returns-in_err-explore-clause-depth : goal.returns-in_err-explore-clause-depth
returns-in_err-explore-clause-depth g c = c.explore.ensures.depth ∙ c.loop-index.invariant.depth

pub returns-then-not-branch-clause-machine : goal.returns-then-not-branch-clause-machine
returns-then-not-branch-clause-machine g c = c.gather.ensures.machine

pub returns-then-not-branch-clause-within : goal.returns-then-not-branch-clause-within
returns-then-not-branch-clause-within g c = c.explore.ensures.within

pub returns-then-not-branch-clause-limit : goal.returns-then-not-branch-clause-limit
returns-then-not-branch-clause-limit g c = c.explore.ensures.limit ∙ c.loop-index.invariant.limit

pub returns-then-not-branch-clause-depth : goal.returns-then-not-branch-clause-depth
returns-then-not-branch-clause-depth g c = c.explore.ensures.depth ∙ c.loop-index.invariant.depth

pub returns-clause-machine : goal.returns-clause-machine
returns-clause-machine g c = c.gather.ensures.machine

pub returns-clause-within : goal.returns-clause-within
returns-clause-within g c = c.loop-index.invariant.within

pub returns-clause-limit : goal.returns-clause-limit
returns-clause-limit g c = c.loop-index.invariant.limit

pub returns-clause-depth : goal.returns-clause-depth
returns-clause-depth g c = c.loop-index.invariant.depth

pub returns-then-has_root-clause-machine : goal.returns-then-has_root-clause-machine
returns-then-has_root-clause-machine g c = c.has_root.ensures.machine
