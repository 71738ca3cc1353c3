use Rattle.std.proofs.Common.{◌≡◌, ◌<◌, ◌-◌, ap, sym, subst, ◌∙◌, length, arith}
use Rattle.std.proofs.lemmas.Grind.{common_steps}
use Rattle.laws_of_verdicts.specs.Closed.{with_entry}
use Rattle.bb_cover.specs.Left.{IsFirst, IsFrame, left}
use Rattle.bb_cover.proofs.Lefts.{first_is_one, head_of, next_of, read_frame}
use Rattle.bb_cover.proofs.walk.Walk.is_next.Goals as goal
use Rattle.bb_cover.proofs.walk.Walk.is_next.Goals.{After-index-top}

some : (c : After-index-top) → 0 < length c.self.inside.frames.items
some c = let is = c.if-is_empty.false in grind (arith, common_steps)

last : (c : After-index-top) → c.len.result - 1 ≡ length c.self.inside.frames.items - 1
last c = grind (arith, common_steps)

top_frame : (c : After-index-top) → IsFrame (c.len.result - 1) c.index-top.result.now
top_frame c =
    let more = some c in
    read_frame c.self.inside.frames.items (c.len.result - 1) c.self.invariant.0 (omega (arith, last c, more))
    c.index-top.result.now c.index-top.ensures

pub entry-requires-clause-states : goal.entry-requires-clause-states
entry-requires-clause-states c = (top_frame c).few

pub entry-requires-clause-symbols : goal.entry-requires-clause-symbols
entry-requires-clause-symbols c = (top_frame c).few_symbols

pub entry-requires-clause-index : goal.entry-requires-clause-index
entry-requires-clause-index c = (top_frame c).some

pub is_with_entry-requires-clause-state : goal.is_with_entry-requires-clause-state
is_with_entry-requires-clause-state c =
    (top_frame (goal.at.is_with_entry-requires-clause-state c).After-index-top).undefined.below

pub is_with_entry-requires-clause-symbol : goal.is_with_entry-requires-clause-symbol
is_with_entry-requires-clause-symbol c =
    (top_frame (goal.at.is_with_entry-requires-clause-symbol c).After-index-top).undefined.inside

head : (c : After-index-top) → IsFirst (next_of c.index-top.result.now) (left c.self.inside.frames.items)
head c = head_of c.self.inside.frames.items (c.len.result - 1) (last c) c.self.invariant.0 (some c)
    c.index-top.result.now c.index-top.ensures

pub returns-clause-next : goal.returns-clause-next
returns-clause-next c is =
    let top = c.index-top.result.now in
    let entry = ap (with_entry top.machine top.undefined.state top.undefined.symbol) c.entry.ensures in
    subst (IsFirst c.args.machine.now) c.self.view_is
    (subst (λ t. IsFirst t (left c.self.inside.frames.items))
    (sym (c.is_with_entry.ensures.same is ∙ entry)) (head (goal.at.returns-clause-next c).After-index-top))

pub returns-clause-only : goal.returns-clause-only
returns-clause-only c next =
    let top = c.index-top.result.now in
    let entry = ap (with_entry top.machine top.undefined.state top.undefined.symbol) c.entry.ensures in
    let next_too = subst (IsFirst c.args.machine.now) (sym c.self.view_is) next in
    c.is_with_entry.ensures.only
    (first_is_one c.args.machine.now (next_of top) (left c.self.inside.frames.items) next_too
    (head (goal.at.returns-clause-only c).After-index-top) ∙ sym entry)
