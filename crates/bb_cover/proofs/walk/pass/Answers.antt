use Rattle.std.proofs.Common.{◌≡◌, ◌-◌, length, arith, take}
use Rattle.std.proofs.lemmas.Grind.{common_steps}
use Rattle.bb_cover.proofs.Lefts.{Passes, few_left, passes_by, passes_end, read_frame}
use Rattle.bb_cover.proofs.walk.pass.Goals as goal
use Rattle.bb_cover.proofs.walk.pass.Goals.{After-index, After-pop-passed}

last : (c : After-index) → c.len-last.result - 1 ≡ length c.args.frames.now.items - 1
last c = grind (arith, common_steps)

pub overflow_add-next : goal.overflow_add-next
overflow_add-next c =
    let frame = read_frame c.args.frames.now.items (c.len-last.result - 1) c.requires.stack
    (omega (arith, last c, c.requires.some)) c.index.result.now c.index.ensures in
    omega (arith, few_left (c.len-last.result - 1) c.index.result.now frame)

pub count-requires : goal.count-requires
count-requires c =
    let at = last (goal.at.count-requires c).After-index in
    (read_frame c.args.frames.now.items (c.len-last.result - 1) c.requires.stack
    (omega (arith, at, c.requires.some)) c.index-2.result.now c.index-2.ensures).few

pub returns-then-next-count-clause-next : goal.returns-then-next-count-clause-next
returns-then-next-count-clause-next c =
    let at = last (goal.at.returns-then-next-count-clause-next c).After-index in
    let p = passes_by c.args.frames.now.items (c.len-last.result - 1) at c.requires.stack c.requires.some
    c.index.result.now c.index-2.result.now c.index_mut.result.now c.index.ensures c.index-2.ensures
    c.index_mut.ensures.value (rw c.count.ensures at c.if-next-count.true) in
    (p.first, p.left_was, p.room)

pub returns-then-next-count-clause-stack : goal.returns-then-next-count-clause-stack
returns-then-next-count-clause-stack c =
    let at = last (goal.at.returns-then-next-count-clause-stack c).After-index in
    (passes_by c.args.frames.now.items (c.len-last.result - 1) at c.requires.stack c.requires.some
    c.index.result.now c.index-2.result.now c.index_mut.result.now c.index.ensures c.index-2.ensures
    c.index_mut.ensures.value (rw c.count.ensures at c.if-next-count.true)).stack

ended : (c : After-pop-passed) → Passes c.args.frames.now.items c.pop-passed.new.self.items
ended c =
    let at : c.len-last.result - 1 ≡ length c.args.frames.now.items - 1 = grind (arith, common_steps) in
    let front : c.pop-passed.new.self.items
    ≡ take (length c.args.frames.now.items - 1) c.args.frames.now.items =
    grind (arith, common_steps) in
    passes_end c.args.frames.now.items (c.len-last.result - 1) at c.requires.stack c.requires.some
    c.index.result.now c.index-2.result.now c.index.ensures c.index-2.ensures
    (rw c.count.ensures at c.if-next-count.false) c.pop-passed.new.self.items front

pub returns-clause-next : goal.returns-clause-next
returns-clause-next c =
    let p = ended c in
    (p.first, p.left_was, p.room)

pub returns-clause-stack : goal.returns-clause-stack
returns-clause-stack c = (ended c).stack
