use Rattle.std.proofs.Common.{◌≡◌, ◌<◌, ◌+◌, ◌++◌, ◌∷◌, [], length, arith, ap, ◌∙◌, sym, subst, map, vec_len}
use Rattle.std.specs.Prelude.{vec_capacity}
use Rattle.std.proofs.lemmas.Grind.{common_steps}
use Rattle.laws_of_verdicts.specs.Closed.{with_entry}
use Rattle.bb_cover.specs.declared.walk.Frame.{Frame}
use Rattle.bb_cover.specs.Asked.{entries}
use Rattle.bb_cover.specs.Left.{IsStack, left}
use Rattle.bb_cover.proofs.Lefts.{fills, frames-push, left-push, new_frame}
use Rattle.bb_cover.proofs.Tables.{some_undefined_entries}
use Rattle.bb_cover.proofs.walk.go_on.Goals as goal
use Rattle.bb_cover.proofs.walk.go_on.Goals.{After-push-pushed}

frame : After-push-pushed → Frame
frame c = record { machine = c.args.machine.now; undefined = c.args.undefined; asked = c.of-asked.result; next = 0 }

pushed : (c : After-push-pushed) → c.push-pushed.new.self.items ≡ c.args.frames.now.items ++ frame c ∷ []
unfolding frame
pushed c =
    let some = some_undefined_entries c.args.machine.now c.show_machine.ensures.machine c.args.undefined c.requires.undefined in
    let room = c.requires.room in
    let capacity = c.requires.capacity in
    let free : vec_len c.args.frames.now < vec_capacity c.args.frames.now = grind (arith, common_steps) in
    let ok = c.push-pushed.ensures.succeeds free in
    let items = simp ok at c.push-pushed.ensures.items in
    rw c.replace-taken.ensures.value at items

pub returns-clause-left : goal.returns-clause-left
unfolding frame
returns-clause-left c = (
  map (with_entry c.args.machine.now c.args.undefined.state c.args.undefined.symbol) (entries c.of-asked.result),
  ap left (pushed c) ∙ left-push c.args.frames.now.items (frame c),
  fills c.args.machine.now c.is_empty.result c.of-asked.result c.args.undefined c.of-asked.ensures
      c.is_empty.ensures,
)

pub returns-clause-stack : goal.returns-clause-stack
unfolding frame
returns-clause-stack c =
    subst IsStack (sym (pushed c))
    (frames-push 0 c.args.frames.now.items (frame c) c.requires.stack
    (new_frame c.args.machine.now c.show_machine.ensures.machine c.is_empty.result c.of-asked.result
    c.args.undefined (0 + length c.args.frames.now.items) c.of-asked.ensures c.requires.undefined
    (let room = c.requires.room in omega (arith, room))))
