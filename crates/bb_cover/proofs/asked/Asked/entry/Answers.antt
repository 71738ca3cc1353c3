use Rattle.std.proofs.Common.{arith}
use Rattle.bb_cover.proofs.Asks.{by_index_left, by_index_right, few_writes, few_places, some_width}
use Rattle.bb_cover.proofs.asked.Asked.entry.Goals as goal

pub nonzero_div-write : goal.nonzero_div-write
nonzero_div-write c =
    let a = c.args.self.now in
    let some = some_width a.is_root a.states a.symbols c.args.index c.requires.index in
    let same = c.width-width.ensures in omega (arith, some, same)

pub nonzero_rem-place : goal.nonzero_rem-place
nonzero_rem-place c =
    let a = c.args.self.now in
    let some = some_width a.is_root a.states a.symbols c.args.index c.requires.index in
    let same = c.width-width.ensures in omega (arith, some, same)

pub overflow_cast-write : goal.overflow_cast-write
overflow_cast-write c =
    let a = c.args.self.now in
    rw c.width-width.ensures (
    omega (arith, few_writes a.is_root a.states a.symbols c.args.index c.requires.index, c.requires.symbols))

pub overflow_cast-place : goal.overflow_cast-place
overflow_cast-place c =
    let a = c.args.self.now in
    rw c.width-width.ensures (
    omega (arith, few_places a.is_root a.states a.symbols c.args.index c.requires.index, c.requires.states))

pub returns-then-place-self : goal.returns-then-place-self
returns-then-place-self c =
    let a = c.args.self.now in
    let low = rw c.width-width.ensures at c.if-place-self.true in
    rw c.width-width.ensures (by_index_right a.is_root a.states a.symbols c.args.index c.requires.index low)

pub returns-else-place-self : goal.returns-else-place-self
returns-else-place-self c =
    let a = c.args.self.now in
    let high = rw c.width-width.ensures at c.if-place-self.false in
    rw c.width-width.ensures (by_index_left a.is_root a.states a.symbols c.args.index c.requires.index high)
