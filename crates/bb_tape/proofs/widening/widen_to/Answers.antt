use Rattle.std.proofs.Common.{refl}
use Rattle.bb_tape.proofs.AnyPosition.{ends_are, is_small, is_wide, room_low, above, room_high, reached, fits}
use Rattle.bb_tape.proofs.widening.widen_to.Goals as goal

pub widen_down_to-requires-clause-room : goal.widen_down_to-requires-clause-room
widen_down_to-requires-clause-room g c =
    let ends = ends_are (g.met.T.Tape.sound c.args.tape.now) c.ranges.p c.low.ensures c.high.ensures
    c.min-low.ensures.value c.max-high.ensures.value in
    room_low ends (is_small ends c.abs_diff.ensures c.limit.ensures c.if-abs_diff-limit.false)

pub widen_up_to-requires-clause-above : goal.widen_up_to-requires-clause-above
widen_up_to-requires-clause-above g c =
    let ends = ends_are (g.met.T.Tape.sound c.args.tape.now) c.ranges.p c.low.ensures c.high.ensures
    c.min-low.ensures.value c.max-high.ensures.value in
    rw c.widen_down_to.ensures (above ends)

pub widen_up_to-requires-clause-room : goal.widen_up_to-requires-clause-room
widen_up_to-requires-clause-room g c =
    let ends = ends_are (g.met.T.Tape.sound c.args.tape.now) c.ranges.p c.low.ensures c.high.ensures
    c.min-low.ensures.value c.max-high.ensures.value in
    rw c.widen_down_to.ensures
    (room_high ends (is_small ends c.abs_diff.ensures c.limit.ensures c.if-abs_diff-limit.false))

pub returns-clause-ok : goal.returns-clause-ok
returns-clause-ok g c =
    let ends = ends_are (g.met.T.Tape.sound c.args.tape.now) c.ranges.p c.low.ensures c.high.ensures
    c.min-low.ensures.value c.max-high.ensures.value in
    reached ends c.widen_down_to.ensures c.widen_up_to.ensures

pub returns-clause-cells : goal.returns-clause-cells
returns-clause-cells g c =
    let ends = ends_are (g.met.T.Tape.sound c.args.tape.now) c.ranges.p c.low.ensures c.high.ensures
    c.min-low.ensures.value c.max-high.ensures.value in
    let small = is_small ends c.abs_diff.ensures c.limit.ensures c.if-abs_diff-limit.false in
    (λ e. cc, λ wide. absurd (fits ends small wide))

pub returns-then-abs_diff-limit-clause-cells : goal.returns-then-abs_diff-limit-clause-cells
returns-then-abs_diff-limit-clause-cells g c =
    let ends = ends_are (g.met.T.Tape.sound c.args.tape.now) c.ranges.p c.low.ensures c.high.ensures
    c.min-low.ensures.value c.max-high.ensures.value in
    (λ _. is_wide ends c.abs_diff.ensures c.limit.ensures c.if-abs_diff-limit.true, λ _. refl)
