use Rattle.std.proofs.Common.{◌≡◌, ◌∙◌, ◌+ℤ◌, ap, arith, of_z, pos, sym, to_z, w64}
use Rattle.std.proofs.lemmas.Int.{to_z-of_z}
use Rattle.bb_tape.specs.Content.{cell}
use Rattle.bb_tape.proofs.Blocks.{bits_clear, bits_set, position_inside, position_is, rest_set}
use Rattle.bb_tape.proofs.tape.Tape.block.Given as given
use Rattle.bb_tape.proofs.tape.Tape.block.Goals as goal
use Rattle.bb_tape.proofs.tape.Tape.block.Goals.{After-read_inside, then-read_inside-ne0, else-read_inside-ne0}

pub read_inside-requires : goal.read_inside-requires
read_inside-requires g c =
    position_inside (g.met.Self.Tape.sound c.args.self.now) c.requires c.ranges.from c.loop-place-test.true
    c.from.ensures

is_read : (g : given.Over) (c : After-read_inside g) → c.read_inside.result
    ≡ cell (g.Self.Tape.view c.args.self.now).content (to_z w64 (of_z w64 c.args.from) +ℤ pos c.loop-place.place)
is_read g c =
    let sound = g.met.Self.Tape.sound c.args.self.now in
    let is = position_is sound c.requires c.ranges.from c.loop-place-test.true c.from.ensures in
    let same = to_z-of_z w64 _ c.ranges.from in
    c.read_inside.ensures
    ∙ ap (cell (g.Self.Tape.view c.args.self.now).content)
    (is ∙ ap (λ z. z +ℤ pos c.loop-place.place) (sym same))

pub loop-place-preserved : goal.loop-place-preserved
loop-place-preserved g c =
    let here = c.loop-place.invariant in
    let read = is_read g (goal.at.loop-place-preserved g c).After-read_inside in
    let content = (g.Self.Tape.view c.args.self.now).content in
    let from = to_z w64 (of_z w64 c.args.from) in
    let at = c.loop-place.place in
    let few = c.loop-place-test.true in
    elim c.if-read_inside-ne0.branch [
      | then-read_inside-ne0 w ↦ rw w.bits-is (record {
        few = omega arith;
        bits = bits_set content from c.loop-place.bits at few here.bits here.rest
            (λ none. w.if-read_inside-ne0.true (read ∙ none));
        rest = rest_set content from c.loop-place.bits at few here.bits here.rest;
      })
      | else-read_inside-ne0 w ↦ rw w.bits-is (record {
        few = omega arith;
        bits = bits_clear content from c.loop-place.bits at few here.bits here.rest
            (sym read ∙ w.if-read_inside-ne0.false);
        rest = λ k h. here.rest k (omega (arith, h));
      })
    ]
