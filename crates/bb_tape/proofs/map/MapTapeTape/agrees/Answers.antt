use Rattle.std.proofs.Common.{◌<◌, ◌∙◌, sym, arith, refl, w64, below_more, below_none}
use Rattle.std.proofs.lemmas.Int.{to_z-of_z}
use Rattle.bb_tape.specs.Entries.{content_of}
use Rattle.bb_tape.specs.Windowed.{view_of}
use Rattle.bb_tape.proofs.Sound.{stretch_begins}
use Rattle.bb_tape.proofs.map.MapTapeTape.agrees.Goals as goal

pub symbol_after-requires-clause-begins : goal.symbol_after-requires-clause-begins
symbol_after-requires-clause-begins g c =
    let a = c.args.self.now in
    rw (to_z-of_z w64 _ c.ranges.from)
    (stretch_begins (view_of (content_of a.cells.entries) a.window) c.args.from c.args.len c.loop-k.k
    c.requires.here c.loop-k-test.true)

pub symbol_after-requires-in-loop-k-clause-begins :
    goal.symbol_after-requires-in-loop-k-clause-begins
symbol_after-requires-in-loop-k-clause-begins g c =
    let b = c.args.other.now in
    rw (to_z-of_z w64 _ c.ranges.other_from)
    (stretch_begins (view_of (content_of b.cells.entries) b.window) c.args.other_from c.args.len c.loop-k.k
    c.requires.there c.loop-k-test.true)

pub loop-k-preserved : goal.loop-k-preserved
loop-k-preserved g c =
    below_more _ _ c.loop-k.invariant (sym c.symbol_after.ensures ∙ c.if-symbol_after.false
    ∙ c.symbol_after-in-loop-k.ensures)

pub returns : goal.returns
returns g c = (
  λ _ k within.
      let done : k < c.loop-k.k = omega (arith, c.loop-k-test.false, within) in
      rw (to_z-of_z w64 _ c.ranges.from, to_z-of_z w64 _ c.ranges.other_from) at (c.loop-k.invariant k done),
  λ _. refl,
)

pub loop-k-init : goal.loop-k-init
loop-k-init g c = below_none _
