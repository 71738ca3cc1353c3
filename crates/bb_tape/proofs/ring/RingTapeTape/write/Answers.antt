use Rattle.std.proofs.Common.{◌≡◌, set, ap, sym, subst, ◌∙◌, w64}
use Rattle.std.proofs.lemmas.Int.{to_z-of_z}
use Rattle.bb_tape.specs.Content.{with_cell}
use Rattle.bb_tape.specs.RingIndex.{ring_index}
use Rattle.bb_tape.specs.Ring.{IsClear, ring_content}
use Rattle.bb_tape.proofs.Sound.{sound_written}
use Rattle.bb_tape.proofs.RingSteps.{clear_written, ring_written}
use Rattle.bb_tape.proofs.ring.RingTapeTape.write.Goals as goal
use Rattle.bb_tape.proofs.ring.RingTapeTape.write.Goals.{After-index-at}

is_at : (c : After-index-at) → c.index-at.result ≡ ring_index c.args.self.now.window.limit c.args.p
is_at c =
    c.index-at.ensures.modulo ∙ ap (ring_index c.args.self.now.window.limit) (to_z-of_z w64 _ c.ranges.p)

is_written : (c : After-index-at)
    → ring_content (set c.args.self.now.cells.items c.index-at.result c.args.v) c.args.self.now.window
    ≡ with_cell (ring_content c.args.self.now.cells.items c.args.self.now.window) c.args.p c.args.v
is_written c =
    let a = c.args.self.now in
    ap (λ k. ring_content (set a.cells.items k c.args.v) a.window) (is_at c)
    ∙ ring_written a.cells.items a.window c.args.p c.args.v a.whole c.requires.inside.0 c.requires.inside.1

pub invariant_of-self-clause-sound : goal.invariant_of-self-clause-sound
invariant_of-self-clause-sound c =
    rw (is_written (goal.at.invariant_of-self-clause-sound c).After-index-at)
    (sound_written _ c.args.self.now.window c.args.p c.args.v c.args.self.now.sound c.requires.inside.0
    c.requires.inside.1 c.requires.symbol)

pub returns-clause-ok : goal.returns-clause-ok
returns-clause-ok c = let e = is_written (goal.at.returns-clause-ok c).After-index-at in cc

pub invariant_of-self-clause-clear : goal.invariant_of-self-clause-clear
invariant_of-self-clause-clear c =
    let a = c.args.self.now in
    subst (λ k. IsClear (set a.cells.items k c.args.v) a.window)
    (sym (is_at (goal.at.invariant_of-self-clause-clear c).After-index-at))
    (clear_written a.cells.items a.window c.args.p c.args.v a.clear c.requires.inside.0 c.requires.inside.1)
