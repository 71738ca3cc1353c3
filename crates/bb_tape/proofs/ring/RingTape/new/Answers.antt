use Rattle.std.proofs.Common.{◌≡◌, ◌<◌, ℕ, List, pos, replicate, ap, ◌∙◌, get_or, arith}
use Rattle.std.proofs.lemmas.List.{get_or-replicate}
use Rattle.bb_tape.specs.declared.window.Window.{Window}
use Rattle.bb_tape.specs.Content.{blank}
use Rattle.bb_tape.specs.Ring.{ring_content}
use Rattle.bb_tape.proofs.RingSteps.{clear_zeroes, ring_blank}
use Rattle.bb_tape.proofs.Sound.{sound_blank}
use Rattle.bb_tape.proofs.ring.RingTape.new.Goals as goal

-- a ring of zeroes is blank
is_blank : (cells : List ℕ) (w : Window) (size : ℕ) → cells ≡ replicate size 0 → 0 < size → w.low ≡ pos 0
    → w.high ≡ pos 0 → ring_content cells w ≡ blank
is_blank cells w size zeroes some low high =
    ring_blank cells w low high (ap (λ xs. get_or xs 0 0) zeroes ∙ get_or-replicate size 0 0 0 some)

pub invariant_of-result-clause-sound : goal.invariant_of-result-clause-sound
invariant_of-result-clause-sound c =
    let zeroes = c.in-Ok.ensures.items_if_clones_equal (λ y e. e) in
    let e = is_blank _ c.new.result _ zeroes c.requires.some c.new.ensures.low c.new.ensures.high in
    rw e (sound_blank c.new.result)

pub returns-in-Ok : goal.returns-in-Ok
returns-in-Ok c =
    let zeroes = c.in-Ok.ensures.items_if_clones_equal (λ y e. e) in
    let e = is_blank _ c.new.result _ zeroes c.requires.some c.new.ensures.low c.new.ensures.high in
    cc

pub invariant_of-result-clause-clear : goal.invariant_of-result-clause-clear
invariant_of-result-clause-clear c =
    let zeroes = c.in-Ok.ensures.items_if_clones_equal (λ y e. e) in
    clear_zeroes c.in-Ok.cells.items c.new.result (λ k h.
    let within : k < c.args.s = omega (arith, h, c.new.ensures.limit) in
    ap (λ xs. get_or xs k 0) zeroes ∙ get_or-replicate c.args.s k 0 0 within)
