use Rattle.std.proofs.Common.{◌≡◌, ℕ, length, get_or, subst, ap, sym, ◌∙◌}
use Rattle.bb_tape.specs.Content.{blank}
use Rattle.bb_tape.specs.Ring.{IsClear, ring_content}
use Rattle.bb_tape.proofs.Sound.{sound_blank}
use Rattle.bb_tape.proofs.RingSteps.{all_clear, clear_zeroes, ring_blank, written_back}
use Rattle.bb_tape.proofs.ring.RingTapeTape.reset.Goals as goal
use Rattle.bb_tape.proofs.ring.RingTapeTape.reset.Goals.{After-new-self}

are_clear : (c : After-new-self) (k : ℕ) → get_or c.clear_ends.new.cells k 0 ≡ 0
are_clear c =
    let a = c.args.self.now in
    all_clear a.cells.items c.clear_ends.new.cells a.window c.upper.result c.lower_at.result a.clear
    c.upper.ensures c.lower_at.ensures c.clear_ends.ensures.front c.clear_ends.ensures.back
    (λ k low high. c.clear_ends.ensures.between k low high
    ∙ ap (λ xs. get_or xs k 0) c.as_mut_slice.ensures.value)

is_blank : (c : After-new-self) → ring_content c.clear_ends.new.cells c.new-self.result ≡ blank
is_blank c = ring_blank _ c.new-self.result c.new-self.ensures.low c.new-self.ensures.high (are_clear c 0)

pub invariant_of-self : goal.invariant_of-self
invariant_of-self c =
    let a = c.args.self.now in
    let v = c.new-self.result in
    let written = written_back a.cells.items (c.clear_ends.ensures.length ∙ c.as_mut_slice.ensures.len) in
    record {
      whole = ap length written ∙ c.clear_ends.ensures.length ∙ ap length c.as_mut_slice.ensures.value
          ∙ a.whole ∙ sym c.new-self.ensures.limit;
      clear = subst (λ xs. IsClear xs v) (sym written) (clear_zeroes _ v (λ k _. are_clear c k));
      sound = rw (written, is_blank c) (sound_blank v);
    }

pub returns : goal.returns
returns c =
    let a = c.args.self.now in
    let written = written_back a.cells.items (c.clear_ends.ensures.length ∙ c.as_mut_slice.ensures.len) in
    let e = ap (λ xs. ring_content xs c.new-self.result) written
    ∙ is_blank (goal.at.returns c).After-new-self in
    let low = c.new-self.ensures.low in
    let high = c.new-self.ensures.high in
    let limit = c.new-self.ensures.limit in
    cc
