use Rattle.std.proofs.Common.{◌≡◌, ◌≢◌, ℕ, ◌<◌, ℤ, ◌∙◌, ◌-ℤ◌, ◌/◌, ◌^◌, pos, ap, bit_and, arith, inl, inr, of_z, refl, sym, to_z, w64}
use Rattle.std.specs.Int.{bit_at}
use Rattle.std.proofs.lemmas.Bool.{cases_eq}
use Rattle.std.proofs.lemmas.Int.{ints}
use Rattle.std.proofs.lemmas.Nat.Bits.{bit_at-lt, shr_and_one}
use Rattle.bb_tape.specs.Content.{Content, cell, with_cell}
use Rattle.bb_tape.specs.TapeView.{IsInside, TapeView, written}
use Rattle.bb_tape.proofs.Facts.{cell-with_cell-other, cell-with_cell-same}
use Rattle.bb_registers.proofs.Bits.{at_bit, bits_are, cell-in_word, cell-outside_word}
use Rattle.bb_registers.proofs.handover.write_bits.Given as given
use Rattle.bb_registers.proofs.handover.write_bits.Goals as goal
use Rattle.bb_registers.proofs.handover.write_bits.Goals.{After-from}

-- the position that is written
there : (g : given.Over) (c : After-from g)
    → to_z w64 (of_z w64 (to_z w64 (of_z w64 c.from.result) -ℤ pos 32)) ≡ at_bit c.loop-place.place
there g c = omega (arith, ints, c.from.ensures, c.loop-place-test.true)

pub loop-place-init : goal.loop-place-init
loop-place-init g c = record {
  few = omega arith;
  window = refl;
  passed = λ i h. absurd (omega (arith, h));
  ahead = λ i from h. ap (λ s. cell s (at_bit i)) c.requires.content ∙ cell-in_word c.args.old i h;
  beyond = λ p far. ap (λ s. cell s p) c.requires.content ∙ cell-outside_word c.args.old p far;
}

-- the bits of the written cell differ
differs : (g : given.Over) (c : After-from g) → bit_at c.args.old c.loop-place.place ≢ bit_at c.args.bits c.loop-place.place
differs g c same =
    c.if-old-place.false
    (shr_and_one c.args.old c.loop-place.place ∙ same ∙ sym (shr_and_one c.args.bits c.loop-place.place))

-- one of them is set, so the cell is in the window
inside_at_start : (g : given.Over) (c : After-from g) → IsInside (g.T.Tape.view c.args.tape.now) (at_bit c.loop-place.place)
inside_at_start g c =
    let k = c.loop-place.place in
    let small : k < 64 = c.loop-place-test.true in
    elim (cases_eq (bit_at c.args.bits k) 1) [
      | inl set ↦ c.requires.inside k small set
      | inr clear ↦
          let was = ap (λ s. cell s (at_bit k)) c.requires.content ∙ cell-in_word c.args.old k small in
          (g.met.T.Tape.sound c.args.tape.now).nothing_outside (at_bit k)
          (λ none. differs g c (omega (arith, sym was ∙ none, clear, bit_at-lt c.args.bits k)))
    ]

pub write-requires-clause-inside : goal.write-requires-clause-inside
write-requires-clause-inside g c =
    let at = (goal.at.write-requires-clause-inside g c).After-from in
    let inside = inside_at_start g at in
    let w = c.loop-place.invariant.window in (
      rw (ap (λ (s : TapeView). s.low) w, there g at) inside.0,
      rw (ap (λ (s : TapeView). s.high) w, there g at) inside.1,
    )

pub loop-place-preserved-then-old-place : goal.loop-place-preserved-then-old-place
loop-place-preserved-then-old-place g c =
    let here = c.loop-place.invariant in
    let k = c.loop-place.place in
    let same : bit_at c.args.old k ≡ bit_at c.args.bits k =
    sym (shr_and_one c.args.old k) ∙ c.if-old-place.true ∙ shr_and_one c.args.bits k in
    record {
      few = omega (arith, c.loop-place-test.true);
      window = here.window;
      passed = λ i h. elim (cases_eq i k) [
        | inl is ↦ rw is (here.ahead k (omega arith) c.loop-place-test.true ∙ same)
        | inr apart ↦ here.passed i (omega (arith, h, apart))
      ];
      ahead = λ i from h. here.ahead i (omega (arith, from)) h;
      beyond = here.beyond;
    }

-- a view of which the content alone has changed
changed : (new old : TapeView) (content : Content) → new ≡ record old { content = content }
    → new ≡ record old { content = new.content }
changed new old content e =
    e ∙ ap (λ s. record old { content = s }) (sym (ap (λ (s : TapeView). s.content) e))

-- a write leaves the window
same_window : (loop new old : TapeView) (p : ℤ) (v : ℕ) → new ≡ written loop p v
    → loop ≡ record old { content = loop.content } → new ≡ record old { content = new.content }
same_window loop new old p v wrote same =
    changed new old (with_cell loop.content p v) (wrote ∙ ap (λ s. written s p v) same)

pub loop-place-preserved : goal.loop-place-preserved
loop-place-preserved g c =
    let here = c.loop-place.invariant in
    let k = c.loop-place.place in
    let p : ℤ = to_z w64 (of_z w64 (to_z w64 (of_z w64 c.from.result) -ℤ pos 32)) in
    let v : ℕ = bit_and (c.args.bits / 2 ^ k) 1 in
    let old = (g.T.Tape.view c.loop-place.tape).content in
    let at = there g (goal.at.loop-place-preserved g c).After-from in
    let ok = c.in-Ok.ensures.ok in
    let is = ap (λ (s : TapeView). s.content) ok in
    let other : (q : ℤ) → q ≢ at_bit k → cell (g.T.Tape.view c.write.new.self).content q ≡ cell old q =
    λ q apart. ap (λ s. cell s q) is ∙ cell-with_cell-other old p v q (λ e. apart (e ∙ at)) in
    let same : cell (g.T.Tape.view c.write.new.self).content (at_bit k) ≡ bit_at c.args.bits k =
    ap (λ s. cell s (at_bit k)) is ∙ ap (λ q. cell (with_cell old q v) (at_bit k)) at
    ∙ cell-with_cell-same old (at_bit k) v ∙ shr_and_one c.args.bits k in
    record {
      few = omega (arith, c.loop-place-test.true);
      window = same_window _ _ (g.T.Tape.view c.args.tape.now) p v ok here.window;
      passed = λ i h. elim (cases_eq i k) [
        | inl e ↦ rw e same
        | inr apart ↦ other (at_bit i) (λ e. apart (omega (arith, ints, e))) ∙ here.passed i (omega (arith, h, apart))
      ];
      ahead = λ i from h. other (at_bit i) (λ e. absurd (omega (arith, ints, e, from))) ∙ here.ahead i (omega (arith, from)) h;
      beyond = λ p far. other p (λ e. far (omega (arith, ints, e, c.loop-place-test.true), omega (arith, ints, e, c.loop-place-test.true))) ∙ here.beyond p far;
    }

pub returns-clause-ok : goal.returns-clause-ok
returns-clause-ok g c =
    let here = c.loop-place.invariant in
    let content : (g.T.Tape.view c.loop-place.tape).content ≡ _ =
    sym (bits_are c.args.bits (g.T.Tape.view c.loop-place.tape).content
    (λ i h. sym (here.passed i (omega (arith, h, c.loop-place-test.false)))) here.beyond) in
    here.window ∙ ap (λ s. record (g.T.Tape.view c.args.tape.now) { content = s }) content
