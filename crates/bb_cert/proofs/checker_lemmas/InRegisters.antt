-- The run of a claim in registers.
use Rattle.std.proofs.Common.{◌≡◌, ℕ, ◌+◌, ◌*◌, ◌^◌, ◌<◌, ◌≤◌, inl, inr, Option, ap, sym, subst, ◌∙◌}
use Rattle.std.proofs.Common.{arith, refl, w64, Bool, true, false, bit_and}
use Rattle.std.specs.Prelude.{◌≢◌, ◌↔◌, IsTrue}
use Rattle.std.specs.Int.{bit_at, from_bool, trailing_zeros}
use Rattle.std.proofs.lemmas.Bool.{cases_eq}
use Rattle.std.proofs.lemmas.Int.{ints}
use Rattle.std.proofs.lemmas.Nat.{pow_pos}
use Rattle.std.proofs.lemmas.Nat.Bits.{and_pow, bit_at-lt, bit_at-pow_other, bit_at-trailing_zeros}
use Rattle.std.proofs.Math.Nat.{pow-le-pow_right}
use Rattle.bb_machine.specs.declared.entry.Next.TheVariants.{State}
use Rattle.bb_machine.specs.Limits.{Bounds}
use Rattle.bb_machine.specs.Machine.{IsMachine, Table}
use Rattle.bb_tape.specs.Content.{Content, cell}
use Rattle.bb_tape.specs.TapeView.{TapeView}
use Rattle.bb_sim.specs.declared.runner.Runner.{Runner}
use Rattle.bb_sim.specs.declared.simulation.Outcome.{Outcome}
use Rattle.bb_sim.specs.declared.simulation.Outcome.TheVariants.{Halt, NoCells, NoSteps}
use Rattle.bb_sim.specs.Run.{HaltsAt}
use Rattle.bb_sim.specs.Runner.{Stands, position_of, steps_of}
use Rattle.bb_sim.specs.Span.{Inside, span}
use Rattle.bb_sim.proofs.Facts.{fits_at_halt, inside_here, next_inside, span_grows}
use Rattle.bb_registers.specs.declared.registers.Registers.{Registers}
use Rattle.bb_registers.specs.declared.run.RegisterRun.{RegisterRun}
use Rattle.bb_registers.specs.BitCells.{bits_content}
use Rattle.bb_registers.specs.Registers.{EndsWith, IsRegisterRun, IsSameConfiguration, MatchesRunner}
use Rattle.bb_registers.proofs.Facts.{at_bit, bits_unique, by_bit, cell-in_word}
use Rattle.bb_cert.specs.declared.records.Records.{Records}
use Rattle.bb_cert.specs.declared.verdict.Extent.{Extent}
use Rattle.bb_cert.specs.declared.verdict.Side.{Side}
use Rattle.bb_cert.specs.declared.verdict.Verdict.TheVariants.{Cycler, Translated}
use Rattle.bb_cert.specs.claims.Claim.{Claim}
use Rattle.bb_cert.specs.inside.RegisterChecks.{AnswersPairs, answer_of}
use Rattle.bb_cert.specs.records.Follow.{HasSameCells}
use Rattle.bb_cert.proofs.claim_lemmas.Claims.{claims_never_halt}
use Rattle.bb_cert.proofs.claim_lemmas.Standing.{AreAlike}

is_one : (reads : Bool) → IsTrue reads → from_bool reads ≡ 1
is_one true is = refl
is_one false is = absurd (let no : false ≡ true = is in cc)

is_zero : (reads : Bool) → (IsTrue reads → ⊥) → from_bool reads ≡ 0
is_zero true isnt = absurd (isnt refl)
is_zero false isnt = refl

module _ {table : Table} {bounds : Bounds} {run : RegisterRun} (known : IsRegisterRun table bounds run) where
  -- the cell under the head is a bit
  bit_is : cell known.view.content (position_of known.runner) ≡ bit_at run.registers.bits known.at.place
  bit_is = ap (λ c. cell c (position_of known.runner)) known.at.content
      ∙ ap (cell (bits_content run.registers.bits)) known.at.position
      ∙ cell-in_word run.registers.bits known.at.place known.at.within

  -- the test of the head's bit tells it
  pub symbol_is : (reads : Bool) → IsTrue reads ↔ (bit_and run.registers.bits run.registers.head ≢ 0)
      → from_bool reads ≡ cell known.view.content (position_of known.runner)
  symbol_is reads test =
      let bit = bit_at run.registers.bits known.at.place in
      let tested : bit_and run.registers.bits run.registers.head ≡ bit * 2 ^ known.at.place =
      ap (bit_and run.registers.bits) known.at.head ∙ and_pow run.registers.bits known.at.place in
      elim (by_bit bit (bit_at-lt run.registers.bits known.at.place)) [
        | inl none ↦
            let empty : bit_and run.registers.bits run.registers.head ≡ 0 =
            tested ∙ ap (λ b. b * 2 ^ known.at.place) none ∙ omega arith in
            is_zero reads (λ one. test.0 one empty) ∙ sym none ∙ sym bit_is
        | inr set ↦
            is_one reads (test.1 (λ empty.
            let whole : bit_and run.registers.bits run.registers.head ≡ 2 ^ known.at.place =
            tested ∙ ap (λ b. b * 2 ^ known.at.place) set ∙ omega arith in
            omega (arith, whole, empty, pow_pos known.at.place))) ∙ sym set ∙ sym bit_is
      ]

  -- it is inside the bounds
  pub inside_in_registers : {runner : Runner} → Stands table runner known.view → steps_of runner ≡ run.steps
      → Inside table bounds (steps_of runner)
  inside_in_registers {runner} stands at = inside_here table runner known.view bounds stands known.sound known.limit
      (omega (arith, at, known.few))

  -- it doesn't end by the steps before their limit
  not_by_steps : EndsWith known NoSteps → run.steps < bounds.steps → ⊥
  not_by_steps end before =
      let n = steps_of end.runner in
      let at : run.steps ≡ n = end.made in
      let fits : span table (n + 1) ≤ bounds.cells =
      omega (arith, span_grows table (n + 1) bounds.steps (omega (arith, at, before)), end.is_outcome.1) in
      let next = next_inside table bounds n end.last.inside
      (λ halts. end.is_outcome.0 n (record { halts = halts; inside = end.last.inside }))
      (λ same. omega (arith, at, before, same)) fits in
      omega (arith, end.last.greatest (n + 1) next)

  module _ (machine : IsMachine table) (n : ℕ) (halts : HaltsAt table n) where
    no_cycler : (first : ℕ) → Claim table (Cycler first bounds.steps) → ⊥
    no_cycler first claim = (claims_never_halt table (Cycler first bounds.steps) machine tt claim).never n halts

    no_translated : (side : Side) (first : ℕ) (extent : Option Extent)
        → Claim table (Translated side first bounds.steps extent) → ⊥
    no_translated side first extent claim =
        (claims_never_halt table (Translated side first bounds.steps extent) machine tt claim).never n halts

  -- what its end answers to claims of pairs
  pub answered : IsMachine table → (outcome : Outcome) → EndsWith known outcome → run.steps < bounds.steps
      → AnswersPairs table bounds (answer_of outcome)
  answered machine (Halt n ones) end before =
      let is = end.is_outcome.0 in (
        fits_at_halt table bounds n is.inside is.halts,
        no_cycler machine n is.halts,
        no_translated machine n is.halts,
      )
  answered machine NoSteps end before = absurd (not_by_steps end before)
  answered machine NoCells end before = end.is_outcome.1

-- the same powers of two have the same places
pub place_is : (k : ℕ) → k < 64 → trailing_zeros w64 (2 ^ k) ≡ k
place_is k h =
    let least : 2 ^ k ≤ 2 ^ 63 = pow-le-pow_right {n = 2} (omega arith) {i = k} {j = 63} (omega (arith, h)) in
    let t = bit_at-trailing_zeros w64 (2 ^ k) (pow_pos k) (omega (arith, least)) in
    elim (cases_eq (trailing_zeros w64 (2 ^ k)) k) [
      | inl is ↦ is
      | inr apart ↦ absurd (omega (arith, t.1, bit_at-pow_other k (trailing_zeros w64 (2 ^ k)) apart))
    ]

same_bit : (a b : ℕ) → a < 64 → b < 64 → 2 ^ a ≡ 2 ^ b → a ≡ b
same_bit a b p q e = sym (place_is a p) ∙ ap (λ n. trailing_zeros w64 n) e ∙ place_is b q

same_nines : (s t : ℕ) → 9 * s ≡ 9 * t → s ≡ t
same_nines s t e = omega (arith, e)

-- registers are the same just where the configurations are
pub same_registers : {a b : Registers} {one other : Runner} {view_one view_other : TapeView} → MatchesRunner a one view_one
    → MatchesRunner b other view_other → a.bits < 2 ^ 64 → b.bits < 2 ^ 64
    → IsSameConfiguration a b ↔ AreAlike one view_one other view_other
same_registers {a} {b} at there p q = (
  λ same.
      let places = same_bit at.place there.place at.within there.within (sym at.head ∙ same.1 ∙ there.head) in
      let states = same_nines at.state there.state (sym at.entry ∙ same.2 ∙ there.entry) in (
        at.state_is ∙ ap State states ∙ sym there.state_is,
        at.position ∙ ap at_bit places ∙ sym there.position,
        at.content ∙ ap bits_content same.0 ∙ sym there.content,
      ),
  λ alike.
      let one = at.state_is in
      let two = there.state_is in
      let named : State at.state ≡ State there.state = sym one ∙ alike.0 ∙ two in
      let states : at.state ≡ there.state = cc in
      let positions : at_bit at.place ≡ at_bit there.place = sym at.position ∙ alike.1 ∙ there.position in
      let places : at.place ≡ there.place = omega (arith, ints, positions) in (
        bits_unique a.bits b.bits p q (sym at.content ∙ alike.2 ∙ there.content),
        at.head ∙ ap (λ n. 2 ^ n) places ∙ sym there.head,
        at.entry ∙ ap (λ n. 9 * n) states ∙ sym there.entry,
      ),
)

-- the same cells, told of the same tapes
pub same_cells_of : (records : Records) (runner : Runner) {a b other_a other_b : Content} → a ≡ other_a → b ≡ other_b
    → HasSameCells records runner a b → HasSameCells records runner other_a other_b
same_cells_of records runner {a} {b} {other_a} is_a is_b same =
    subst (λ c. HasSameCells records runner other_a c) is_b (subst (λ c. HasSameCells records runner c b) is_a same)
