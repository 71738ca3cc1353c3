use Rattle.std.proofs.Common.{◌≡◌, ◌+◌, ◌<◌, ◌^◌, ◌-ℤ◌, ◌∙◌, ℤ, IsTrue, ap, sym, arith, w64, of_z, to_z}
use Rattle.std.specs.Int.RustNames.{unsigned_abs}
use Rattle.std.proofs.lemmas.Int.{ints}
use Rattle.bb_sim.specs.Runner.{position_of}
use Rattle.bb_decide.specs.inside.RegisterRecords.{CanCompareRecord, KnowsHeads}
use Rattle.bb_decide.proofs.RegisterCells.{small_is}
use Rattle.bb_decide.proofs.RegisterComparing.{compared_and_agrees, compared_and_keeps, compared_and_stays}
use Rattle.bb_decide.proofs.register_records.RegisterRecords.compare.Goals as goal
use Rattle.bb_decide.proofs.register_records.RegisterRecords.compare.Goals.{After-position_of_bit-head}

-- the two heads heads_known there
heads_known : (c : After-position_of_bit-head) → CanCompareRecord c.args.machine.now c.args.limits.now c.args.side c.args.self.now
    c.args.run → KnowsHeads c.args.machine.now c.args.limits.now c.args.side c.args.self.now c.args.run
    (to_z w64 (of_z w64 c.position_of_bit-kept.result)) (to_z w64 (of_z w64 c.position_of_bit-head.result))
heads_known c can =
    let kept = can.keeps.is_run.at in
    let head = can.is_run.at in
    record {
      comparison = can;
      kept_is = small_is _ c.position_of_bit-kept.ensures.low c.position_of_bit-kept.ensures.high
          ∙ c.position_of_bit-kept.ensures.is kept.place kept.within kept.head ∙ sym kept.position
          ∙ ap position_of (sym can.keeps.kept);
      head_is = small_is _ c.position_of_bit-head.ensures.low c.position_of_bit-head.ensures.high
          ∙ c.position_of_bit-head.ensures.is head.place head.within head.head ∙ sym head.position;
    }

pub agrees-requires : goal.agrees-requires
agrees-requires c = heads_known (goal.at.agrees-requires c).After-position_of_bit-head c.requires

pub returns-then-agrees-clause-compared : goal.returns-then-agrees-clause-compared
unfolding heads_known
returns-then-agrees-clause-compared c can =
    let at = heads_known (goal.at.returns-then-agrees-clause-compared c).After-position_of_bit-head can in
    let nearest : to_z w64 (of_z w64 c.position_of_bit.result) ≡ can.records.nearest =
    small_is _ c.position_of_bit.ensures.low c.position_of_bit.ensures.high
    ∙ c.position_of_bit.ensures.is can.keeps.place can.keeps.within can.keeps.nearest ∙ sym can.keeps.nearest_is in
    compared_and_agrees can ((c.agrees.ensures at).0 c.if-agrees.true) _
    (c.abs_diff.ensures ∙ ap (λ (p : ℤ). unsigned_abs (p -ℤ to_z w64 (of_z w64 c.position_of_bit-kept.result))) at.head_is
    ∙ ap (λ (p : ℤ). unsigned_abs (position_of can.is_run.runner -ℤ p)) at.kept_is)
    (ap (λ n. n + 1) (c.abs_diff-then-agrees.ensures
    ∙ ap (λ (p : ℤ). unsigned_abs (p -ℤ to_z w64 (of_z w64 c.position_of_bit.result))) at.kept_is
    ∙ ap (λ (p : ℤ). unsigned_abs (position_of can.records.kept -ℤ p)) nearest))

pub returns-then-unsigned_abs-clause-compared : goal.returns-then-unsigned_abs-clause-compared
unfolding heads_known
returns-then-unsigned_abs-clause-compared c can =
    let at = heads_known (goal.at.returns-then-unsigned_abs-clause-compared c).After-position_of_bit-head can in
    compared_and_stays can c.unsigned_abs.result c.unsigned_abs-2.result
    (c.unsigned_abs.ensures.value ∙ ap unsigned_abs at.head_is)
    (c.unsigned_abs-2.ensures.value ∙ ap unsigned_abs at.kept_is)
    (λ both. let yes : IsTrue c.agrees.result = (c.agrees.ensures at).1 both in let no = c.if-agrees.false in absurd cc)
    c.if-unsigned_abs.true

pub returns-clause-compared : goal.returns-clause-compared
unfolding heads_known
returns-clause-compared c can =
    let at = heads_known (goal.at.returns-clause-compared c).After-position_of_bit-head can in
    compared_and_keeps can c.unsigned_abs.result c.unsigned_abs-2.result
    (c.unsigned_abs.ensures.value ∙ ap unsigned_abs at.head_is)
    (c.unsigned_abs-2.ensures.value ∙ ap unsigned_abs at.kept_is)
    (λ both. let yes : IsTrue c.agrees.result = (c.agrees.ensures at).1 both in let no = c.if-agrees.false in absurd cc)
    (λ less. omega (arith, c.if-unsigned_abs.false, less))

pub returns-then-agrees-clause-numbers : goal.returns-then-agrees-clause-numbers
returns-then-agrees-clause-numbers c =
    let most = c.show_accepted.ensures.accepted.steps in
    let kept = c.requires.keeps.is_run.few in
    let run = c.requires.is_run.few in
    let few : c.abs_diff-then-agrees.result + 1 < 2 ^ 64 = omega (
      arith,
      ints,
      c.abs_diff-then-agrees.ensures,
      c.position_of_bit-kept.ensures.low,
      c.position_of_bit-kept.ensures.high,
      c.position_of_bit.ensures.low,
      c.position_of_bit.ensures.high,
    ) in
    (omega (arith, most, kept), omega (arith, most, run), (c.abs_diff.type_inv, few))
