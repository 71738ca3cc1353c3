use Rattle.std.proofs.Common.{◌+◌, ◌-◌, ◌*◌, ◌<◌, ℕ, arith, rules, subst}
use Rattle.bb_machine.specs.inside.Places.{HasEntry, HasLink}
use Rattle.bb_machine.proofs.Links.{table_from, first_stand, rows_stand, two_more}
use Rattle.bb_machine.proofs.machine.reader.is_table_by_masks.Goals as goal
use Rattle.bb_machine.proofs.machine.reader.is_table_by_masks.Goals.{then-not-has_first_rows-via-then-not-has_first_rows}
use Rattle.bb_machine.proofs.machine.reader.is_table_by_masks.Goals.{then-not-has_first_rows-via-else-not-has_first_rows+then-not-has_rows_after}

pub returns-then-not-has_first_rows : goal.returns-then-not-has_first_rows
returns-then-not-has_first_rows c = (
  λ is. absurd (search rules),
  λ t. elim c.then-not-has_first_rows.branch [
    | then-not-has_first_rows-via-then-not-has_first_rows w ↦
        (let stand =
        c.has_first_rows.ensures.1
        (first_stand c.args.states c.args.line.now c.requires.length t.0 t.1 t.2 c.requires.three) in
        absurd (search rules))
    | then-not-has_first_rows-via-else-not-has_first_rows+then-not-has_rows_after w ↦
        (let stand =
        w.has_rows_after.ensures.1
        (rows_stand c.args.states c.args.line.now c.requires.length t.0 t.1 t.2 (c.args.states - 3)
        (omega (arith, c.requires.three))) in
        absurd (search rules))
  ],
)

pub loop-pair-init : goal.loop-pair-init
loop-pair-init c =
    let first = c.has_first_rows.ensures.0 (search rules) in
    two_more c.args.states c.args.line.now 0 (λ r none. absurd (omega (arith, none))) first.1 first.2

pub returns-then-not-has_rows_after-2 : goal.returns-then-not-has_rows_after-2
returns-then-not-has_rows_after-2 c = (
  λ is. absurd (search rules),
  λ t. let stand =
      c.has_rows_after-in-loop-pair.ensures.1
      (rows_stand c.args.states c.args.line.now c.requires.length t.0 t.1 t.2 (2 * c.loop-pair.pair)
      (omega (arith, c.loop-pair-test.true))) in
      absurd (search rules),
)

pub loop-pair-preserved : goal.loop-pair-preserved
loop-pair-preserved c r below =
    let more = c.has_rows_after-in-loop-pair.ensures.0 (search rules) in
    two_more c.args.states c.args.line.now (2 * c.loop-pair.pair) c.loop-pair.invariant more.0 more.1 r
    (omega (arith, below))

pub returns : goal.returns
returns c =
    let states : ℕ = c.args.states in
    let first = c.has_first_rows.ensures.0 (search rules) in
    let last = c.has_rows_after.ensures.0 (search rules) in
    let links : (r : ℕ) → r + 1 < states → HasLink states c.args.line.now r =
    λ r inside.
    two_more states c.args.line.now (states - 3)
    (λ q below. c.loop-pair.invariant q (omega (arith, below, c.loop-pair-test.false))) last.0 last.1 r
    (omega (arith, inside, c.requires.three)) in
    let end : HasEntry states c.args.line.now (7 * (states - 1) + 3) =
    subst (HasEntry states c.args.line.now) (omega (arith, c.requires.three)) last.2 in (
      λ is. table_from states c.args.line.now c.requires.length (omega (arith, c.requires.three))
          c.requires.states first.0 links end,
      λ t. search rules,
    )
