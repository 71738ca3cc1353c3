use Rattle.std.proofs.Common.{◌≡◌, ◌++◌, ◌∷◌, [], ◌+◌, ◌-◌, ◌*◌, ◌≤◌, ◌<◌, ℕ, List, get_or, drop, length}
use Rattle.std.proofs.Common.{ap, sym, ◌∙◌, arith, rules}
use Rattle.std.proofs.Math.Nat.{mul-le-mul}
use Rattle.bb_machine.specs.Machine.{group_text}
use Rattle.bb_machine.proofs.Checked.{bar_there, group_there, groups_grow, stands_by, begins_by}
use Rattle.bb_machine.proofs.Checked.{first_by, rest_by, group_first, group_later}
use Rattle.bb_machine.proofs.machine.reader.is_table_by_entries.Goals as goal
use Rattle.bb_machine.proofs.machine.reader.is_table_by_entries.Goals.{then-row-gt0+else-rest-ne95, else-row-gt0}

pub returns-then-rest-ne95 : goal.returns-then-rest-ne95
returns-then-rest-ne95 c = (
  λ is_so. absurd (search rules),
  λ t. let bar =
      bar_there c.args.states c.args.symbols c.args.line.now t.0 t.1 t.2 c.loop-row.row c.loop-row-test.true
      c.if-row-gt0.true in
      let at : ℕ = c.loop-row.row * (3 * c.args.symbols + 1) - 1 in
      let first = first_by c.args.line.now c.loop-row.rest.now at c.loop-row.invariant.rest in
      absurd (c.if-rest-ne95.true (first ∙ bar)),
)

pub returns-then-not-is_group : goal.returns-then-not-is_group
returns-then-not-is_group c =
    let line : List ℕ = c.args.line.now in
    let width : ℕ = 3 * c.args.symbols + 1 in
    let is : c.if-row-gt0.rest.now ≡ drop (c.loop-row.row * width) line =
    elim c.if-row-gt0.branch [
      | then-row-gt0+else-rest-ne95 w ↦
          group_later line c.loop-row.rest.now c.if-row-gt0.rest.now c.loop-row.row width
          c.loop-row.invariant.rest w.if-row-gt0.true (omega arith) (ap (λ b. b.now) w.rest-is)
      | else-row-gt0 w ↦
          group_first line c.loop-row.rest.now c.if-row-gt0.rest.now c.loop-row.row width
          c.loop-row.invariant.rest w.if-row-gt0.false (ap (λ b. b.now) w.rest-is)
    ] in (
      λ is_so. absurd (search rules),
      λ t. let g =
          group_there c.args.states c.args.symbols line t.0 t.1 t.2 c.loop-row.row c.loop-row-test.true in
          let begins =
          begins_by line c.if-row-gt0.rest.now (c.loop-row.row * width) is (group_text g.0) g.2 in
          let no = c.is_group.ensures.1 (g.0, g.1, begins) in
          absurd (search rules),
    )

pub loop-row-preserved : goal.loop-row-preserved
loop-row-preserved c =
    let line : List ℕ = c.args.line.now in
    let row : ℕ = c.loop-row.row in
    let width : ℕ = 3 * c.args.symbols + 1 in
    let is : c.if-row-gt0.rest.now ≡ drop (row * width) line =
    elim c.if-row-gt0.branch [
      | then-row-gt0+else-rest-ne95 w ↦
          group_later line c.loop-row.rest.now c.if-row-gt0.rest.now row width
          c.loop-row.invariant.rest w.if-row-gt0.true (omega arith) (ap (λ b. b.now) w.rest-is)
      | else-row-gt0 w ↦
          group_first line c.loop-row.rest.now c.if-row-gt0.rest.now row width
          c.loop-row.invariant.rest w.if-row-gt0.false (ap (λ b. b.now) w.rest-is)
    ] in
    let bar : 0 < row → get_or line (row * width - 1) 0 ≡ 95 =
    λ later. elim c.if-row-gt0.branch [
      | then-row-gt0+else-rest-ne95 w ↦
          sym (first_by line c.loop-row.rest.now (row * width - 1) c.loop-row.invariant.rest)
          ∙ w.if-rest-ne95.false
      | else-row-gt0 w ↦ absurd (omega (arith, later, w.if-row-gt0.false))
    ] in
    let so_far = c.loop-row.invariant.groups in
    let g = c.is_group.ensures.0 (search rules) in
    let ends : (row + 1) * width ≤ c.args.states * width =
    mul-le-mul (omega (arith, c.loop-row-test.true)) (omega arith) in
    let inside : row * width ≤ length line = omega (arith, ends, c.requires.length) in
    let next : row * width + 3 * c.args.symbols ≡ (row + 1) * width - 1 = omega arith in
    record {
      groups = (
        so_far.0 ++ g.0 ∷ [],
        groups_grow c.args.states c.args.symbols row line so_far.0 g.0 so_far.1 g.1
            (stands_by line c.if-row-gt0.rest.now (row * width) is (group_text g.0) g.2) inside bar,
      );
      rest = rest_by line c.if-row-gt0.rest.now (row * width) is (3 * c.args.symbols)
          ∙ ap (λ n. drop n line) next;
    }
