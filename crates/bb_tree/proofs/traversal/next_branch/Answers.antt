use Rattle.std.proofs.Common.{◌≡◌, ◌<◌, length, inl, inr, ℤ, pos, negsuc, neg_ℤ, ◌+ℤ◌, ◌≤ℤ◌, FitsSigned}
use Rattle.std.proofs.Common.{to_z, of_z, w64, refl, ◌∙◌, arith, rules}
use Rattle.std.proofs.lemmas.Int.{ints, to_z-of_z}
use Rattle.bb_machine.specs.declared.limits.TheConstants.{MAX_LEVELS}
use Rattle.bb_tree.specs.Tree.{left_cell}
use Rattle.bb_tree.specs.inside.Walk.{starts_of}
use Rattle.bb_tree.specs.inside.Steps.{states_of}
use Rattle.bb_tree.proofs.Shown.{no_rule, undefined_else, skips_undefined, skips_unfit}
use Rattle.bb_tree.proofs.Shown.{first_fitting, branches_none, writes_symbol}
use Rattle.bb_tree.proofs.traversal.next_branch.Goals as goal
use Rattle.bb_tree.proofs.traversal.next_branch.Goals.{After-deref, After-left_cell-position}
use Rattle.bb_tree.proofs.traversal.next_branch.Given as given
use Rattle.bb_tree.proofs.traversal.next_branch.Goals.{then-held-eq0-via-then-held-eq0}
use Rattle.bb_tree.proofs.traversal.next_branch.Goals.{then-held-eq0-via-else-held-eq0+then-held-write}

pub loop-index-init : goal.loop-index-init
loop-index-init g c = refl

pub loop-index-preserved-in_default : goal.loop-index-preserved-in_default
loop-index-preserved-in_default g c = skips_undefined c.deref.ensures.0 _ c.args.frame no_rule
    c.loop-index.auto.index c.loop-index-test.true c.requires.within c.loop-index.invariant
    (undefined_else _ c.in_default.not-Go)

-- positions so near are ones that the code can hold
level_fits : (z : ℤ) → neg_ℤ (pos MAX_LEVELS) ≤ℤ z → z ≤ℤ pos MAX_LEVELS → FitsSigned w64 z
level_fits (pos n) low high = record { sfits = omega (arith, ints) }
level_fits (negsuc n) low high = record { sfits = omega (arith, ints) }

-- where the head was before the move
cell_left : (g : given.Over) (c : After-left_cell-position g)
    → to_z w64 (of_z w64 c.left_cell-position.result) ≡ c.args.frame.position +ℤ left_cell c.in-Go.dir
cell_left g c =
    let fits : FitsSigned w64 c.left_cell-position.result = search rules in
    let fits_frame = level_fits c.args.frame.position c.requires.low c.requires.high in
    to_z-of_z _ _ fits ∙ (simp to_z-of_z at c.left_cell-position.ensures)

pub returns-then-held-eq0 : goal.returns-then-held-eq0
returns-then-held-eq0 g c =
    let at = cell_left g (goal.at.returns-then-held-eq0 g c).After-left_cell-position in
    first_fitting c.deref.ensures.0 _ c.args.frame no_rule c.loop-index.auto.index c.loop-index-test.true
    c.requires.within c.loop-index.invariant c.in-Go.is at c.read-held.ensures c.requires.rules
    (elim c.then-held-eq0.branch [
      | then-held-eq0-via-then-held-eq0 w ↦ inl w.if-held-eq0.true
      | then-held-eq0-via-else-held-eq0+then-held-write w ↦ inr w.if-held-write.true
    ])

pub loop-index-preserved : goal.loop-index-preserved
loop-index-preserved g c =
    let at = cell_left g (goal.at.loop-index-preserved g c).After-left_cell-position in
    skips_unfit c.deref.ensures.0 _ c.args.frame no_rule c.loop-index.auto.index c.loop-index-test.true
    c.requires.within c.loop-index.invariant c.in-Go.is at c.read-held.ensures c.if-held-eq0.false
    c.if-held-write.false

pub returns : goal.returns
returns g c = c.loop-index.invariant
    ∙ branches_none _ _ (record c.args.frame { next = c.loop-index.index }) c.loop-index-test.false

-- the index is one of the list's
index_less : (g : given.Over) (c : After-deref g) → c.loop-index.index < length c.deref.result.now
index_less g c = rw c.deref.ensures.0 (omega (arith, c.loop-index-test.true, c.requires.within))

pub overflow_cast-rule : goal.overflow_cast-rule
overflow_cast-rule g c = omega (arith, index_less g c, c.deref.type_inv.0)

pub offset_bounds-deref-index : goal.offset_bounds-deref-index
offset_bounds-deref-index g c = omega (arith, index_less g c, c.deref.type_inv.1)

pub bounds-deref-index : goal.bounds-deref-index
bounds-deref-index g c = index_less g c

pub loop-index-smaller-in_default : goal.loop-index-smaller-in_default
loop-index-smaller-in_default g c = omega (arith, c.loop-index-test.true)

pub left_cell-position-requires-clause-low : goal.left_cell-position-requires-clause-low
left_cell-position-requires-clause-low g c =
    rw (to_z-of_z w64 _ (level_fits c.args.frame.position c.requires.low c.requires.high)) c.requires.low

pub left_cell-position-requires-clause-high : goal.left_cell-position-requires-clause-high
left_cell-position-requires-clause-high g c =
    rw (to_z-of_z w64 _ (level_fits c.args.frame.position c.requires.low c.requires.high)) c.requires.high

pub overflow_add-write : goal.overflow_add-write
overflow_add-write g c =
    let less : c.loop-index.index < length c.args.rules.now.list.items =
    omega (arith, c.loop-index-test.true, c.requires.within) in
    let states = states_of (starts_of c.args.rules.now) in
    omega (arith, writes_symbol states c.deref.ensures.0 c.requires.rules no_rule less c.in-Go.is)

pub overflow_add-result : goal.overflow_add-result
overflow_add-result g c =
    omega (arith, index_less g (goal.at.overflow_add-result g c).After-deref, c.deref.ensures.1)

pub loop-index-smaller : goal.loop-index-smaller
loop-index-smaller g c = omega (arith, c.loop-index-test.true)
