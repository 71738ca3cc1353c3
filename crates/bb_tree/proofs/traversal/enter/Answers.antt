use Rattle.std.proofs.Common.{ℕ, ◌+◌, ◌<◌, ◌≤◌, inl, inr, FitsSigned, w64, refl}
use Rattle.std.proofs.Common.{◌≡◌, Err, ap, ◌∙◌, arith, rules}
use Rattle.bb_tape.specs.declared.tape.TapeFault.TheVariants.{Cells}
use Rattle.std.proofs.lemmas.Int.{ints, to_z-of_z}
use Rattle.bb_tree.specs.inside.Walk.{too_deep, too_many}
use Rattle.bb_tree.proofs.Entering.{edge_refused, has_some, room_entered, matched_start}
use Rattle.bb_tree.proofs.Entering.{entered_frame, inside_visited, room_for, room_widened}
use Rattle.bb_tree.proofs.traversal.enter.Goals as goal
use Rattle.bb_tree.proofs.traversal.enter.Goals.{then-most-level-via-then-most-level}
use Rattle.bb_tree.proofs.traversal.enter.Goals.{then-most-level-via-else-most-level+then-most-entered}

pub has_no_end-requires-clause-state : goal.has_no_end-requires-clause-state
has_no_end-requires-clause-state g c =
    let state = c.requires.branch.state in let states = c.requires.states in omega (arith, state, states)

pub returns-then-has_no_end-clause-refused : goal.returns-then-has_no_end-clause-refused
returns-then-has_no_end-clause-refused g c =
    edge_refused (g.T.Tape.view c.args.tape.now) c.requires.branch _ (c.if-has_no_end.ensures refl)

pub unreachable-requires : goal.unreachable-requires
unreachable-requires g c =
    let fits : FitsSigned w64 c.args.branch.position = search rules in
    let full : c.visit.result ≡ Err Cells = c.in_default.is ∙ ap Err c.in_default.ensures.memory in
    room_for (g.T.Tape.view c.args.tape.now) c.args.level c.args.most.levels c.requires.room
    c.if-most-level.false c.requires.branch.not_below c.requires.branch.not_above (to_z-of_z _ _ fits)
    (c.visit.ensures.cells.0 full)

pub write-requires-clause-inside : goal.write-requires-clause-inside
write-requires-clause-inside g c = inside_visited (g.T.Tape.view c.args.tape.now) _ c.in-Ok.ensures.ok

pub returns-in_default-write-clause-room : goal.returns-in_default-write-clause-room
returns-in_default-write-clause-room g c =
    let fits : FitsSigned w64 c.args.branch.position = search rules in
    rw c.in_default-write.ensures.err (room_widened (g.T.Tape.view c.args.tape.now) c.requires.branch
    (to_z-of_z _ _ fits) c.in-Ok.ensures.ok c.requires.room c.if-most-level.false)

pub count_known-nonzero_known-requires-clause-counted : goal.count_known-nonzero_known-requires-clause-counted
count_known-nonzero_known-requires-clause-counted g c = has_some c.requires.branch

pub returns-then-nonzero_known-eq0-clause-refused : goal.returns-then-nonzero_known-eq0-clause-refused
returns-then-nonzero_known-eq0-clause-refused g c =
    let fits : FitsSigned w64 c.args.branch.position = search rules in
    matched_start (g.T.Tape.view c.args.tape.now) c.requires.branch (to_z-of_z _ _ fits) c.in-Ok.ensures.ok
    c.in-Ok-write.ensures.ok c.count_known-nonzero_known.ensures c.if-branch-eq0.true
    c.if-nonzero_known-eq0.true

pub returns-then-nonzero_known-eq0-clause-room : goal.returns-then-nonzero_known-eq0-clause-room
returns-then-nonzero_known-eq0-clause-room g c =
    let fits : FitsSigned w64 c.args.branch.position = search rules in
    room_entered (g.T.Tape.view c.args.tape.now) c.requires.branch (to_z-of_z _ _ fits) c.in-Ok.ensures.ok
    c.in-Ok-write.ensures.ok c.requires.room c.if-most-level.false

pub returns-clause-enters : goal.returns-clause-enters
returns-clause-enters g c =
    let fits : FitsSigned w64 c.args.branch.position = search rules in
    entered_frame (g.T.Tape.view c.args.tape.now) c.requires.branch (to_z-of_z _ _ fits) c.in-Ok.ensures.ok
    c.in-Ok-write.ensures.ok c.count_known-nonzero_known.ensures
    c.range-next.ensures.from c.range-next.ensures.to
    (λ in_a none. elim c.else-branch-eq0.either [ inl both ↦ both.1 none | inr other ↦ other in_a ])

pub returns-clause-room : goal.returns-clause-room
returns-clause-room g c =
    let fits : FitsSigned w64 c.args.branch.position = search rules in
    room_entered (g.T.Tape.view c.args.tape.now) c.requires.branch (to_z-of_z _ _ fits) c.in-Ok.ensures.ok
    c.in-Ok-write.ensures.ok c.requires.room c.if-most-level.false

next_within : (n most : ℕ) → n < most → n + 1 ≤ most
next_within n most less = omega arith

pub overflow_add-entered : goal.overflow_add-entered
overflow_add-entered g c =
    let few = next_within c.args.entered.now.nodes c.args.most.nodes c.if-most-entered.false in omega arith

pub returns-then-nonzero_known-eq0-clause-within : goal.returns-then-nonzero_known-eq0-clause-within
returns-then-nonzero_known-eq0-clause-within g c = omega arith

pub returns-clause-counted : goal.returns-clause-counted
returns-clause-counted g c =
    (c.if-most-level.false, c.if-most-entered.false, rw c.max-entered.ensures refl)

pub returns-clause-within : goal.returns-clause-within
returns-clause-within g c = omega arith

pub returns-then-most-level-clause-refused : goal.returns-then-most-level-clause-refused
returns-then-most-level-clause-refused g c = elim c.then-most-level.branch [
  | then-most-level-via-then-most-level w ↦ too_deep w.if-most-level.true
  | then-most-level-via-else-most-level+then-most-entered w ↦ too_many w.if-most-entered.true
]

pub has_no_end-requires-clause-low : goal.has_no_end-requires-clause-low
has_no_end-requires-clause-low g c =
    omega (arith, ints, c.requires.branch.not_below, c.requires.level)

pub has_no_end-requires-clause-high : goal.has_no_end-requires-clause-high
has_no_end-requires-clause-high g c =
    omega (arith, ints, c.requires.branch.not_above, c.requires.level)

pub overflow_add-branch : goal.overflow_add-branch
overflow_add-branch g c = omega (arith, c.requires.branch.symbol)

pub write-requires-clause-symbol : goal.write-requires-clause-symbol
write-requires-clause-symbol g c = omega (arith, c.requires.branch.symbol)

pub returns-in_default-write-clause-limit : goal.returns-in_default-write-clause-limit
returns-in_default-write-clause-limit g c = rw (c.in_default-write.ensures.err, c.in-Ok.ensures.ok) refl

pub returns-in_default-write-clause-memory : goal.returns-in_default-write-clause-memory
returns-in_default-write-clause-memory g c = c.in_default-write.ensures.only_memory.1

pub overflow_add-level : goal.overflow_add-level
overflow_add-level g c = omega (arith, c.requires.level)

pub count_known-nonzero_known-requires-clause-few : goal.count_known-nonzero_known-requires-clause-few
count_known-nonzero_known-requires-clause-few g c =
    omega (arith, c.requires.branch.few_nonzero, c.requires.level)

pub returns-then-nonzero_known-eq0-clause-limit : goal.returns-then-nonzero_known-eq0-clause-limit
returns-then-nonzero_known-eq0-clause-limit g c = rw (c.in-Ok-write.ensures.ok, c.in-Ok.ensures.ok) refl

pub range-next-requires-clause-state : goal.range-next-requires-clause-state
range-next-requires-clause-state g c = c.requires.branch.state

pub returns-clause-limit : goal.returns-clause-limit
returns-clause-limit g c = rw (c.in-Ok-write.ensures.ok, c.in-Ok.ensures.ok) refl
