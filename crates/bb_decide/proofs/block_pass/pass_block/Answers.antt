use Rattle.std.proofs.Common.{◌∙◌, FitsSigned, ap, arith, of_z, subst, sym, to_z, w64}
use Rattle.std.proofs.lemmas.Int.{to_z-of_z}
use Rattle.bb_cert.specs.records.Follow.{passed}
use Rattle.bb_decide.proofs.BlockPasses.{begin_block, bit_position, cell_fits, changes, leave_block, sprint_in_block, sprint_more}
use Rattle.bb_decide.proofs.block_pass.pass_block.Goals as goal

pub put-requires-clause-run : goal.put-requires-clause-run
put-requires-clause-run g c =
    let can = c.requires.can in
    let taken = c.take-run.ensures in
    (sprint_in_block c.show_machine.ensures.machine c.requires.table.is c.barrier_of-barrier.ensures
    (begin_block can.way taken.run taken.steps can.right_passed can.left_passed) c.go_on-end.ensures).run

pub overflow_add-from : goal.overflow_add-from
overflow_add-from g c = cell_fits c.take-run.ensures.run 32 (omega arith)

pub overflow_add-from-2 : goal.overflow_add-from-2
overflow_add-from-2 g c =
    let can = c.requires.can in
    let taken = c.take-run.ensures in
    let end = sprint_in_block c.show_machine.ensures.machine c.requires.table.is c.barrier_of-barrier.ensures
    (begin_block can.way taken.run taken.steps can.right_passed can.left_passed) c.go_on-end.ensures in
    subst (FitsSigned w64)
    (sym (bit_position taken.run end.least end.least_small c.position_of_bit.result
    (c.position_of_bit.ensures.is end.least end.least_small end.least_is)))
    (cell_fits taken.run end.least end.least_small)

pub overflow_add-from-3 : goal.overflow_add-from-3
overflow_add-from-3 g c = cell_fits c.take-run.ensures.run 32 (omega arith)

pub overflow_add-from-4 : goal.overflow_add-from-4
overflow_add-from-4 g c =
    let can = c.requires.can in
    let taken = c.take-run.ensures in
    let end = sprint_in_block c.show_machine.ensures.machine c.requires.table.is c.barrier_of-barrier.ensures
    (begin_block can.way taken.run taken.steps can.right_passed can.left_passed) c.go_on-end.ensures in
    subst (FitsSigned w64)
    (sym (bit_position taken.run end.greatest end.greatest_small c.position_of_bit-2.result
    (c.position_of_bit-2.ensures.is end.greatest end.greatest_small end.greatest_is)))
    (cell_fits taken.run end.greatest end.greatest_small)

pub returns-clause-pass : goal.returns-clause-pass
returns-clause-pass g c right left way =
    let can = c.requires.can in
    let taken = c.take-run.ensures in
    let end = sprint_in_block c.show_machine.ensures.machine c.requires.table.is c.barrier_of-barrier.ensures
    (begin_block way taken.run taken.steps can.right_passed can.left_passed) c.go_on-end.ensures in
    let least = ap (λ p. to_z w64 (of_z w64 p)) (bit_position taken.run end.least end.least_small c.position_of_bit.result
    (c.position_of_bit.ensures.is end.least end.least_small end.least_is))
    ∙ to_z-of_z w64 _ (cell_fits taken.run end.least end.least_small) in
    let greatest = ap (λ p. to_z w64 (of_z w64 p)) (bit_position taken.run end.greatest end.greatest_small c.position_of_bit-2.result
    (c.position_of_bit-2.ensures.is end.greatest end.greatest_small end.greatest_is))
    ∙ to_z-of_z w64 _ (cell_fits taken.run end.greatest end.greatest_small) in
    leave_block end c.put.ensures.stands c.put.ensures.steps
    (c.pass.ensures ∙ ap (passed c.args.begun.right) least)
    (c.pass-2.ensures ∙ ap (passed c.args.begun.left) greatest)
    (c.fingerprint_of_block-pass.ensures _ _ way.single_pass.current_is
    (changes taken.run end.run way.search.stands taken.steps c.put.ensures.stands c.put.ensures.steps))

pub returns-clause-more : goal.returns-clause-more
returns-clause-more g c =
    omega (arith, sprint_more c.go_on-end.ensures, c.take-run.ensures.steps, c.put.ensures.steps)
