use Rattle.bb_decide.proofs.single_pass.continue_with.Goals as goal

pub returns : goal.returns
returns g c = rw c.copy_of-limits.ensures at c.run_single_pass_inline.ensures
