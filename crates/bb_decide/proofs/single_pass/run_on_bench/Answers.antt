use Rattle.bb_decide.proofs.single_pass.run_on_bench.Goals as goal

pub continue_with-requires-clause-begun : goal.continue_with-requires-clause-begun
continue_with-requires-clause-begun g c =
    c.start-begun.ensures.begun (g.K.FingerprintKeys.key_of c.args.keys.now) c.args.limits.now _ _
