use Rattle.std.proofs.Common.{◌≡◌, ◌*◌, ◌+◌, arith, ◌∙◌, take, count_by}
use Rattle.bb_tape.proofs.Slices.{count_more, count_small, nonzero}
use Rattle.bb_tape.proofs.kernels.count_by_lanes.Goals as goal

pub overflow_add-count : goal.overflow_add-count
overflow_add-count c =
    let n = c.loop-i.i * 32 in
    let next : n + 32 ≡ n + 32 = λ _. n + 32 in
    let sum : c.loop-i.count + c.count_lanes-count.result ≡ count_by nonzero (take (n + 32) c.args.a.now) =
    (λ i. c.loop-i.invariant i + c.count_lanes-count.ensures i) ∙ count_more c.args.a.now n (n + 32) next in
    let most = count_small (n + 32) c.args.a.now (omega (arith, c.requires.within, c.loop-i-test.true)) in
    record { fits = omega (arith, sum, most, c.requires.within, c.requires.fits, c.loop-i-test.true) }

pub loop-i-preserved : goal.loop-i-preserved
loop-i-preserved c = (λ i. c.loop-i.invariant i + c.count_lanes-count.ensures i)
    ∙ count_more c.args.a.now (c.loop-i.i * 32) _ (omega arith)
