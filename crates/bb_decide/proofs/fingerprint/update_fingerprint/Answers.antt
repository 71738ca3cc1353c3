use Rattle.std.proofs.Common.{arith}
use Rattle.std.proofs.lemmas.Int.{to_z-of_z}
use Rattle.bb_decide.proofs.Fingerprints.{current_written}
use Rattle.bb_decide.proofs.fingerprint.update_fingerprint.Goals as goal

pub returns : goal.returns
returns g c = λ tape is here.
    let key = g.K.FingerprintKeys.key_of c.args.keys.now in
    let fits = c.ranges.position in
    let told = rw (to_z-of_z _ c.args.position fits) at c.key.ensures in
    rw (c.from.ensures, c.from-2.ensures, told)
    (current_written key tape c.args.position c.args.old c.args.new c.args.current c.requires.low c.requires.high
    (let most = c.requires.old in omega (arith, most)) is here)
