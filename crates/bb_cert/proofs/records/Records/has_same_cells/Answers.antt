use Rattle.std.proofs.Common.{w64, rules, FitsSigned}
use Rattle.std.proofs.lemmas.Int.{to_z-of_z}
use Rattle.bb_cert.proofs.record_lemmas.Stretches.{IsCompared, are_narrow, compared, lesser_narrow}
use Rattle.bb_cert.proofs.records.Records.has_same_cells.Goals as goal
use Rattle.bb_cert.proofs.records.Records.has_same_cells.Given as given

pub moved-run_from-requires : goal.moved-run_from-requires
moved-run_from-requires g c =
    let n = are_narrow (g.met.T.Tape.sound c.args.saved.now) (g.met.T.Tape.sound c.args.run.now)
    c.requires.comparable in
    let nearest_fits : FitsSigned w64 c.args.self.now.nearest = search rules in
    let kept_fits : FitsSigned w64 c.position-kept.result = search rules in
    let here_fits : FitsSigned w64 c.position.result = search rules in
    let from_fits : FitsSigned w64 c.min-from.result = search rules in
    let from = rw c.position-kept.ensures at (simp to_z-of_z at c.min-from.ensures.value) in
    record {
      position = simp to_z-of_z (rw from (lesser_narrow _ _ n.nearest n.kept));
      from = simp to_z-of_z (rw c.position-kept.ensures n.kept);
      to = simp to_z-of_z (rw c.position.ensures n.head);
    }

pub length_of-length-requires : goal.length_of-length-requires
length_of-length-requires g c =
    let n = are_narrow (g.met.T.Tape.sound c.args.saved.now) (g.met.T.Tape.sound c.args.run.now)
    c.requires.comparable in
    let nearest_fits : FitsSigned w64 c.args.self.now.nearest = search rules in
    let kept_fits : FitsSigned w64 c.position-kept.result = search rules in
    record {
      from = simp to_z-of_z n.nearest;
      to = simp to_z-of_z (rw c.position-kept.ensures n.kept);
    }

both : (g : given.Over) (c : goal.After-length_of-length g)
    → IsCompared c.args.self.now c.args.runner.now (g.T.Tape.view c.args.saved.now)
    (g.T.Tape.view c.args.run.now) c.min-from.result c.moved-run_from.result c.length_of-length.result
both g c =
    let nearest_fits : FitsSigned w64 c.args.self.now.nearest = search rules in
    let kept_fits : FitsSigned w64 c.position-kept.result = search rules in
    let here_fits : FitsSigned w64 c.position.result = search rules in
    let from_fits : FitsSigned w64 c.min-from.result = search rules in
    let run_from_fits : FitsSigned w64 c.moved-run_from.result = search rules in
    let from = rw c.position-kept.ensures at (simp to_z-of_z at c.min-from.ensures.value) in
    let run_from = rw (c.position-kept.ensures, c.position.ensures) at
    (simp to_z-of_z at c.moved-run_from.ensures) in
    let long = rw c.position-kept.ensures at (simp to_z-of_z at c.length_of-length.ensures) in
    compared c.requires.comparable c.requires.far from run_from long

pub agrees-requires : goal.agrees-requires
agrees-requires g c =
    let from_fits : FitsSigned w64 c.min-from.result = search rules in
    let run_from_fits : FitsSigned w64 c.moved-run_from.result = search rules in
    let is = both g c in
    record { here = simp to_z-of_z is.here; there = simp to_z-of_z is.there }

pub returns : goal.returns
returns g c =
    let from_fits : FitsSigned w64 c.min-from.result = search rules in
    let run_from_fits : FitsSigned w64 c.moved-run_from.result = search rules in
    let agree = simp to_z-of_z at c.agrees.ensures in (
      λ yes. (both g c.before).same.0 (agree.0 yes),
      λ same. agree.1 ((both g c.before).same.1 same),
    )
