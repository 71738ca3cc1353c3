use Rattle.std.proofs.Common.{◌<◌, w64, rules, FitsSigned, arith}
use Rattle.std.proofs.lemmas.Int.{to_z-of_z}
use Rattle.bb_tape.specs.TapeView.{visited}
use Rattle.bb_cert.proofs.record_lemmas.Stretches.{IsCompared, comparable_wider, compared, lesser_narrow, seen_at}
use Rattle.bb_cert.proofs.record_lemmas.Word.{narrow_there, stretch_in_word, within_run}
use Rattle.bb_cert.proofs.records.Records.has_same_bits.Goals as goal

pub moved-there-requires : goal.moved-there-requires
moved-there-requires c =
    let n = narrow_there c.requires in
    let nearest_fits : FitsSigned w64 c.args.self.now.nearest = search rules in
    let kept_fits : FitsSigned w64 c.position-kept.result = search rules in
    let here_fits : FitsSigned w64 c.position.result = search rules in
    let from_fits : FitsSigned w64 c.min-from.result = search rules in
    let from = rw c.position-kept.ensures at (simp to_z-of_z at c.min-from.ensures.value) in
    record {
      position = simp to_z-of_z (rw from (lesser_narrow _ _ n.nearest n.kept));
      from = simp to_z-of_z (rw c.position-kept.ensures n.kept);
      to = simp to_z-of_z (rw c.position.ensures n.head);
    }

pub length_of-length-requires : goal.length_of-length-requires
length_of-length-requires c =
    let n = narrow_there c.requires in
    let nearest_fits : FitsSigned w64 c.args.self.now.nearest = search rules in
    let kept_fits : FitsSigned w64 c.position-kept.result = search rules in
    record {
      from = simp to_z-of_z n.nearest;
      to = simp to_z-of_z (rw c.position-kept.ensures n.kept);
    }

both : (c : goal.After-length_of-length)
    → IsCompared c.args.self.now c.args.runner.now (visited c.requires.saved_view c.args.self.now.nearest)
    c.requires.run_view c.min-from.result c.moved-there.result c.length_of-length.result
both c =
    let nearest_fits : FitsSigned w64 c.args.self.now.nearest = search rules in
    let kept_fits : FitsSigned w64 c.position-kept.result = search rules in
    let here_fits : FitsSigned w64 c.position.result = search rules in
    let from_fits : FitsSigned w64 c.min-from.result = search rules in
    let there_fits : FitsSigned w64 c.moved-there.result = search rules in
    let from = rw c.position-kept.ensures at (simp to_z-of_z at c.min-from.ensures.value) in
    let there = rw (c.position-kept.ensures, c.position.ensures) at
    (simp to_z-of_z at c.moved-there.ensures) in
    let long = rw c.position-kept.ensures at (simp to_z-of_z at c.length_of-length.ensures) in
    compared (comparable_wider c.requires.comparable) (seen_at c.requires.saved_view c.args.self.now.nearest)
    from there long

-- the stretch has a cell
some_cells : (c : goal.After-length_of-length) → 0 < c.length_of-length.result
some_cells c = omega (arith, c.length_of-length.ensures)

pub agrees-requires-clause-some : goal.agrees-requires-clause-some
agrees-requires-clause-some c = some_cells c

pub agrees-requires-clause-here : goal.agrees-requires-clause-here
agrees-requires-clause-here c =
    let from_fits : FitsSigned w64 c.min-from.result = search rules in
    let is = both c in
    let wider = within_run c.requires in
    simp to_z-of_z (stretch_in_word (visited c.requires.saved_view c.args.self.now.nearest) wider.0 wider.1
    c.min-from.result c.length_of-length.result (some_cells c) is.here)

pub agrees-requires-clause-there : goal.agrees-requires-clause-there
agrees-requires-clause-there c =
    let there_fits : FitsSigned w64 c.moved-there.result = search rules in
    let is = both c in
    simp to_z-of_z (stretch_in_word c.requires.run_view c.requires.low_in_word c.requires.high_in_word
    c.moved-there.result c.length_of-length.result (some_cells c) is.there)

pub returns : goal.returns
returns c =
    let from_fits : FitsSigned w64 c.min-from.result = search rules in
    let there_fits : FitsSigned w64 c.moved-there.result = search rules in
    let agree = simp to_z-of_z at c.agrees.ensures in
    let same = rw (c.requires.saved_is, c.requires.run_is) at (both c.before).same in (
      λ yes. same.0 (agree.0 yes),
      λ cells. agree.1 (same.1 cells),
    )
