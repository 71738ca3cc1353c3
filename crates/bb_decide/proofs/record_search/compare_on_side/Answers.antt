use Rattle.std.proofs.Common.{◌≡◌, Ok, ◌∙◌, subst, sym}
use Rattle.bb_cert.specs.declared.records.Records.{Records}
use Rattle.bb_decide.specs.inside.Follow.{ComparesOnSide}
use Rattle.bb_decide.proofs.record_search.compare_on_side.Goals as goal

-- records that were looked at, whose side stays
same_records : (old new : Records) → new.side ≡ old.side
    → new ≡ record old { kept = new.kept; nearest = new.nearest }
same_records old new side = λ i. record new { side = side i }

pub returns : goal.returns
returns g c =
    let same = same_records c.args.records.now c.compare_and_keep.new.records
    c.compare_and_keep.ensures.side in
    subst (λ r. ComparesOnSide g.T.Tape.GROWS c.args.records.now c.args.runner.now
    (g.T.Tape.view c.args.run.now) (g.T.Tape.view c.args.saved.now) r
    (g.T.Tape.view c.compare_and_keep.new.saved) c.args.meter.now c.compare_and_keep.new.meter
    (Ok c.in_ok-found.found))
    (same ∙ sym c.copy_kept.ensures) c.in_ok-found.ensures
