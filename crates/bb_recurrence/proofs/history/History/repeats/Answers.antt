use Rattle.std.proofs.Common.{◌+◌, ◌-◌, rules}
use Rattle.std.proofs.lemmas.Bool.Decides.{Decides-eqb}
use Rattle.std.proofs.lemmas.Slice.Eq.{slice_eq-Decides}
use Rattle.std.specs.List.{slice_range}
use Rattle.bb_recurrence.proofs.Histories.{tells_repeats}
use Rattle.bb_recurrence.proofs.history.History.repeats.Goals as goal

pub returns : goal.returns
returns c table recorded =
    let places = c.args.self.now.places in
    let same = slice_eq-Decides Decides-eqb (slice_range places c.args.first (c.args.end - c.args.distance))
    (slice_range places (c.args.first + c.args.distance) c.args.end) _ c.eq.ensures in
    tells_repeats table _ _ _ _ c.requires.order (search rules) recorded _ same.0 same.1
