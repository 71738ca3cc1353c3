use Rattle.std.proofs.Common.{◌≡◌, ◌<◌, length, None, refl, rules}
use Rattle.cover.proofs.AssumedLines.{first_wrong, not_fine}
use Rattle.cover.proofs.assumed.AssumedLinesLineSink.accept_line.Goals as goal

pub returns-in_default-clause-took : goal.returns-in_default-clause-took
returns-in_default-clause-took c =
    let none : c.args.self.now.wrong ≡ None = search rules in
    let some : 0 < length c.args.line.now = search rules in
    first_wrong _ _ _ c.saturating_add-self.ensures none refl (not_fine _ some c.in_default.ensures.none)
