use Rattle.std.proofs.Common.{w64}
use Rattle.std.proofs.lemmas.Int.{to_z-of_z}
use mir.Val.{SFits}
use Rattle.bb_tape.proofs.WiderWindows.{low_fits, high_fits, min_is, max_is}
use Rattle.bb_tape.proofs.WiderWindows.{shared_low_fits, shared_high_fits}
use Rattle.bb_tape.proofs.WiderWindows.{shared_valid}
use Rattle.bb_tape.proofs.window.Window.intersection.Goals as goal

pub invariant_of-result : goal.invariant_of-result
invariant_of-result c =
    let a = c.args.self.now in
    let b = c.args.other.now in
    let el = max_is (low_fits a.valid) (low_fits b.valid) c.max.ensures.value in
    let eh = min_is (high_fits a.valid) (high_fits b.valid) c.min.ensures.value in
    let f : SFits w64 c.max.result =
    shared_low_fits a.low a.high b.low b.high _ _ a.limit b.limit a.valid b.valid el eh in
    let g : SFits w64 c.min.result =
    shared_high_fits a.low a.high b.low b.high _ _ a.limit b.limit a.valid b.valid el eh in
    record {
      valid =
          rw (to_z-of_z w64 _ f, to_z-of_z w64 _ g)
          (shared_valid a.low a.high b.low b.high _ _ a.limit b.limit a.valid b.valid el eh);
    }
