use Rattle.std.proofs.Common.{w64}
use Rattle.std.proofs.lemmas.Int.{to_z-of_z}
use Rattle.bb_tape.proofs.WiderWindows.{low_fits}
use Rattle.bb_tape.proofs.map.MapTapeTape.low.Goals as goal

pub returns : goal.returns
returns g c = to_z-of_z w64 _ (low_fits c.args.self.now.window.valid)
