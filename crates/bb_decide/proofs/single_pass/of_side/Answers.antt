use Rattle.bb_cert.specs.declared.records.Records.{Records}
use Rattle.bb_cert.specs.declared.verdict.Side.{Side}
use Rattle.std.proofs.Common.{◌≡◌, sym}
use Rattle.bb_decide.proofs.single_pass.of_side.Goals as goal

same : (records : Records) (side : Side) → side ≡ records.side
    → record { side = side; kept = records.kept; nearest = records.nearest } ≡ records
same records side is = λ i. record { side = is i; kept = records.kept; nearest = records.nearest }

pub returns : goal.returns
returns c = same c.args.records c.args.side (sym c.requires.side)
