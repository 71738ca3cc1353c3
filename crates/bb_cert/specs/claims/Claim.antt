-- What a verdict claims of a machine: this project's own. Claims know nothing of how a verdict was found.
use Rattle.std.specs.Prelude.{◌<◌}
use Rattle.bb_machine.specs.Machine.{Table}
use Rattle.bb_sim.specs.Run.{HaltsAt, IsScore}
use Rattle.bb_cert.specs.declared.verdict.Verdict.{Verdict}
use Rattle.bb_cert.specs.declared.verdict.Verdict.TheVariants.{Halt, Cycler, Translated, Backward, Undecided}
use Rattle.bb_cert.specs.records.Agree.{AgreeingRecords}
use Rattle.bb_cert.specs.verdict.Extent.{SaysExtent}
use Rattle.bb_cert.specs.claims.Repeat.{Same}
use Rattle.bb_tree.specs.Tree.{Clear, Ends}

-- the machine halts after so many steps with so many nonzero cells; or its configuration at the first step is
-- repeated at the second; or both steps are records of the side and agree, and their extent is right, if it
-- is given; or the backward tree ends in so many levels with so many nodes, none of them matched by the
-- start. An undecided verdict claims nothing
abbrev pub Claim : Table → Verdict → Type 0
Claim table (Halt steps score) = HaltsAt table steps × IsScore table steps score
Claim table (Cycler first second) = (first < second) × Same table first second
Claim table (Translated side first second extent) =
    AgreeingRecords table side first second × SaysExtent table side first second extent
Claim table (Backward levels nodes) = Ends table levels nodes × Clear table levels
Claim table (Undecided why) = Unit {0}

-- the verdict claims that the machine never halts
abbrev pub SaysNever : Verdict → Type 0
SaysNever (Halt steps score) = ⊥
SaysNever (Cycler first second) = Unit {0}
SaysNever (Translated side first second extent) = Unit {0}
SaysNever (Backward levels nodes) = Unit {0}
SaysNever (Undecided why) = ⊥
