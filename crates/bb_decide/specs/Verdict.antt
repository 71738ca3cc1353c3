-- The verdict on a machine within bounds, by a plan: this project's own.
use Rattle.std.specs.Prelude.{IsTrue}
use Rattle.bb_machine.specs.Limits.{Bounds}
use Rattle.bb_machine.specs.Machine.{Table}
use Rattle.bb_sim.specs.declared.simulation.Outcome.TheVariants.{Halt as Halts, NoSteps, NoCells}
use Rattle.bb_sim.specs.Outcome.{HaltsNowhere, IsOutcome}
use Rattle.bb_cert.specs.declared.verdict.Why.TheVariants.{Steps, Cells}
use Rattle.bb_cert.specs.declared.verdict.Verdict.{Verdict}
use Rattle.bb_cert.specs.declared.verdict.Verdict.TheVariants.{Halt, Cycler, Translated, Backward, Undecided}
use Rattle.bb_cert.specs.verdict.Extent.{TellsExtent}
use Rattle.bb_tree.specs.Tree.{Back}
use Rattle.bb_machine.specs.declared.plan.Plan.{Plan}
use Rattle.bb_decide.specs.Backward.{HasNoTree}
use Rattle.bb_decide.specs.Cycle.{HasNoCycle, IsFirstCycle}
use Rattle.bb_decide.specs.Translation.{HasNoTranslation, IsFirstTranslation}

-- the cyclers are off, or there is no cycle
abbrev pub PassesCycles : Table → Bounds → Plan → Type 0
PassesCycles table bounds plan = IsTrue plan.cyclers → HasNoCycle table bounds

-- translated cyclers are off, or no record agrees with its partner
abbrev pub PassesTranslations : Table → Bounds → Plan → Type 0
PassesTranslations table bounds plan = IsTrue plan.translated → HasNoTranslation table bounds

-- backward reasoning is off, or there is no tree that ends
abbrev pub PassesTrees : Table → Bounds → Plan → Type 0
PassesTrees table bounds plan = IsTrue plan.backward → HasNoTree table bounds

-- no decider that is on finds anything
abbrev pub PassesAll : Table → Bounds → Plan → Type 0
PassesAll table bounds plan =
    PassesCycles table bounds plan × PassesTranslations table bounds plan × PassesTrees table bounds plan

-- the first that applies, deciders that are off being passed over: a halt inside the bounds; the first cycle;
-- the first record that agrees with its partner, with the extent of the two; the tree of what could come
-- before a halt, if it ends; else which limit the simulation met
abbrev pub IsVerdict : Table → Bounds → Plan → Verdict → Type 0
IsVerdict table bounds plan (Halt n ones) = IsOutcome table bounds (Halts n ones)
IsVerdict table bounds plan (Cycler first second) =
    HaltsNowhere table bounds × IsTrue plan.cyclers × IsFirstCycle table bounds first second
IsVerdict table bounds plan (Translated side first second extent) =
    HaltsNowhere table bounds × PassesCycles table bounds plan × IsTrue plan.translated
    × IsFirstTranslation table bounds side first second × TellsExtent table side first second extent
IsVerdict table bounds plan (Backward levels nodes) =
    HaltsNowhere table bounds × PassesCycles table bounds plan × PassesTranslations table bounds plan
    × IsTrue plan.backward × Back table bounds levels nodes
IsVerdict table bounds plan (Undecided Steps) = IsOutcome table bounds NoSteps × PassesAll table bounds plan
IsVerdict table bounds plan (Undecided Cells) = IsOutcome table bounds NoCells × PassesAll table bounds plan
