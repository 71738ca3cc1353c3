-- The result and the cost of backward reasoning. Backward reasoning is bbchallenge's; this profile of it is
-- this project's own.
use Rattle.std.specs.Prelude.{◌≡◌, Option, Some, None}
use Rattle.bb_machine.specs.Limits.{Bounds}
use Rattle.bb_machine.specs.Machine.{Table}
use Rattle.bb_sim.specs.declared.meter.Meter.{Meter}
use Rattle.bb_cert.specs.declared.verdict.Verdict.{Verdict}
use Rattle.bb_cert.specs.declared.verdict.Verdict.TheVariants.{Backward}
use Rattle.bb_tree.specs.Tree.{Back, EndsNowhere}
use Rattle.bb_tree.specs.WalkMeter.{IsWithinWalk, walked}

-- no tree ends within the bounds without a node that the start matches
abbrev pub HasNoTree : Table → Bounds → Type 0
HasNoTree table bounds = EndsNowhere table bounds.depth bounds.nodes

-- the levels and the nodes of the tree that does; none just where there is none
abbrev pub FindsTree : Table → Bounds → Option Verdict → Type 0
FindsTree table bounds None = HasNoTree table bounds
FindsTree table bounds (Some (Backward levels nodes)) = Back table bounds levels nodes
FindsTree table bounds (Some verdict) = ⊥

-- a meter whose nodes and levels are begun at 0
abbrev pub without_nodes : Meter → Meter
without_nodes meter = record meter { nodes = 0; most_levels = 0 }

-- where the tree ends, its nodes and levels are counted; else no more than the bounds
abbrev pub CountsTree : Bounds → Meter → Meter → Option Verdict → Type 0
CountsTree bounds old new None = IsWithinWalk bounds.depth bounds.nodes (without_nodes old) new
CountsTree bounds old new (Some (Backward levels nodes)) = new ≡ walked (without_nodes old) levels nodes
CountsTree bounds old new (Some verdict) = ⊥
