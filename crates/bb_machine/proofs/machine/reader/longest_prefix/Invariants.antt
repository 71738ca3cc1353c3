use Rattle.std.proofs.Common.{◌≡◌, ◌≤◌, ◌-◌, length, take}
use Rattle.bb_machine.specs.inside.Draft.{Begun, IsDraft, begun_text}
use Rattle.bb_machine.proofs.machine.reader.longest_prefix.Given as goal

-- the bytes so far are what was read
abbrev pub invariant-loop-at : goal.invariant-loop-at
invariant-loop-at l = record {
  inside : l.at ≤ length l.line;
  read : (b : Begun) × IsDraft l.draft b × (begun_text b ≡ take l.at l.line);
}

abbrev pub decreases-loop-at : goal.decreases-loop-at
decreases-loop-at l = length l.line - l.at
