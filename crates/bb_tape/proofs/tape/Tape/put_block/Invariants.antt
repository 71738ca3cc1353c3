use Rattle.std.proofs.Common.{◌≤◌}
use Rattle.bb_tape.specs.Block.{PutsBits}
use Rattle.bb_tape.proofs.tape.Tape.put_block.Given as goal

-- the cells that were written
abbrev pub invariant-loop-place : goal.invariant-loop-place
invariant-loop-place g l = record {
  few : l.place ≤ 64;
  puts : PutsBits (g.Self.Tape.view l.fn.self) (g.Self.Tape.view l.self) l.from l.bits l.place;
}
