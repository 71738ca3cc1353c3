use Rattle.std.proofs.Common.{◌≡◌, ℕ, ◌<◌, get_or, length}
use Rattle.bb_machine.specs.declared.machine.TheConstants.{MAX_STATES}
use Rattle.bb_cover.proofs.naming.Names.own.Given as goal

abbrev pub invariant-loop-name : goal.invariant-loop-name
invariant-loop-name l = record {
  whole : length l.own ≡ MAX_STATES;
  named : (n : ℕ) → n < l.name → get_or l.own n 0 ≡ n;
}
