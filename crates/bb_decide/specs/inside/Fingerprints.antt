-- The fingerprints of a single-pass run, for its functions. No public contract cites them.
use Rattle.std.specs.Prelude.{◌≡◌, ◌*◌, ◌<◌, ◌≤◌, ◌⊎◌}
use Rattle.bb_sim.specs.declared.runner.Runner.{Runner}
use Rattle.bb_sim.specs.Runner.{position_of, state_of, steps_of}
use Rattle.bb_decide.specs.declared.single_pass.Fingerprints.{Fingerprints}

-- before the first step the start is kept; the blank tape has the fingerprint 0
abbrev pub first_fingerprints : Runner → Fingerprints
first_fingerprints start = record { current = 0; kept = start; kept_fingerprint = 0; next = 0 }

-- state, position and fingerprint are those of the kept configuration
abbrev pub AreAsKept : Fingerprints → Runner → Type 0
AreAsKept fingerprints runner = (fingerprints.current ≡ fingerprints.kept_fingerprint)
    × (state_of runner ≡ state_of fingerprints.kept)
    × (position_of runner ≡ position_of fingerprints.kept)

-- a configuration is kept from the step on that is next
abbrev pub KeepInTurn : Runner → Fingerprints → Fingerprints → Type 0
KeepInTurn runner old new = ((steps_of runner < old.next) × (new ≡ old))
    ⊎ ((old.next ≤ steps_of runner)
    × (new ≡ record {
      current = old.current;
      kept = runner;
      kept_fingerprint = old.current;
      next = 2 * steps_of runner;
    }))
