-- Bounds on the halts of a size, from a list that covers it. These notions are this project's own.
use Rattle.std.specs.Prelude.{◌≡◌, ◌⊎◌, ℕ, ◌+◌, ◌≤◌, Bool, false, IsTrue, List, length, Contains}
use Rattle.bb_machine.specs.Machine.{Table, IsMachine, symbols_of}
use Rattle.bb_sim.specs.Run.{Never}
use Rattle.bb_cert.specs.declared.verdict.Verdict.TheVariants.{Halt}
use Rattle.bb_cert.specs.claims.Claim.{Claim}
use Rattle.laws_of_verdicts.specs.Closed.{Covers, IsLeftOpen, VerdictLine}

-- no line tells of a halt after more steps than these, or with more cells that aren't 0
pub record TellsAtMost (lines : List VerdictLine) (most_steps most_score : ℕ) : Type 0 where
  pub steps : (line : VerdictLine) (steps score : ℕ) → Contains lines line
      → line.verdict ≡ Halt steps score → steps ≤ most_steps
  pub score : (line : VerdictLine) (steps score : ℕ) → Contains lines line
      → line.verdict ≡ Halt steps score → score ≤ most_score

-- the machine halts within so many steps, with at most so many cells that aren't 0
pub record HaltsWithin (most_steps most_score : ℕ) (machine : Table) : Type 0 where
  pub steps : ℕ
  pub score : ℕ
  pub claim : Claim machine (Halt steps score)
  pub soon : steps ≤ most_steps
  pub few : score ≤ most_score

-- the machine completes one of an undecided line that isn't among the assumed ones, up to a change
pub record IsLeftOpenBeside (assumed : Table → Bool) (lines : List VerdictLine) (machine : Table)
    : Type 0 where
  pub left : IsLeftOpen lines machine
  pub beside : assumed left.line.table ≡ false

-- so a list bounds all halts of a size that it covers. A machine that halts on an undefined transition of a
-- line's machine may define it by an entry into Z: then it halts a step later, and writes one cell more
abbrev pub CoversBound : Type 0
CoversBound = (lines : List VerdictLine) (machine : Table) (steps score : ℕ) → IsMachine machine
    → Covers lines (length machine) (symbols_of machine) → TellsAtMost lines steps score
    → HaltsWithin (steps + 1) (score + 1) machine ⊎ (Never machine ⊎ IsLeftOpen lines machine)

-- and if some machines never halt, no completion of these is left open
abbrev pub CoversBoundGiven : Type 0
CoversBoundGiven = (assumed : Table → Bool)
    → ((table : Table) → IsMachine table → IsTrue (assumed table) → Never table)
    → (lines : List VerdictLine) (machine : Table) (steps score : ℕ) → IsMachine machine
    → Covers lines (length machine) (symbols_of machine) → TellsAtMost lines steps score
    → HaltsWithin (steps + 1) (score + 1) machine ⊎ (Never machine ⊎ IsLeftOpenBeside assumed lines machine)
