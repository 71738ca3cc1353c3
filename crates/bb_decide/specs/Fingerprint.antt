-- The fingerprint of a tape: a number that two equal tapes share, and two others hardly ever do
-- (A. L. Zobrist, "A new hashing method with application for game playing", 1970: a sum of keys).
use Rattle.std.specs.Prelude.{◌≡◌, ℕ, zero, suc, ◌+◌, ◌*◌, ◌≤◌, ◌%◌, ◌^◌, Some, ℤ, pos, ◌-ℤ◌, IsTrue}
use Rattle.bb_machine.specs.Limits.{Bounds}
use Rattle.bb_machine.specs.Machine.{Table}
use Rattle.bb_machine.specs.declared.plan.Plan.{Plan}
use Rattle.bb_tape.specs.declared.tape.TheConstants.{MAX_CELLS}
use Rattle.bb_tape.specs.Content.{Content, cell}
use Rattle.bb_sim.specs.Configuration.{Configuration}
use Rattle.bb_sim.specs.Run.{conf}
use Rattle.bb_sim.specs.Span.{Inside}
use Rattle.bb_registers.specs.Registers.{FitsRegisters}
use Rattle.bb_cert.specs.declared.verdict.Verdict.{Verdict}
use Rattle.bb_cert.specs.declared.verdict.Verdict.TheVariants.{Halt, Cycler, Translated}
use Rattle.bb_decide.specs.Partner.{IsPartner}

-- the sum of the first n of f 0, f 1 and so on
unfoldable pub sum_to : (ℕ → ℕ) → ℕ → ℕ
sum_to f zero = 0
sum_to f (suc n) = sum_to f n + f n

-- the k-th of all positions that a tape may have in its window, the lowest first
abbrev pub place : ℕ → ℤ
place k = pos k -ℤ pos MAX_CELLS

-- the sum of key times symbol over all these positions; cells that were never visited are 0 and add nothing
unfoldable pub total : (ℤ → ℕ) → Content → ℕ
total key tape = sum_to (λ k. key (place k) * cell tape (place k)) (2 * MAX_CELLS + 1)

-- the same, modulo 2^64
abbrev pub fingerprint : (ℤ → ℕ) → Content → ℕ
fingerprint key tape = total key tape % 2 ^ 64

-- step s has the state, the head and the fingerprint of its partner p
pub record MatchesPartner (key : ℤ → ℕ) (table : Table) (p s : ℕ) : Type 0 where
  pub partner : IsPartner p s
  pub one : Configuration
  pub other : Configuration
  pub at_partner : conf table p ≡ Some one
  pub at_step : conf table s ≡ Some other
  pub state : one.state ≡ other.state
  pub head : one.head ≡ other.head
  pub current : fingerprint key one.tape ≡ fingerprint key other.tape

-- a step inside, no later than another one, has left the registers, matches its partner's fingerprint, and is
-- another configuration
pub record AgreesByChance (key : ℤ → ℕ) (table : Table) (bounds : Bounds) (latest : ℕ) : Type 0 where
  pub first : ℕ
  pub second : ℕ
  pub alike : MatchesPartner key table first second
  pub inside : Inside table bounds second
  pub no_later : second ≤ latest
  pub wide : FitsRegisters table second → ⊥
  pub differ : alike.one ≡ alike.other → ⊥

-- the step named in a verdict: that of a halt, the second one of a pair; for others the limit of steps
abbrev pub named_step : Bounds → Verdict → ℕ
named_step bounds (Halt steps score) = steps
named_step bounds (Cycler first second) = second
named_step bounds (Translated side first second extent) = second
named_step bounds verdict = bounds.steps

-- how many steps it may cost to find: for a cycler twice the step that it names
abbrev pub most_steps : Bounds → Verdict → ℕ
most_steps bounds (Halt steps score) = steps
most_steps bounds (Cycler first second) = 2 * second
most_steps bounds (Translated side first second extent) = second
most_steps bounds verdict = bounds.steps

-- both searches are on, and configurations up to a step have a fingerprint collision
abbrev pub SearchesCollide : (ℤ → ℕ) → Table → Bounds → Plan → ℕ → Type 0
SearchesCollide key table bounds plan latest =
    IsTrue plan.cyclers × IsTrue plan.translated × AgreesByChance key table bounds latest

-- a verdict cost no more steps than what it names allows, unless both searches are on and collide
abbrev pub CostsWhatItNames : (ℤ → ℕ) → Table → Bounds → Plan → ℕ → Verdict → Type 0
CostsWhatItNames key table bounds plan steps verdict =
    (SearchesCollide key table bounds plan (named_step bounds verdict) → ⊥)
    → steps ≤ most_steps bounds verdict
