-- The states and transitions that a run uses, for ever or for the last time. Quasihalting is that of the
-- Beeping Busy Beaver (Aaronson, 2020).
use Rattle.std.specs.Prelude.{◌≡◌, ℕ, ◌+◌, ◌<◌, ◌≤◌, ◌⊎◌, ◌↔◌, Some}
use Rattle.bb_machine.specs.declared.entry.Next.TheVariants.{State}
use Rattle.bb_machine.specs.Machine.{Table}
use Rattle.bb_sim.specs.Run.{Never}
use Rattle.laws_of_recurrence.specs.Recurrence.{Repeats, Transition, transition_at}

-- a part of a table: the row of a state, or one transition
pub data TablePart : Type 0 where
  of_state : ℕ → TablePart
  of_transition : Transition → TablePart

-- the transition belongs to the part
abbrev pub IsIn : TablePart → Transition → Type 0
IsIn (of_state state) used = used.state ≡ State state
IsIn (of_transition one) used = used ≡ one

-- step n uses a transition of the part
pub record Uses (table : Table) (part : TablePart) (n : ℕ) : Type 0 where
  pub transition : Transition
  pub at : transition_at table n ≡ Some transition
  pub is_in : IsIn part transition

-- no step uses it
abbrev pub NeverUses : Table → TablePart → Type 0
NeverUses table part = (n : ℕ) → Uses table part n → ⊥

-- from each step on, some step uses it
abbrev pub UsesForEver : Table → TablePart → Type 0
UsesForEver table part = (n : ℕ) → (m : ℕ) × (n ≤ m) × Uses table part m

-- step n uses it, and no later step does
pub record IsLastUse (table : Table) (part : TablePart) (n : ℕ) : Type 0 where
  pub used : Uses table part n
  pub last : (m : ℕ) → n < m → Uses table part m → ⊥

-- the machine quasihalts after so many steps: it never halts, the last of these steps is the last use of some
-- state, and no state has a later last use
pub record IsQuasihalt (table : Table) (steps : ℕ) : Type 0 where
  pub never : Never table
  pub state : ℕ
  pub step : ℕ
  pub last_of_steps : steps ≡ step + 1
  pub last : IsLastUse table (of_state state) step
  pub latest : (other m : ℕ) → IsLastUse table (of_state other) m → m < steps

-- a step of the period from `start` on uses the part
pub record UsesInPeriod (table : Table) (part : TablePart) (start period : ℕ) : Type 0 where
  pub step : ℕ
  pub late : start ≤ step
  pub soon : step < start + period
  pub uses : Uses table part step

-- the parts used for ever are those used within a period from the start on
abbrev pub UsedForEverJustInPeriod : Type 0
UsedForEverJustInPeriod = (table : Table) (part : TablePart) (start period : ℕ)
    → Repeats table start period → UsesForEver table part ↔ UsesInPeriod table part start period

-- a use before the start is the last one, if no later step up to the end of the first period is a use
abbrev pub LastUseIsSeen : Type 0
LastUseIsSeen = (table : Table) (part : TablePart) (start period n : ℕ) → Repeats table start period
    → n < start → Uses table part n
    → ((m : ℕ) → n < m → m < start + period → Uses table part m → ⊥)
    → IsLastUse table part n

-- a part that no step uses up to the end of the first period is never used
abbrev pub UnusedIsSeen : Type 0
UnusedIsSeen = (table : Table) (part : TablePart) (start period : ℕ) → Repeats table start period
    → ((m : ℕ) → m < start + period → Uses table part m → ⊥) → NeverUses table part

-- in a run that repeats each part is never used, or has its last use before the start, or is used for ever
abbrev pub UsesAreOfThreeKinds : Type 0
UsesAreOfThreeKinds = (table : Table) (part : TablePart) (start period : ℕ) → Repeats table start period
    → NeverUses table part
    ⊎ (((n : ℕ) × (n < start) × IsLastUse table part n) ⊎ UsesForEver table part)

-- the three exclude one another, in any run
abbrev pub KindsOfUseDiffer : Type 0
KindsOfUseDiffer = (table : Table) (part : TablePart) (n : ℕ)
    → (NeverUses table part → IsLastUse table part n → ⊥)
    × (NeverUses table part → UsesForEver table part → ⊥)
    × (IsLastUse table part n → UsesForEver table part → ⊥)

-- a part has at most one last use
abbrev pub LastUseIsUnique : Type 0
LastUseIsUnique = (table : Table) (part : TablePart) (n m : ℕ) → IsLastUse table part n
    → IsLastUse table part m → n ≡ m

-- a machine quasihalts after at most one number of steps
abbrev pub QuasihaltIsUnique : Type 0
QuasihaltIsUnique = (table : Table) (n m : ℕ) → IsQuasihalt table n → IsQuasihalt table m → n ≡ m

-- a machine that repeats quasihalts exactly if one of its states has a last use
abbrev pub QuasihaltsByLastUse : Type 0
QuasihaltsByLastUse = (table : Table) (start period : ℕ) → Repeats table start period
    → ((steps : ℕ) × IsQuasihalt table steps)
    ↔ ((state : ℕ) × (n : ℕ) × IsLastUse table (of_state state) n)
