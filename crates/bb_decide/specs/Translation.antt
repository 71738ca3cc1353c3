-- The result of the search for agreeing records. It is named after bbchallenge's Translated Cyclers; the
-- comparison of a record with its partner is this project's own.
use Rattle.std.specs.Prelude.{ℕ, ◌≤◌, Option, Some, None}
use Rattle.bb_machine.specs.Limits.{Bounds}
use Rattle.bb_machine.specs.Machine.{Table}
use Rattle.bb_sim.specs.Span.{Inside}
use Rattle.bb_cert.specs.declared.verdict.Side.{Side}
use Rattle.bb_cert.specs.declared.verdict.Verdict.{Verdict}
use Rattle.bb_cert.specs.declared.verdict.Verdict.TheVariants.{Translated}
use Rattle.bb_cert.specs.records.Agree.{Agree}
use Rattle.bb_cert.specs.verdict.Extent.{TellsExtent}
use Rattle.bb_cert.specs.records.Record.{IsRecord}
use Rattle.bb_decide.specs.Partner.{IsPartner}

-- a record of a side is made at step b, and agrees with the record of that side, at step a, whose number is
-- the partner of its own
pub record AgreesWithPartner (table : Table) (side : Side) (a b : ℕ) : Type 0 where
  pub first_number : ℕ
  pub second_number : ℕ
  pub partner : IsPartner first_number second_number
  pub first_record : IsRecord table side first_number a
  pub second_record : IsRecord table side second_number b
  pub agree : Agree table side a b

-- one that does is made inside
pub record IsTranslation (table : Table) (bounds : Bounds) (side : Side) (a b : ℕ) : Type 0 where
  pub pair : AgreesWithPartner table side a b
  pub inside : Inside table bounds b

-- no record inside agrees with its partner
abbrev pub HasNoTranslation : Table → Bounds → Type 0
HasNoTranslation table bounds = (side : Side) (a b : ℕ) → IsTranslation table bounds side a b → ⊥

-- the first that does, of both sides
pub record IsFirstTranslation (table : Table) (bounds : Bounds) (side : Side) (a b : ℕ) : Type 0 where
  pub translation : IsTranslation table bounds side a b
  pub first : (other : Side) (c d : ℕ) → IsTranslation table bounds other c d → b ≤ d

-- the side, the pair and the extent of the first; none just where there is none
abbrev pub FindsTranslation : Table → Bounds → Option Verdict → Type 0
FindsTranslation table bounds None = HasNoTranslation table bounds
FindsTranslation table bounds (Some (Translated side first second extent)) =
    IsFirstTranslation table bounds side first second × TellsExtent table side first second extent
FindsTranslation table bounds (Some verdict) = ⊥
