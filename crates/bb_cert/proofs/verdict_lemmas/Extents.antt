-- Two records have one extent.
use Rattle.std.proofs.Common.{◌≡◌, ℕ, ◌↔◌, Option, Some, None, ap, sym, subst, ◌∙◌}
use Rattle.std.specs.Prelude.{IfSome}
use Rattle.bb_machine.specs.Machine.{Table}
use Rattle.bb_cert.specs.declared.verdict.Extent.{Extent}
use Rattle.bb_cert.specs.declared.verdict.Side.{Side}
use Rattle.bb_cert.specs.verdict.Extent.{IsExtent, SaysExtent, TellsExtent}
use Rattle.bb_cert.proofs.record_lemmas.Positions.{one_number}

pub extent_is_one : (table : Table) (side : Side) (a b : ℕ) (one other : Extent) → IsExtent table side a b one
    → IsExtent table side a b other → one ≡ other
extent_is_one table side a b one other first second =
    let shifts = one_number one.shift other.shift _ (sym first.shift) (sym second.shift) in
    let lengths = one_number one.length other.length _ (sym first.length) (sym second.length) in
    ap (λ n. record one { shift = n }) shifts ∙ ap (λ n. record other { length = n }) lengths

-- an extent that is told is right
pub claimed_is_said : (table : Table) (side : Side) (a b : ℕ) (extent : Option Extent)
    → TellsExtent table side a b extent
    → SaysExtent table side a b extent
claimed_is_said table side a b None tells = absurd tells
claimed_is_said table side a b (Some extent) tells = tells

-- and there is one only
pub claimed_is_one : (table : Table) (side : Side) (a b : ℕ) (one other : Option Extent)
    → TellsExtent table side a b one
    → TellsExtent table side a b other → one ≡ other
claimed_is_one table side a b None other first second = absurd first
claimed_is_one table side a b (Some one) None first second = absurd second
claimed_is_one table side a b (Some one) (Some other) first second =
    ap Some (extent_is_one table side a b one other first second)

-- one that may be told is right where it is the one that was found
pub said_as_found : {table : Table} {side : Side} {a b : ℕ} {found : Extent} → IsExtent table side a b found
    → (claimed : Option Extent) → IfSome claimed (λ extent. extent ≡ found) ↔ SaysExtent table side a b claimed
said_as_found is None = (λ none. tt, λ none. tt)
said_as_found {table} {side} {a} {b} {found} is (Some claimed) = (
  λ same. subst (IsExtent table side a b) (sym same) is,
  λ says. extent_is_one table side a b claimed found says is,
)
