-- Records: the steps with the head farther out on a side than ever before. Translated cyclers are
-- bbchallenge's; the numbers of records are this project's own.
use Rattle.std.specs.Prelude.{◌≡◌, ◌≢◌, ℕ, ◌+◌, ◌-◌, ◌<◌, Option, Some, None, ℤ, pos, neg_ℤ}
use Rattle.bb_machine.specs.Machine.{Table}
use Rattle.bb_sim.specs.Configuration.{Configuration}
use Rattle.bb_sim.specs.Run.{conf}
use Rattle.bb_sim.specs.Span.{least}
use Rattle.bb_cert.specs.declared.verdict.Side.{Side}
use Rattle.bb_cert.specs.declared.verdict.Side.TheVariants.{L, R}

-- how far out a position is on a side
abbrev pub out : Side → ℤ → ℤ
out R p = p
out L p = neg_ℤ p

-- the head of a configuration, 0 where there is none
abbrev pub head_of : Option Configuration → ℤ
head_of None = pos 0
head_of (Some c) = c.head

-- the head's position at step n, in whatever state, and 0 where there is no such step
unfoldable pub head_at : Table → ℕ → ℤ
head_at table n = head_of (conf table n)

-- record j of a side is made at step n: there the head is, for the first time, j cells out on that side
pub record IsRecord (table : Table) (side : Side) (j n : ℕ) : Type 0 where
  pub positive : 0 < j
  pub here : Configuration
  pub exists : conf table n ≡ Some here
  pub on_position : out side here.head ≡ pos j
  pub is_first : (m : ℕ) → m < n → out side (head_at table m) ≢ pos j

-- the least of how far out the head is over steps a to b, both counted
abbrev pub far : Table → Side → ℕ → ℕ → ℤ
far table side a b = least (λ u. out side (head_at table (u + a))) (b - a)
