-- The parity of positions: a step moves the head by one cell.
use Rattle.std.proofs.Common.{◌≡◌, ℕ, zero, suc, ◌+◌, Option, Some, None, option_and_then, refl, ap, sym}
use Rattle.std.proofs.Common.{ℤ, pos, ◌+ℤ◌, arith}
use Rattle.std.proofs.lemmas.Int.{ints}
use Rattle.bb_machine.specs.declared.entry.Dir.{Dir}
use Rattle.bb_machine.specs.declared.entry.Dir.TheVariants.{L, R}
use Rattle.bb_machine.specs.declared.entry.Entry.{Entry}
use Rattle.bb_machine.specs.declared.entry.Entry.TheVariants.{Undefined, Go}
use Rattle.bb_machine.specs.Machine.{Table}
use Rattle.bb_tape.specs.Content.{cell}
use Rattle.bb_sim.specs.Configuration.{Configuration, start, beside, followed, entry_at, next}
use Rattle.bb_sim.specs.Run.{conf}
use Rattle.bb_sim.specs.Laws.{PositionHasParityOfStep}

-- twice some number
abbrev IsEven : ℤ → Type 0
IsEven z = (half : ℤ) × (z ≡ half +ℤ half)

moved : (dir : Dir) (p : ℤ) (n : ℕ) → IsEven (p +ℤ pos n) → IsEven (beside dir p +ℤ pos (suc n))
moved L p n even = (even.0, omega (arith, ints, even.1))
moved R p n even = (even.0 +ℤ pos 1, omega (arith, ints, even.1))

led_by : (entry : Entry) (c here : Configuration) (n : ℕ) → IsEven (c.head +ℤ pos n) → followed entry c ≡ Some here
    → IsEven (here.head +ℤ pos (suc n))
led_by Undefined c here n even leads = cc
led_by (Go write dir state) c here n even leads =
    let is : beside dir c.head ≡ here.head = cc in
    rw is at (moved dir c.head n even)

-- the configuration after one that keeps the parity keeps it
next_even : (table : Table) (n : ℕ) (here : Configuration) (before : Option Configuration)
    → ((c : Configuration) → before ≡ Some c → IsEven (c.head +ℤ pos n))
    → option_and_then (next table) before ≡ Some here → IsEven (here.head +ℤ pos (suc n))
unfolding next
next_even table n here None even leads = cc
next_even table n here (Some c) even leads =
    led_by (entry_at table c.state (cell c.tape c.head)) c here n (even c refl) leads

pub position_has_parity_of_step : PositionHasParityOfStep
unfolding conf
position_has_parity_of_step table zero here at =
    let is : start ≡ here = cc in
    (pos 0, ap (λ (c : Configuration). c.head +ℤ pos 0) (sym is))
position_has_parity_of_step table (suc n) here at =
    next_even table n here (conf table n) (position_has_parity_of_step table n) at
