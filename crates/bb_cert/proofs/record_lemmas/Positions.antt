-- How far out the head is on a side, step by step.
use Rattle.std.proofs.Common.{◌≡◌, ℕ, zero, suc, Some, ℤ, pos, ◌+ℤ◌, ◌-ℤ◌, ◌≤ℤ◌, refl, ap}
use Rattle.std.proofs.Common.{sym, ◌∙◌, arith}
use Rattle.std.proofs.lemmas.Int.{ints, clamps}
use Rattle.std.specs.Int.{int_min}
use Rattle.bb_machine.specs.declared.entry.Dir.{Dir}
use Rattle.bb_machine.specs.declared.entry.Dir.TheVariants as dir
use Rattle.bb_machine.specs.declared.entry.Next.{Next}
use Rattle.bb_machine.specs.declared.entry.Entry.{Entry}
use Rattle.bb_machine.specs.declared.entry.Entry.TheVariants.{Undefined, Go}
use Rattle.bb_machine.specs.Machine.{Table}
use Rattle.bb_tape.specs.Content.{cell}
use Rattle.bb_tape.specs.TapeView.{TapeView}
use Rattle.bb_sim.specs.Configuration.{Configuration, start, beside, followed, entry_at, next}
use Rattle.bb_sim.specs.declared.runner.Runner.{Runner}
use Rattle.bb_sim.specs.Run.{conf, Exists}
use Rattle.bb_sim.specs.Runner.{Stands, position_of, steps_of}
use Rattle.bb_sim.specs.Span.{least}
use Rattle.bb_sim.proofs.Facts.{led, conf-start}
use Rattle.bb_cert.specs.declared.verdict.Side.{Side}
use Rattle.bb_cert.specs.declared.verdict.Side.TheVariants.{L, R}
use Rattle.bb_cert.specs.records.Record.{out, head_of, head_at}
use Rattle.bb_tree.proofs.Facts.{moves}

pub through : (p q r : ℤ) → p ≤ℤ q → q ≤ℤ r → p ≤ℤ r
through p q r a b = omega (arith, ints, a, b)

-- a position is one number
pub one_number : (i j : ℕ) (p : ℤ) → p ≡ pos i → p ≡ pos j → i ≡ j
one_number i j p a b = omega (arith, ints, a, b)

pub out-zero : (side : Side) → out side (pos 0) ≡ pos 0
out-zero L = refl
out-zero R = refl

pub out-add : (side : Side) (p q : ℤ) → out side (p +ℤ q) ≡ out side p +ℤ out side q
out-add L p q = omega (arith, ints)
out-add R p q = refl

pub out-subtract : (side : Side) (p q : ℤ) → out side (p -ℤ q) ≡ out side p -ℤ out side q
out-subtract L p q = omega (arith, ints)
out-subtract R p q = refl

out_beside : (side : Side) (to : Dir) (p : ℤ) → out side (beside to p) ≤ℤ (out side p +ℤ pos 1)
out_beside L dir.L p = omega (arith, ints)
out_beside L dir.R p = omega (arith, ints)
out_beside R dir.L p = omega (arith, ints)
out_beside R dir.R p = omega (arith, ints)

-- a configuration that is led to by an entry
pub record IsLed (c d : Configuration) : Type 0 where
  pub write : ℕ
  pub to : Dir
  pub state : Next
  pub is : d ≡ led c write to state

pub led_by : (table : Table) (c d : Configuration) → next table c ≡ Some d → IsLed c d
unfolding next
led_by table c d is_next = by_entry (entry_at table c.state (cell c.tape c.head)) is_next where
  by_entry : (entry : Entry) → followed entry c ≡ Some d → IsLed c d
  by_entry Undefined e = absurd cc
  by_entry (Go write to state) e = record { write = write; to = to; state = state; is = cc }

pub head_at-is : (table : Table) (n : ℕ) (c : Configuration) → conf table n ≡ Some c
    → head_at table n ≡ c.head
unfolding head_at
head_at-is table n c at = ap head_of at

pub head_at-start : (table : Table) → head_at table 0 ≡ pos 0
head_at-start table = head_at-is table 0 start (conf-start table)

-- a runner that has made no step stands at position 0
pub starts : (table : Table) (runner : Runner) (view : TapeView) → Stands table runner view
    → steps_of runner ≡ 0
    → position_of runner ≡ pos 0
starts table runner view stands none =
    sym (head_at-is table (steps_of runner) _ stands.at) ∙ ap (head_at table) none ∙ head_at-start table

-- a step goes at most one cell farther out
pub climbs : (table : Table) (side : Side) (n : ℕ) → Exists table (suc n)
    → out side (head_at table (suc n)) ≤ℤ (out side (head_at table n) +ℤ pos 1)
climbs table side n step =
    let moved = moves table n step in
    let led_here = led_by table moved.before moved.then_here moved.is_next in
    let before = head_at-is table n moved.before moved.at_before in
    let here = head_at-is table (suc n) moved.then_here moved.at_then in
    let head : head_at table (suc n) ≡ beside led_here.to (head_at table n) = here
    ∙ ap (λ (c : Configuration). c.head) led_here.is ∙ ap (beside led_here.to) (sym before) in
    rw head (out_beside side led_here.to (head_at table n))

min_at_least : (a b c : ℤ) → c ≤ℤ a → c ≤ℤ b → c ≤ℤ int_min a b
min_at_least a b c h k = omega (arith, ints, clamps)

-- what is at most each of them is at most the least
pub least_at_least : (f : ℕ → ℤ) (bound : ℤ) → ((k : ℕ) → bound ≤ℤ f k) → (n : ℕ) → bound ≤ℤ least f n
least_at_least f bound each zero = each zero
least_at_least f bound each (suc n) = min_at_least (least f n) (f (suc n)) bound
    (least_at_least f bound each n) (each (suc n))
