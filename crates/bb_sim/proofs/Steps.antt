-- One step of a run, over the definitions alone.
use Rattle.std.proofs.Common.{◌≡◌, ℕ, ◌+◌, Some, None, option_and_then, pos, refl, ap, sym, ◌∙◌, add-one}
use Rattle.std.specs.Int.{int_min, int_max}
use Rattle.bb_machine.specs.declared.entry.Dir.{Dir}
use Rattle.bb_machine.specs.declared.entry.Next.{Next}
use Rattle.bb_machine.specs.declared.entry.Entry.TheVariants.{Undefined, Go}
use Rattle.bb_machine.specs.Machine.{Table}
use Rattle.bb_tape.specs.Content.{cell, with_cell}
use Rattle.bb_sim.specs.Configuration.{Configuration, start, beside, followed, entry_at, next}
use Rattle.bb_sim.specs.Run.{conf, HaltsAt}
use Rattle.bb_sim.specs.CellsBetween.{cells_between}
use Rattle.bb_sim.specs.Span.{counted_position, counted_position_in, counted_head, least, greatest, span}
use Rattle.bb_sim.proofs.Positions.{least-next, greatest-next}

-- the configuration that an entry leads to
abbrev pub led : Configuration → ℕ → Dir → Next → Configuration
led c write dir state =
    record { state = state; head = beside dir c.head; tape = with_cell c.tape c.head write }

module _ (table : Table) (n : ℕ) (c : Configuration) (at : conf table n ≡ Some c) where
  pub counted_head-at : counted_head table n ≡ counted_position c.state c.head
  unfolding counted_head
  counted_head-at = ap counted_position_in at

  pub halts_here : entry_at table c.state (cell c.tape c.head) ≡ Undefined → HaltsAt table n
  unfolding next
  halts_here none = record { last = c; exists = at; no_next = ap (λ entry. followed entry c) none }

  pub conf-next : (write : ℕ) (dir : Dir) (state : Next)
      → entry_at table c.state (cell c.tape c.head) ≡ Go write dir state
      → conf table (n + 1) ≡ Some (led c write dir state)
  unfolding next conf
  conf-next write dir state here =
      rw add-one (ap (option_and_then (next table)) at ∙ ap (λ entry. followed entry c) here)

  pub goes_on : (write : ℕ) (dir : Dir) (state : Next)
      → entry_at table c.state (cell c.tape c.head) ≡ Go write dir state → HaltsAt table n → ⊥
  unfolding next
  goes_on write dir state here halts =
      let same : halts.last ≡ c = cc (at, halts.exists) in
      let none : next table c ≡ None = ap (next table) (sym same) ∙ halts.no_next in
      let some : next table c ≡ Some (led c write dir state) = ap (λ entry. followed entry c) here in
      cc (none, some)

pub conf-start : (table : Table) → conf table 0 ≡ Some start
unfolding conf
conf-start table = refl

pub counted_head-start : (table : Table) → counted_head table 0 ≡ pos 0
unfolding counted_head conf
counted_head-start table = refl

pub span-next : (table : Table) (n : ℕ)
    → span table (n + 1)
    ≡ cells_between (int_min (least (counted_head table) n) (counted_head table (n + 1)))
    (int_max (greatest (counted_head table) n) (counted_head table (n + 1)))
span-next table n = rw (least-next, greatest-next) refl
