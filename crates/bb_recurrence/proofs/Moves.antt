-- How far the recorded entries move the head.
use Rattle.std.proofs.Common.{◌≡◌, ℕ, suc, ◌+◌, ◌-◌, ◌/◌, ◌%◌, ◌<◌, ◌≤◌, None, refl, ap, sym, subst, ◌∙◌, arith, length}
use Rattle.std.proofs.Common.{ℤ, pos, neg_ℤ, ◌+ℤ◌}
use Rattle.std.proofs.lemmas.Int.{ints}
use Rattle.bb_machine.specs.declared.entry.Dir.{Dir}
use Rattle.bb_machine.specs.declared.entry.Dir.TheVariants.{L, R}
use Rattle.bb_machine.specs.declared.entry.Entry.{Entry}
use Rattle.bb_machine.specs.declared.entry.Entry.TheVariants.{Undefined, Go}
use Rattle.bb_machine.specs.declared.machine.TheConstants.{MAX_SYMBOLS}
use Rattle.bb_machine.specs.declared.entry.Next.TheVariants.{State}
use Rattle.bb_machine.specs.Machine.{IsMachine, Table, entry_of, symbols_of}
use Rattle.bb_tape.specs.Content.{cell}
use Rattle.bb_machine.specs.declared.entry.Next.{Next}
use Rattle.bb_sim.specs.Configuration.{beside, entry_at, followed, next}
use Rattle.bb_sim.specs.Run.{Never}
use Rattle.bb_sim.proofs.Facts.{conf-next}
use Rattle.bb_cert.specs.records.Record.{head_at}
use Rattle.bb_cert.proofs.Facts.{head_at-is, moves, steps_of_never}
use Rattle.bb_tree.proofs.Facts.{Moves}
use Rattle.laws_of_recurrence.specs.Recurrence.{Transition}
use Rattle.laws_of_recurrence.specs.Shift.{IsShift}
use Rattle.laws_of_recurrence.proofs.Facts.{transition_at-is, used_by}
use Rattle.bb_recurrence.specs.History.{UsesEntry, UsesPlace}
use Rattle.bb_recurrence.proofs.EntryUses.{names_table}

-- how far an entry moves the head to the right; one that leads nowhere counts as a move to the right
abbrev pub offset_of_entry : Entry → ℤ
offset_of_entry (Go write L to) = neg_ℤ (pos 1)
offset_of_entry (Go write R to) = pos 1
offset_of_entry Undefined = pos 1

-- a step moves the head as its entry says
module _ (table : Table) (never : Never table) (n q s : ℕ) (at : UsesEntry table n q s) where
  step : Moves table n
  step = moves table n (steps_of_never table never (suc n))

  uses : used_by step.before ≡ record { state = State q; symbol = s }
  uses = let is = transition_at-is table n step.before step.at_before in cc

  entry_here : entry_at table step.before.state (cell step.before.tape step.before.head) ≡ entry_of table q s
  entry_here = ap (λ (t : Transition). entry_at table t.state t.symbol) uses

  moved : (write : ℕ) (dir : Dir) (to : Next) → entry_of table q s ≡ Go write dir to
      → head_at table (n + 1) ≡ beside dir (head_at table n)
  moved write dir to is =
      let before = head_at-is table n step.before step.at_before in
      let after = head_at-is table (n + 1) _ (conf-next table n step.before step.at_before write dir to (entry_here ∙ is)) in
      after ∙ ap (beside dir) (sym before)

  by_entry : (entry : Entry) → entry_of table q s ≡ entry → IsShift table n 1 (offset_of_entry entry)
  unfolding next
  by_entry Undefined is =
      let none : followed (entry_at table step.before.state (cell step.before.tape step.before.head)) step.before ≡ None =
      ap (λ entry. followed entry step.before) (entry_here ∙ is) in
      let some = step.is_next in
      absurd cc
  by_entry (Go write L to) is = let here = moved write L to is in omega (arith, ints, here)
  by_entry (Go write R to) is = let here = moved write R to is in omega (arith, ints, here)

-- a place is that of the entry of its quotient and its remainder
module _ (table : Table) (n place : ℕ) (at : UsesPlace table n place) where
  state_is : at.state ≡ place / MAX_SYMBOLS
  state_is =
      let is = at.is_place in
      let few = at.inside in
      omega (arith, is, few)

  symbol_is : at.symbol ≡ place % MAX_SYMBOLS
  symbol_is =
      let is = at.is_place in
      let few = at.inside in
      omega (arith, is, few)

  pub place_moves : Never table
      → IsShift table n 1 (offset_of_entry (entry_of table (place / MAX_SYMBOLS) (place % MAX_SYMBOLS)))
  place_moves never = subst (λ q. IsShift table n 1 (offset_of_entry (entry_of table q (place % MAX_SYMBOLS)))) state_is
      (subst (λ s. IsShift table n 1 (offset_of_entry (entry_of table at.state s))) symbol_is
      (by_entry table never n at.state at.symbol at.at _ refl))

  pub place_in_table : IsMachine table
      → (place / MAX_SYMBOLS < length table) × (place % MAX_SYMBOLS < symbols_of table)
  place_in_table machine =
      let named = names_table table machine n _ at.at in
      let states = named.0 in
      let symbols = named.1 in
      (omega (arith, states, state_is), omega (arith, symbols, symbol_is))

-- one step more of a sum of moves
pub moved_on : (table : Table) (from n : ℕ) (shift offset : ℤ) → from ≤ n → IsShift table from (n - from) shift
    → IsShift table n 1 offset → IsShift table from ((n + 1) - from) (shift +ℤ offset)
moved_on table from n shift offset order so_far here =
    let a : from + (n - from) ≡ n = omega (arith, order) in
    let b : from + ((n + 1) - from) ≡ n + 1 = omega (arith, order) in
    let c = ap (head_at table) a in
    let d = ap (head_at table) b in
    omega (arith, ints, so_far, here, c, d)
