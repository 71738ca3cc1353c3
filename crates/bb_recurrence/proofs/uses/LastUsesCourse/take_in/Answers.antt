use Rattle.std.proofs.Common.{◌<◌, ◌∙◌, arith, refl, rules}
use Rattle.bb_machine.specs.declared.machine.TheConstants.{MAX_STATES, MAX_SYMBOLS}
use Rattle.bb_recurrence.specs.History.{UsesEntry}
use Rattle.bb_sim.specs.Runner.{steps_of}
use Rattle.bb_recurrence.proofs.EntryUses.{names_table, recorded}
use Rattle.bb_recurrence.proofs.Histories.{uses_place}
use Rattle.bb_recurrence.proofs.Reading.{not_in_Z, read_entry}
use Rattle.bb_recurrence.proofs.uses.LastUsesCourse.take_in.Goals as goal
use Rattle.bb_recurrence.proofs.uses.LastUsesCourse.take_in.Goals.{In-Some}

-- the entry that the step uses
module _ (c : In-Some) where
  entry : UsesEntry c.args.machine.now (steps_of c.args.before.now) c.in-Some.state c.args.symbol
  entry = read_entry (c.requires.read refl) c.requires.before _ c.in-Some.ensures

  named_state : c.in-Some.state < MAX_STATES
  named_state =
      let machine = c.show_machine.ensures.machine in
      let named = (names_table _ machine _ _ entry).0 in
      omega (arith, named, machine.states)

  named_symbol : c.args.symbol < MAX_SYMBOLS
  named_symbol =
      let machine = c.show_machine.ensures.machine in
      let named = (names_table _ machine _ _ entry).1 in
      omega (arith, named, machine.symbols)

pub place_of-place-requires : goal.place_of-place-requires
place_of-place-requires c =
    let at = (goal.at.place_of-place-requires c).In-Some in
    record { state = named_state at; symbol = named_symbol at }

pub returns-in-Some : goal.returns-in-Some
returns-in-Some c so_far =
    let at = (goal.at.returns-in-Some c).In-Some in
    let machine = c.show_machine.ensures.machine in
    let named = named_state at in
    let other = named_symbol at in
    let kept = rw c.steps-in-Some.ensures at (c.record.ensures c.args.machine.now) in
    record {
      seen = λ q s below inside. rw (c.place_of-place.ensures, c.steps.ensures ∙ c.requires.after.at)
          (recorded _ _ _ _ _ q s _ (entry at) refl refl (named_symbol at)
          (omega (arith, inside, machine.symbols)) (search rules) (so_far.seen q s below inside));
      entries = λ few.
          kept (omega (arith, few)) (uses_place _ _ _ _ _ (entry at) (named_symbol at) c.place_of-place.ensures)
          (so_far.entries (omega (arith, few)));
    }

pub returns-in-None : goal.returns-in-None
returns-in-None c so_far = absurd (not_in_Z c.requires.before c.requires.after c.in-None.ensures)
