-- The entry of a step, from the symbol that it reads.
use Rattle.std.proofs.Common.{◌≡◌, ℕ, ◌+◌, Some, ap, sym, ◌∙◌, add-one}
use Rattle.bb_machine.specs.declared.entry.Next.TheVariants.{Halt, State}
use Rattle.bb_machine.specs.Machine.{Table}
use Rattle.bb_sim.specs.declared.runner.Runner.{Runner}
use Rattle.bb_sim.specs.Run.{conf}
use Rattle.bb_sim.specs.Runner.{state_of, steps_of}
use Rattle.bb_sim.proofs.Facts.{halts_in_Z}
use Rattle.bb_cert.specs.checker.Course.{IsReadAt, IsRunnerAt}
use Rattle.bb_cert.proofs.Facts.{moves}
use Rattle.laws_of_recurrence.specs.Recurrence.{Transition, transition_at}
use Rattle.laws_of_recurrence.proofs.Facts.{transition_at-is}
use Rattle.bb_recurrence.specs.History.{UsesEntry}
use Rattle.bb_recurrence.specs.Lockstep.{transition_here}
use Rattle.bb_recurrence.proofs.Histories.{entry_used}

module _ {table : Table} {n symbol : ℕ} {runner : Runner} (reads : IsReadAt table n symbol)
    (before : IsRunnerAt table n runner) where
  read_here : transition_at table n ≡ Some (transition_here reads.runner reads.view)
  read_here = ap (transition_at table) (sym reads.at) ∙ transition_at-is table _ _ reads.stands.at

  stands_here : transition_at table n ≡ Some (transition_here runner before.view)
  stands_here = ap (transition_at table) (sym before.at) ∙ transition_at-is table _ _ before.stands.at

  pub read_entry : (q : ℕ) → state_of runner ≡ State q → UsesEntry table n q symbol
  read_entry q is =
      let same : transition_here reads.runner reads.view ≡ transition_here runner before.view =
      (let one = read_here in let other = stands_here in cc) in
      entry_used table n q symbol _ read_here (ap (λ (t : Transition). t.state) same ∙ is) (sym reads.reads)

-- a step that is made isn't one of Z
pub not_in_Z : {table : Table} {runner next : Runner} → IsRunnerAt table (steps_of runner) runner
    → IsRunnerAt table (steps_of runner + 1) next → state_of runner ≡ Halt → ⊥
not_in_Z {table} {runner} before after halt =
    let halts = halts_in_Z table runner before.view before.stands halt in
    let later = after.at ∙ add-one (steps_of runner) in
    let step = moves table (steps_of runner) (record {
      here = _;
      exists = ap (conf table) (sym later) ∙ after.stands.at;
    }) in
    let last = halts.exists in
    let at = step.at_before in
    let none = halts.no_next in
    let some = step.is_next in
    cc
