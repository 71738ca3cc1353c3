-- Why halts in few cells are early, and long runs in few cells never halt.
use Rattle.std.proofs.Common.{ℕ, inl, inr, arith}
use Rattle.std.proofs.lemmas.Bool.{cases_lt}
use Rattle.bb_machine.specs.Machine.{Table}
use Rattle.bb_sim.specs.FewCells.{configurations_in, RepeatsBy}
use Rattle.bb_sim.specs.Run.{Exists, Never}
use Rattle.bb_sim.proofs.Facts.{few_cells_repeat_before, running_below, span_grows}
use Rattle.bb_cert.specs.claims.FewCells.{HaltsInFewCellsAreEarly, LongRunsInFewCellsNeverHalt}
use Rattle.bb_cert.proofs.claim_lemmas.Repeats.{repeats_never_halt}

-- where one configuration stands at two steps, the machine never halts
never_by_pair : (table : Table) (latest : ℕ) → RepeatsBy table latest → Never table
never_by_pair table latest pair = repeats_never_halt table pair.first pair.second pair.in_order
    (record { here = pair.here; at_first = pair.at_first; at_second = pair.at_second })

pub long_runs_in_few_cells_never_halt : LongRunsInFewCellsNeverHalt
long_runs_in_few_cells_never_halt table cells n machine long running narrow =
    never_by_pair table (configurations_in table cells)
    (few_cells_repeat_before table cells n machine long running narrow)

pub halts_in_few_cells_are_early : HaltsInFewCellsAreEarly
halts_in_few_cells_are_early table cells n machine halts narrow =
    let few = configurations_in table cells in
    elim (cases_lt few n) [
      | inl long ↦
          let there : Exists table n = record { here = halts.last; exists = halts.exists } in
          let running = running_below table few n long there in
          let never = long_runs_in_few_cells_never_halt table cells few machine (omega arith) running
          (omega (arith, span_grows table few n (omega (arith, long)), narrow)) in
          absurd (never.never n halts)
      | inr early ↦ early
    ]
