-- How serving ends, and the exit status at each end: this project's own.
use Rattle.std.specs.Prelude.{◌≡◌, ℕ, ◌⊎◌, List, Option, Result, Ok, Err, false, if◌then◌else◌}
use Rattle.std.specs.String.{string_bytes}
use Rattle.bb_machine.specs.Limits.{Bounds}
use Rattle.bb_machine.specs.Machine.{IsMachine, Table, text}
use Rattle.bb_machine.specs.declared.plan.Plan.{Plan}
use Rattle.bb_lines.specs.declared.fault.Fault.{Fault}
use Rattle.bb_run.specs.declared.summary.Summary.{Summary}
use Rattle.bb_run.specs.CheckEnds.{CheckEnds}
use Rattle.bb_run.specs.Ends.{DecideEnds, DecideInSinglePassEnds, TraceEnds}
use Rattle.bb_command.specs.declared.command.Work.{Work}
use Rattle.bb_command.specs.declared.command.Work.TheVariants.{Decide, Check, Trace}
use Rattle.bb_terminal.specs.NotBegun.{IsNotBegun}

-- the result of started work: for a list to decide by `Decides`; a trace reads nothing
abbrev pub WorkEnds : (Plan → Type 0) → Work → Bounds → Option (List ℕ) → Option (List ℕ) → Option (List ℕ)
    → Option (List ℕ) → Result Summary Fault → Type 0
WorkEnds Decides (Decide plan) bounds left left_then held held_then end = Decides plan
WorkEnds Decides Check bounds left left_then held held_then end =
    CheckEnds bounds left left_then held held_then end
WorkEnds Decides (Trace text) bounds left left_then held held_then end =
    (left_then ≡ left) × TraceEnds bounds (string_bytes text) held held_then end

-- the result of serving, with the summary by the definition of a verdict: that of the work, or a failure
-- before its start
abbrev pub ServeEnds : Work → Bounds → Option (List ℕ) → Option (List ℕ) → Option (List ℕ)
    → Option (List ℕ) → Result Summary Fault → Type 0
ServeEnds work bounds left left_then held held_then end =
    WorkEnds (λ plan. DecideEnds bounds plan left left_then held held_then end)
    work bounds left left_then held held_then end
    ⊎ IsNotBegun left left_then held held_then end

-- the same where each machine of a list is decided in a single pass
abbrev pub ServeInSinglePassEnds : Work → Bounds → Option (List ℕ) → Option (List ℕ) → Option (List ℕ)
    → Option (List ℕ) → Result Summary Fault → Type 0
ServeInSinglePassEnds work bounds left left_then held held_then end =
    WorkEnds (λ plan. DecideInSinglePassEnds bounds plan left left_then held held_then end)
    work bounds left left_then held held_then end
    ⊎ IsNotBegun left left_then held held_then end

-- the exit status at each end
abbrev pub end_status : Result Summary Fault → ℕ
end_status (Ok summary) = if summary.clean then 0 else 1
end_status (Err fault) = 3

-- a trace that the limit of cells cuts: its text is a machine, and its summary isn't clean
abbrev pub IsCut : Work → Result Summary Fault → Type 0
IsCut (Trace word) (Ok summary) =
    (summary.clean ≡ false) × (machine : Table) × IsMachine machine × (text machine ≡ string_bytes word)
IsCut work end = ⊥
