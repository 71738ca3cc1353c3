-- The extent of a continued run, and the output of a sampled trace that stops early. This project's own.
use Rattle.std.specs.Prelude.{◌≡◌, ℕ, ◌+◌, ◌<◌, ◌≤◌, ◌↔◌, Bool, IfOk, IsTrue, List, [], OnErr, OnOk, Option}
use Rattle.std.specs.Prelude.{Result}
use Rattle.std.specs.Io.KnownBytes.{Appends}
use Rattle.bb_machine.specs.Limits.{Bounds}
use Rattle.bb_machine.specs.Machine.{Table}
use Rattle.bb_tape.specs.TapeView.{TapeView}
use Rattle.bb_tape.specs.declared.tape.Memory.{Memory}
use Rattle.bb_sim.specs.declared.runner.Runner.{Runner}
use Rattle.bb_sim.specs.Runner.{Stands, steps_of}
use Rattle.bb_sim.specs.Span.{span, Inside, IsLastInside}
use Rattle.bb_lines.specs.declared.fault.Fault.{Fault}
use Rattle.bb_lines.specs.Ends.{AppendsPrefix, MatchEnd}
use Rattle.bb_lines.specs.Output.{Sends}
use Rattle.bb_run.specs.declared.summary.Summary.{Summary}
use Rattle.bb_run.specs.declared.tracing.Form.{Form}
use Rattle.bb_run.specs.declared.tracing.RunStatus.{RunStatus}
use Rattle.bb_run.specs.declared.tracing.RunStatus.TheVariants.{Whole, Ended, Cut}
use Rattle.bb_run.specs.Sample.{IsSampledRun, IsSampledTraceIn, IsSampleSize, sampled_lines}
use Rattle.bb_run.specs.Trace.{IsTraceSummary, IsUncut, lines_text}

-- from step `old` on it went to the last step inside, which is less than so many steps away
pub record EndsWithin (table : Table) (bounds : Bounds) (old count new : ℕ) : Type 0 where
  pub is_last : IsLastInside table bounds new
  pub from_old : old ≤ new
  pub few : new < old + count

-- from step `old` on it went so many steps; else to the last one inside, which the limit of cells made the
-- last or not
abbrev pub RunsOnTo : Table → Bounds → ℕ → ℕ → ℕ → RunStatus → Type 0
RunsOnTo table bounds old count new Whole = Inside table bounds new × (new ≡ old + count)
RunsOnTo table bounds old count new Ended =
    EndsWithin table bounds old count new × (span table bounds.steps ≤ bounds.cells)
RunsOnTo table bounds old count new Cut =
    EndsWithin table bounds old count new × (bounds.cells < span table bounds.steps)

-- so many steps from step `old` on there is one inside, by which the run had not come so far
pub record IsWantedBefore (table : Table) (bounds : Bounds) (old count : ℕ) : Type 0 where
  pub at : ℕ
  pub from_old : old ≤ at
  pub few : at < old + count
  pub next : Inside table bounds (at + 1)

-- the promise of `continue_run` on a call, shared by it and by its inlined body
pub record RunsOn (grows : Bool) (table : Table) (bounds : Bounds) (old new : Runner)
    (view_old view_new : TapeView) (count : ℕ) (result : Result RunStatus Memory) : Type 0 where
  -- the runner stands on the tape, but after an error
  pub stands : OnOk result (Stands table new view_new)
  -- how far it went on
  pub ran : IfOk result (RunsOnTo table bounds (steps_of old) count (steps_of new))
  -- the tape's limit stays
  pub limit : view_new.limit ≡ view_old.limit
  -- an error comes only on a tape that grows
  pub memory : OnErr result (IsTrue grows)
  -- and only where one of so many steps was still to be made
  pub wanted : OnErr result (IsWantedBefore table bounds (steps_of old) count)

-- known bytes grow by the sampled lines up to a step before the last
pub record StopsBefore (form : Form) (table : Table) (from every last : ℕ) (old new : Option (List ℕ))
    : Type 0 where
  pub at : ℕ
  pub before : at < last
  pub count : ℕ
  pub is_size : IsSampleSize from every at count
  pub appends : Appends old new (lines_text (sampled_lines form table from every count))

-- the line is a machine's text, and known bytes grow by the sampled lines up to a step before the last one
-- inside
pub record EndsEarly (form : Form) (bounds : Bounds) (from every : ℕ) (line : List ℕ)
    (old new : Option (List ℕ)) (lines : List (List ℕ)) : Type 0 where
  pub run : IsSampledRun form bounds from every line lines
  pub stops : StopsBefore form run.table from every run.last old new

-- how a trace ends that is written: with its lines, or early
abbrev pub WrittenEnds : Form → Bounds → ℕ → ℕ → List ℕ → Option (List ℕ) → Option (List ℕ)
    → Result Summary Fault → Type 0
WrittenEnds form bounds from every line old new end =
    (lines : List (List ℕ)) × IsSampledTraceIn form bounds from every line lines × MatchEnd end
    (λ summary. Appends old new (lines_text lines) × IsTraceSummary bounds line summary)
    (EndsEarly form bounds from every line old new lines)
    ⊥
    (AppendsPrefix old new (lines_text lines))

-- how one with these lines ends, the last of which wait to be written
abbrev pub WaitsWith : Form → Bounds → ℕ → ℕ → List ℕ → Option (List ℕ) → Option (List ℕ) → List ℕ
    → List (List ℕ) → Result Bool Fault → Type 0
WaitsWith form bounds from every line old new waiting lines end = MatchEnd end
    (λ whole. Sends old new [] waiting (lines_text lines) × (IsTrue whole ↔ IsUncut bounds line))
    (EndsEarly form bounds from every line old new lines)
    ⊥
    (AppendsPrefix old new (lines_text lines))

-- how that of a line ends
abbrev pub AddedEnds : Form → Bounds → ℕ → ℕ → List ℕ → Option (List ℕ) → Option (List ℕ) → List ℕ
    → Result Bool Fault → Type 0
AddedEnds form bounds from every line old new waiting end = (lines : List (List ℕ))
    × IsSampledTraceIn form bounds from every line lines
    × WaitsWith form bounds from every line old new waiting lines end

-- the result for a machine with its run's last step here
abbrev pub RunEnds : Form → Bounds → ℕ → ℕ → Table → ℕ → ℕ → Option (List ℕ) → Option (List ℕ) → List ℕ
    → Result Bool Fault → Type 0
RunEnds form bounds from every table last count old new waiting end = MatchEnd end
    (λ whole. Sends old new [] waiting (lines_text (sampled_lines form table from every count))
    × (IsTrue whole ↔ (span table bounds.steps ≤ bounds.cells)))
    (StopsBefore form table from every last old new)
    ⊥
    (AppendsPrefix old new (lines_text (sampled_lines form table from every count)))
