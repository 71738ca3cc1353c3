-- What a trace comes to, by whether the line is a machine's text.
use Rattle.std.proofs.Common.{◌≡◌, ℕ, ◌+◌, ◌*◌, ◌≤◌, ◌↔◌, IsTrue, Bool, false, List, [], ◌∷◌, ◌++◌}
use Rattle.std.proofs.Common.{sym, ◌∙◌, subst, ap, arith, length, refl, inl, inr, take, Option, Result}
use Rattle.std.proofs.Common.{Ok, Err}
use Rattle.std.proofs.Math.Path.{fun_ext}
use Rattle.std.proofs.Common.{map}
use Rattle.std.specs.List.{range_with_len}
use Rattle.std.specs.Io.KnownBytes.{Appends}
use Rattle.std.proofs.lemmas.List.{append-nil}
use Rattle.std.proofs.lemmas.List.FromFn.{length-map-range_with_len}
use Rattle.std.proofs.lemmas.List.FromFn.{take-map-range_with_len}
use Rattle.bb_machine.specs.Laws.{TextsDiffer}
use Rattle.bb_machine.specs.Limits.{Bounds}
use Rattle.bb_machine.specs.Machine.{Table, IsMachineLine, IsTextOf}
use Rattle.bb_machine.specs.Column.{IsColumn}
use Rattle.bb_sim.specs.Span.{span, IsLastInside}
use Rattle.bb_cert.specs.verdict.Line.{refusal_text}
use Rattle.bb_lines.specs.declared.fault.Fault.{Fault}
use Rattle.bb_lines.specs.declared.fault.Fault.TheVariants.{Memory, Write}
use Rattle.bb_lines.specs.Ends.{AppendsPrefix}
use Rattle.bb_lines.specs.Output.{Sends}
use Rattle.bb_run.specs.declared.summary.Summary.{Summary}
use Rattle.bb_run.specs.declared.tracing.Form.{Form}
use Rattle.bb_run.specs.declared.tracing.Form.TheVariants.{Plain, WithLow}
use Rattle.bb_run.specs.Ends.{TraceEnds}
use Rattle.bb_run.specs.Sample.{AppendsFirstLines, IsSampledRun, IsSampledTraceIn, IsSampleSize, SampledEnds}
use Rattle.bb_run.specs.Sample.{sampled_lines}
use Rattle.bb_run.specs.Trace.{line_text, lines_text, step_lines, step_text, AppendsSomeLines, IsRunTrace}
use Rattle.bb_run.specs.Trace.{IsTrace}
use Rattle.bb_run.specs.Trace.{IsUncut}
use Rattle.bb_run.specs.inside.RunningOn.{AddedEnds, EndsEarly, RunEnds, WaitsWith, WrittenEnds}
use Rattle.bb_run.proofs.SampledRuns.{size_grows, size_is_unique}
use Rattle.bb_lines.proofs.Facts.{AppendsPrefix-more}

module _ {bounds : Bounds} {line : List ℕ} where
  -- what is said by the machine's table is said by the line
  uncut : TextsDiffer → {table : Table} → IsTextOf table line → (whole : Bool)
      → IsTrue whole ↔ (span table bounds.steps ≤ bounds.cells) → IsTrue whole ↔ IsUncut bounds line
  uncut one {table} of whole fits = (
    λ e. record { table = table; of = of; fits = fits.0 e },
    λ is. fits.1 (subst (λ t. span t bounds.steps ≤ bounds.cells)
        (one is.table table is.of.machine of.machine (is.of.is_text ∙ sym of.is_text)) is.fits),
  )

module _ {form : Form} {bounds : Bounds} {from every : ℕ} {line : List ℕ} where
  pub added_run : TextsDiffer → {table : Table} → IsTextOf table line → {last count : ℕ}
      → IsLastInside table bounds last → IsSampleSize from every last count
      → (old new : Option (List ℕ)) (waiting : List ℕ) → (r : Result Bool Fault)
      → RunEnds form bounds from every table last count old new waiting r
      → AddedEnds form bounds from every line old new waiting r
  added_run one {table} of {last} {count} is_last size old new waiting r ends =
      (sampled_lines form table from every count, inl run, by_line r ends)
    where
      run : IsSampledRun form bounds from every line (sampled_lines form table from every count)
      run = record {
        table = table;
        of = of;
        last = last;
        is_last = is_last;
        count = count;
        is_size = size;
        are_lines = refl;
      }

      by_line : (r : Result Bool Fault) → RunEnds form bounds from every table last count old new waiting r
          → WaitsWith form bounds from every line old new waiting (sampled_lines form table from every count) r
      by_line (Ok whole) ends = (ends.0, uncut one of whole ends.1)
      by_line (Err Memory) ends = record { run = run; stops = ends }
      by_line r ends = ends

  module _ {column : ℕ} (no_machine : IsMachineLine line → ⊥) (is_column : IsColumn line column) where
    refused : IsSampledTraceIn form bounds from every line (refusal_text column ∷ [])
    refused =
        inr (record {
          no_machine = no_machine;
          column = column;
          is_column = is_column;
          are_lines = refl;
        })

    pub added_refusal : {old new : Option (List ℕ)} {waiting : List ℕ}
        → Sends old new [] waiting (refusal_text column ++ 10 ∷ [])
        → AddedEnds form bounds from every line old new waiting (Ok false)
    added_refusal {old} {new} {waiting} added = (
      refusal_text column ∷ [],
      refused,
      (
        subst (λ bytes. Sends old new [] waiting bytes) (sym (append-nil (refusal_text column ++ 10 ∷ [])))
            added,
        (λ wrong. cc, λ is. absurd (no_machine (is.table, is.of))),
      ),
    )

    pub failed_refusal : {old new : Option (List ℕ)} (waiting : List ℕ) → AppendsPrefix old new []
        → AddedEnds form bounds from every line old new waiting (Err Write)
    failed_refusal waiting front = (
      refusal_text column ∷ [],
      refused,
      AppendsPrefix-more (lines_text (refusal_text column ∷ [])) front,
    )

-- where it stops early, the first of the lines are written
module _ {form : Form} {bounds : Bounds} {from every : ℕ} {line : List ℕ} {old new : Option (List ℕ)}
    {lines : List (List ℕ)} (early : EndsEarly form bounds from every line old new lines) where
  few_lines : early.stops.count ≤ early.run.count
  few_lines =
      size_grows (omega (arith, early.stops.before)) early.stops.is_size early.run.is_size

  long_lines : length lines ≡ early.run.count
  long_lines =
      ap length early.run.are_lines
      ∙ length-map-range_with_len (λ k. line_text form early.run.table (from + every * k)) 0 early.run.count

  begun_lines : Appends old new (lines_text (take early.stops.count lines))
  begun_lines =
      let printed : ℕ → List ℕ = λ k. line_text form early.run.table (from + every * k) in
      let first : take early.stops.count lines ≡ sampled_lines form early.run.table from every early.stops.count =
      ap (take early.stops.count) early.run.are_lines
      ∙ take-map-range_with_len printed 0 early.run.count early.stops.count few_lines in
      subst (λ l. Appends old new (lines_text l)) (sym first) early.stops.appends

  first_lines : AppendsFirstLines old new lines
  first_lines =
      record {
        count = early.stops.count;
        within = omega (arith, few_lines, long_lines);
        appends = begun_lines;
      }

pub sampled_ends : {bounds : Bounds} {from every : ℕ} {line : List ℕ} (old new : Option (List ℕ))
    (r : Result Summary Fault) → WrittenEnds WithLow bounds from every line old new r
    → SampledEnds bounds from every line old new r
sampled_ends old new (Err Memory) ends = (ends.0, ends.1, first_lines ends.2)
sampled_ends old new r ends = ends

-- from step 0 on each step is printed
all_printed : (table : Table) (count : ℕ) → sampled_lines Plain table 0 1 count ≡ step_lines table count
all_printed table count =
    let same : (λ (k : ℕ). line_text Plain table (0 + 1 * k)) ≡ step_text table =
    fun_ext (λ k. ap (step_text table) (omega arith)) in
    ap (λ printed. map printed (range_with_len 0 count)) same

-- up to a step there is one more
all_size : {last count : ℕ} → IsSampleSize 0 1 last count → count ≡ last + 1
all_size {last} {count} size =
    let all : IsSampleSize 0 1 last (last + 1) = record {
      are = λ k. (λ few. omega (arith, few), λ early. omega (arith, early));
    } in
    size_is_unique size all

all_run : {bounds : Bounds} {line : List ℕ} {lines : List (List ℕ)} → IsSampledRun Plain bounds 0 1 line lines
    → IsRunTrace bounds line lines
all_run run = record {
  table = run.table;
  of = run.of;
  last = run.last;
  is_last = run.is_last;
  are_lines = run.are_lines ∙ all_printed run.table run.count
      ∙ ap (step_lines run.table) (all_size run.is_size);
}

all_trace : {bounds : Bounds} {line : List ℕ} {lines : List (List ℕ)}
    → IsSampledTraceIn Plain bounds 0 1 line lines
    → IsTrace bounds line lines
all_trace (inl run) = inl (all_run run)
all_trace (inr refused) = inr refused

-- where it stops early, they aren't all
some_lines : {bounds : Bounds} {line : List ℕ} {old new : Option (List ℕ)} {lines : List (List ℕ)}
    → EndsEarly Plain bounds 0 1 line old new lines → AppendsSomeLines old new lines
some_lines early =
    let all = all_size early.run.is_size in
    record {
      count = early.stops.count;
      not_all = omega (arith, early.stops.before, all_size early.stops.is_size, all, long_lines early);
      appends = begun_lines early;
    }

pub trace_ends : {bounds : Bounds} {line : List ℕ} (old new : Option (List ℕ)) (r : Result Summary Fault)
    → WrittenEnds Plain bounds 0 1 line old new r → TraceEnds bounds line old new r
trace_ends old new (Err Memory) ends = (ends.0, all_trace ends.1, some_lines ends.2)
trace_ends old new r ends = (ends.0, all_trace ends.1, ends.2)
