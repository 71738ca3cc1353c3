-- What one decision has counted where one of its runs is refused memory.
use Rattle.std.proofs.Common.{◌≡◌, ◌⊎◌, ℕ, ◌+◌, ◌≤◌, max, Bool, true, false, inl, inr, ℤ, refl, ap, arith}
use Rattle.std.proofs.lemmas.Bool.{true≢false}
use Rattle.bb_machine.specs.Limits.{Bounds}
use Rattle.bb_machine.specs.Machine.{Table}
use Rattle.bb_sim.specs.declared.meter.Meter.{Meter}
use Rattle.bb_sim.specs.Meter.{CountsPart, CountsTo}
use Rattle.bb_sim.specs.Span.{span}
use Rattle.bb_sim.specs.Configuration.{start}
use Rattle.bb_sim.proofs.Facts.{conf-start, span_grows}
use Rattle.bb_tape.specs.Content.{Content, blank}
use Rattle.bb_decide.specs.Cycle.{CountsSearch, FindsCycle}
use Rattle.bb_decide.specs.SinglePassCost.{BreaksOff, IsStoppedAt, LeavesRegisters, RunsBefore}
use Rattle.bb_decide.specs.declared.search_result.SearchResult.{SearchResult}
use Rattle.bb_decide.specs.inside.SearchResult.{CutsSinglePass, RanAs, found_of, is_settled}
use Rattle.bb_decide.proofs.Costs.{makes_cycles}
use Rattle.bb_decide.proofs.RunsMade.{both_open, widest}

-- nothing was done on the blank tape
part_at_first : {table : Table} {bounds : Bounds} {tape : Content} (n : ℕ) → LeavesRegisters table bounds n → (new : Meter)
    → span table 0 ≤ new.most_cells → tape ≡ blank → CountsPart table bounds tape new new
part_at_first {table} n leaves new wide is =
    let grows = span_grows table 0 n (omega arith) in
    let least = span_grows table 0 1 (omega arith) in
    record {
      at = 0;
      inside = record {
        here = start;
        exists = conf-start table;
        within_steps = omega arith;
        within_cells = omega (arith, grows, leaves.inside.within_cells);
      };
      on_tape = is;
      steps = omega arith;
      cells = omega (arith, wide);
      few_cells = omega arith;
    }

module _ {key : ℤ → ℕ} {table : Table} {bounds : Bounds} where
  -- after runs that made so many steps
  breaks : {cyclers translated : Bool} (before latest : ℕ) {tape : Content}
      → (old mid new : Meter) → (part : CountsPart table bounds tape mid new)
      → RunsBefore key table bounds cyclers translated before latest part.at → mid.steps ≡ old.steps + before
      → max old.most_cells (span table 0) ≤ max mid.most_cells (span table 0)
      → max mid.most_cells (span table 0) ≡ max old.most_cells (span table latest)
      → BreaksOff key table bounds cyclers translated tape old new
  breaks before latest old mid new part runs is grown counted =
      let wide = span_grows table 0 part.at (omega arith) in
      let wider = span_grows table part.at (part.at + 1) (omega arith) in
      let first = span_grows table 0 latest (omega arith) in
      record {
        before = before;
        latest = latest;
        part = part.at;
        runs = runs;
        inside = part.inside;
        on_tape = part.on_tape;
        steps = let steps = part.steps in omega (arith, steps, is);
        cells = let cells = part.cells in omega (arith, cells, wide, first, counted);
        few_cells = let cells = part.few_cells in omega (arith, cells, wide, wider, first, counted);
      }

  -- in the only run, where not both searches are on
  pub breaks_alone : {tape : Content} (cyclers translated : Bool) → (cyclers ≡ false) ⊎ (translated ≡ false)
      → (old new : Meter) → CountsPart table bounds tape old new
      → BreaksOff key table bounds cyclers translated tape old new
  breaks_alone true true (inl off) old new part = absurd (true≢false off)
  breaks_alone true true (inr off) old new part = absurd (true≢false off)
  breaks_alone cyclers translated alone old new part =
      breaks 0 0 old old new part (refl, refl) (omega arith) (omega arith) refl

  -- in registers, with no memory for the tape
  pub breaks_in_registers : {tape : Content} (old new : Meter) (n : ℕ) → LeavesRegisters table bounds n
      → CountsTo table n old new → tape ≡ blank → BreaksOff key table bounds true true tape old new
  unfolding part_at_first
  breaks_in_registers old new n leaves counts is =
      let least = span_grows table 0 n (omega arith) in
      let steps : new.steps ≡ old.steps + n = ap (λ (m : Meter). m.steps) counts in
      let cells : new.most_cells ≡ max old.most_cells (span table n) = ap (λ (m : Meter). m.most_cells) counts in
      breaks n n old new new (part_at_first n leaves new (omega (arith, cells, least)) is)
      (inr (inl (leaves, refl, refl))) steps (omega (arith, cells)) (omega (arith, cells, least))

  -- the single-pass run
  pub breaks_single_pass : {tape : Content} (old new : Meter) → CutsSinglePass table bounds tape old new
      → BreaksOff key table bounds true true tape old new
  breaks_single_pass old new (inl cut) =
      breaks 0 0 old old new cut.0 (inl (refl, refl, cut.1)) (omega arith) (omega arith) refl
  breaks_single_pass old new (inr cut) = breaks_in_registers old new cut.0 cut.1 cut.2 cut.3

  -- after the single-pass run was stopped
  module _ {n : ℕ} (stopped : IsStoppedAt key table bounds n) (old : Meter) {first : Meter}
      (counts : CountsTo table n old first) where
    stop_steps : first.steps ≡ old.steps + n
    stop_steps = ap (λ (m : Meter). m.steps) counts

    stop_cells : first.most_cells ≡ max old.most_cells (span table n)
    stop_cells = ap (λ (m : Meter). m.most_cells) counts

    -- in the search for cycles
    pub breaks_in_cycles : {tape : Content} (new : Meter) → CountsPart table bounds tape first new
        → BreaksOff key table bounds true true tape old new
    breaks_in_cycles new part =
        let least = span_grows table 0 n (omega arith) in
        breaks n n old first new part (inr (inr (inl (stopped, refl)))) stop_steps (omega (arith, stop_cells))
        (omega (arith, stop_cells, least))

    -- in the search for records
    pub breaks_in_records : {tape : Content} (second : Meter) (search_result : SearchResult) → is_settled search_result ≡ false
        → FindsCycle table bounds (found_of search_result) → RanAs table bounds search_result
        → CountsSearch table bounds first second (found_of search_result) → (new : Meter)
        → CountsPart table bounds tape second new → BreaksOff key table bounds true true tape old new
    breaks_in_records second search_result unsettled finds ran searched new part =
        let made = makes_cycles table bounds (found_of search_result) finds searched in
        let none = both_open search_result unsettled finds ran in
        let steps : second.steps ≡ first.steps + made.steps = ap (λ (m : Meter). m.steps) made.counts in
        let cells : second.most_cells ≡ max first.most_cells (span table made.steps) =
        ap (λ (m : Meter). m.most_cells) made.counts in
        let least = span_grows table 0 n (omega arith) in
        breaks (n + made.steps) (max n made.steps) old second new part
        (inr (inr (inr (n, made.steps, stopped, none.0, none.1, made.is_steps, refl, refl))))
        (omega (arith, steps, stop_steps)) (omega (arith, cells, stop_cells))
        (omega (arith, cells, stop_cells, least, widest table n made.steps))
