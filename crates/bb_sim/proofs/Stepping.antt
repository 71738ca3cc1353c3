-- A runner's step, from what it stands on to what it stands on next.
use Rattle.std.proofs.Common.{◌≡◌, ◌≢◌, ℕ, ◌+◌, ◌<◌, ◌≤◌, ℤ, ◌+ℤ◌, ◌≤ℤ◌, pos, Some, length, refl, ap, sym}
use Rattle.std.proofs.Common.{◌∙◌, arith, rules, Bool, IsTrue, Ok, Err}
use Rattle.bb_tape.specs.declared.tape.Memory.{Memory}
use Rattle.std.specs.Int.{int_min, int_max}
use Rattle.std.proofs.lemmas.Int.{ints, clamps}
use Rattle.bb_machine.specs.declared.entry.Dir.{Dir}
use Rattle.bb_machine.specs.declared.entry.Next.{Next}
use Rattle.bb_machine.specs.declared.entry.Next.TheVariants.{State, Halt}
use Rattle.bb_machine.specs.declared.entry.Entry.TheVariants.{Undefined, Go}
use Rattle.bb_machine.specs.declared.entry.Entry.{Entry}
use Rattle.bb_machine.specs.declared.entry.Dir.TheVariants.{L, R}
use Rattle.bb_machine.specs.declared.entry.Step.{Step}
use Rattle.bb_machine.specs.Limits.{Bounds}
use Rattle.bb_machine.specs.Entry.{IsEntryOf, offset_of, step_of}
use Rattle.bb_machine.specs.Machine.{Table, symbols_of, entry_of}
use Rattle.bb_tape.specs.Content.{Content, cell, with_cell}
use Rattle.bb_tape.specs.TapeView.{TapeView, visited, written, IsInside, IsBeside, IsSound}
use Rattle.bb_tape.proofs.Facts.{cell-with_cell-same, cell-with_cell-other, by_position}
use Rattle.bb_sim.specs.declared.runner.Runner.{Runner}
use Rattle.bb_sim.specs.Configuration.{beside, entry_at}
use Rattle.bb_sim.specs.Run.{HaltsAt}
use Rattle.bb_sim.specs.CellsBetween.{cells_between}
use Rattle.bb_sim.specs.Span.{counted_position, counted_head, span}
use Rattle.bb_sim.specs.Runner.{Stands, Answers, Moves, Reaches, Stays, state_of, position_of, steps_of}
use Rattle.bb_sim.specs.Runner.{low_of}
use Rattle.bb_sim.specs.Runner.{high_of}
use Rattle.bb_sim.specs.inside.Advancing.{Advances}
use Rattle.bb_sim.specs.inside.Widening.{GoesNowhere, IsWidened, StepsTo}
use Rattle.bb_sim.specs.Meter.{stepped}
use Rattle.bb_sim.specs.declared.meter.Meter.{Meter}
use Rattle.bb_sim.specs.declared.runner.Moved.{Moved}
use Rattle.bb_sim.specs.declared.runner.Moved.TheVariants as moved
use Rattle.bb_sim.proofs.Positions.{least-next, greatest-next}
use Rattle.bb_sim.proofs.Steps.{counted_head-at, halts_here, conf-next, goes_on, span-next}
use Rattle.bb_sim.proofs.Standing.{near_head, inside_fits, inside_stays}
use Rattle.bb_sim.proofs.Outcomes.{inside_here, next_inside}

pub no_entry_in_Z : (table : Table) (state : Next) (symbol : ℕ) (write : ℕ) (dir : Dir) (next : Next)
    → Go write dir next ≡ entry_at table state symbol → state ≢ Halt
no_entry_in_Z table (State q) symbol write dir next here = λ e. cc
no_entry_in_Z table Halt symbol write dir next here = cc

-- a written cell has a symbol of the machine, and the others keep theirs
pub symbols_stay : (content : Content) (head : ℤ) (write symbols : ℕ) → write < symbols
    → ((p : ℤ) → cell content p < symbols) → (p : ℤ) → cell (with_cell content head write) p < symbols
symbols_stay content head write symbols small all p =
    by_position p head _
    (λ e. rw (e, cell-with_cell-same content head write) small)
    (λ ne. rw (cell-with_cell-other content head write p ne) (all p))

-- a wider window has the positions of the old one
pub inside_visited : (view wider : TapeView) (position p : ℤ) → wider ≡ visited view position
    → IsInside view p → IsInside wider p
inside_visited view wider position p is inside = rw is (omega (arith, ints, clamps))

-- a position beside the old window is beside the new one, whatever was written
pub beside_visited : (view wider new : TapeView) (position at p : ℤ) (symbol : ℕ)
    → wider ≡ visited view position → new ≡ written wider at symbol → IsBeside view p → IsBeside new p
beside_visited view wider new position at p symbol is written_is near =
    rw (written_is, is) (omega (arith, ints, clamps))

-- a runner's window is in order
pub order : (table : Table) (runner : Runner) (view : TapeView) → Stands table runner view → IsSound view
    → low_of runner ≤ℤ high_of runner
order table runner view stands sound = omega (arith, ints)

module _ (table : Table) (old : Runner) (view : TapeView) (stands : Stands table old view) where
  pub halts_undefined : Undefined ≡ entry_at table old.state (cell view.content old.position)
      → HaltsAt table old.steps
  halts_undefined here = halts_here table old.steps _ stands.at (sym here)

pub nothing : {runner : Runner} {view : TapeView} {meter : Meter} → Stays runner runner view view meter meter
nothing = record { runner = refl; view = refl; meter = refl }

-- a call that answers, and one that is refused
module _ {grows : Bool} {table : Table} {bounds : Bounds} {old : Runner} {view : TapeView}
    {meter : Meter} where
  pub answered : {new : Runner} {view_new : TapeView} {meter_new : Meter} (answer : Moved)
      → Answers table bounds old.steps answer → Moves table old new view view_new meter meter_new answer
      → Reaches table bounds new view_new answer → Stands table new view_new → view_new.limit ≡ view.limit
      → Advances grows table bounds old new view view_new meter meter_new (Ok answer)
  answered answer answers moves reaches stands limit = search rules

  pub refused : {new : Runner} {view_new : TapeView} {meter_new : Meter} {fault : Memory}
      → Answers table bounds old.steps moved.Stepped → view_new.limit ≡ view.limit
      → IsTrue grows → meter_new ≡ meter → steps_of new ≡ steps_of old → view_new.content ≡ view.content
      → cells_between (low_of new) (high_of new) ≡ span table (steps_of old + 1)
      → Advances grows table bounds old new view view_new meter meter_new (Err fault)
  refused wanted limit memory uncounted unmade unwritten window = search rules

module _ {table : Table} {old : Runner} {view : TapeView} {write : ℕ} {dir : Dir} {next : Next}
    (stands : Stands table old view)
    (here : Go write dir next ≡ entry_at table old.state (cell view.content old.position)) where
  pub running : old.state ≢ Halt
  running = no_entry_in_Z table old.state _ write dir next here

  pub moves_on : HaltsAt table old.steps → ⊥
  moves_on = goes_on table old.steps _ stands.at write dir next (sym here)

  -- the position that the step's end counts for
  abbrev pub counts_for : ℤ
  counts_for = counted_position next (beside dir old.position)

  pub next-counted_head : counted_head table (old.steps + 1) ≡ counts_for
  next-counted_head =
      counted_head-at table
      (old.steps + 1) _ (conf-next table old.steps _ stands.at write dir next (sym here))

  pub next-span : span table (old.steps + 1)
      ≡ cells_between (int_min view.low counts_for) (int_max view.high counts_for)
  next-span = span-next table old.steps
      ∙ rw (next-counted_head, stands.window_low ∙ stands.low, stands.window_high ∙ stands.high) refl

  -- a window that has taken that position in has the cells of the span up to the next step
  pub widened_span : (low high : ℤ) → low ≡ int_min (low_of old) counts_for
      → high ≡ int_max (high_of old) counts_for → cells_between low high ≡ span table (old.steps + 1)
  widened_span low high is_low is_high =
      rw (is_low, is_high, ← stands.window_high, ← stands.window_low) (sym next-span)

  -- a runner and its tape after the step
  pub record Stepped (new : Runner) (view_new : TapeView) : Type 0 where
    pub state : state_of new ≡ next
    pub head : position_of new ≡ beside dir old.position
    pub steps : steps_of new ≡ old.steps + 1
    pub low : low_of new ≡ int_min (low_of old) counts_for
    pub high : high_of new ≡ int_max (high_of old) counts_for
    pub tape : view_new ≡ written (visited view counts_for) old.position write

  pub stands_next : (new : Runner) (view_new : TapeView) → IsEntryOf (length table) (symbols_of table)
      (Go write dir next) → Stepped new view_new → Stands table new view_new
  stands_next new view_new named is =
      let content : view_new.content ≡ with_cell view.content old.position write =
      ap (λ (s : TapeView). s.content) is.tape in
      let at = conf-next table old.steps _ stands.at write dir next (sym here) in
      record {
        at = rw (is.steps, is.state, is.head, content) at;
        low = rw (is.steps, least-next, next-counted_head, ← stands.low) is.low;
        high = rw (is.steps, greatest-next, next-counted_head, ← stands.high) is.high;
        window_low = rw (is.tape, is.low, stands.window_low);
        window_high = rw (is.tape, is.high, stands.window_high);
        state_named = rw is.state named.1;
        symbols_named = rw content
            (symbols_stay view.content old.position write (symbols_of table) named.0 stands.symbols_named);
      }

  pub wanted : (bounds : Bounds) → old.steps ≢ bounds.steps → view.limit ≡ bounds.cells
      → cells_between (int_min view.low counts_for) (int_max view.high counts_for) ≤ view.limit
      → Answers table bounds old.steps moved.Stepped
  wanted bounds apart limit fits = (moves_on, apart, omega (arith, next-span, fits, limit))

  pub made : (bounds : Bounds) (new : Runner) (view_new : TapeView) (meter_old meter_new : Meter)
      → IsSound view → IsEntryOf (length table) (symbols_of table) (Go write dir next)
      → view.limit ≡ bounds.cells → old.steps ≤ bounds.steps → old.steps ≢ bounds.steps
      → cells_between (int_min view.low counts_for) (int_max view.high counts_for) ≤ view.limit
      → Stepped new view_new → meter_new ≡ stepped meter_old (cells_between (low_of new) (high_of new))
      → {grows : Bool} → Advances grows table bounds old new view view_new meter_old meter_new
      (Ok moved.Stepped)
  made bounds new view_new meter_old meter_new sound named limit few apart fits is counts =
      let cells = widened_span (low_of new) (high_of new) is.low is.high in
      let answers = wanted bounds apart limit fits in
      let inside = inside_here table old view bounds stands sound limit few in
      let near = near_head table old view dir stands running sound in
      let beside_is : IsBeside view_new (beside dir old.position) =
      beside_visited view (visited view counts_for) view_new counts_for old.position _ write refl is.tape
      near.near in
      answered moved.Stepped answers (is.steps, counts ∙ ap (stepped meter_old) cells) (
        rw is.steps (next_inside table bounds old.steps inside answers.0 answers.1 answers.2),
        rw is.head beside_is,
      )
      (stands_next new view_new named is) (ap (λ (s : TapeView). s.limit) is.tape)

-- a step into Z, which leaves the window as it is
pub into_Z : (table : Table) (old : Runner) (view : TapeView) (write : ℕ) (dir : Dir) (next : Next)
    (stands : Stands table old view)
    (here : Go write dir next ≡ entry_at table old.state (cell view.content old.position))
    → IsSound view → GoesNowhere table (Go write dir next) → (new : Runner) (view_new : TapeView)
    → StepsTo old new next (beside dir old.position) → view_new ≡ written view old.position write
    → Stepped stands here new view_new
into_Z table old view write dir (State q) stands here sound nowhere new view_new steps is = absurd nowhere
into_Z table old view write dir Halt stands here sound nowhere new view_new steps is =
    let zero : IsInside view (pos 0) = (sound.from_zero, sound.to_zero) in
    record {
      state = steps.state;
      head = steps.head;
      steps = steps.steps;
      low = omega (arith, ints, clamps, steps.low, stands.window_low, zero.0);
      high = omega (arith, ints, clamps, steps.high, stands.window_high, zero.1);
      tape = is ∙ ap (λ s. written s old.position write) (sym (inside_stays view (pos 0) zero));
    }

-- where a step goes to no state, the window that there is has the cells of the next span already
pub span_in_Z : (table : Table) (old : Runner) (view : TapeView) (write : ℕ) (dir : Dir) (next : Next)
    (stands : Stands table old view)
    (here : Go write dir next ≡ entry_at table old.state (cell view.content old.position))
    → IsSound view → GoesNowhere table (Go write dir next)
    → cells_between (low_of old) (high_of old) ≡ span table (steps_of old + 1)
span_in_Z table old view write dir (State q) stands here sound nowhere = absurd nowhere
span_in_Z table old view write dir Halt stands here sound nowhere =
    widened_span stands here (low_of old) (high_of old)
    (omega (arith, ints, clamps, stands.window_low, sound.from_zero))
    (omega (arith, ints, clamps, stands.window_high, sound.to_zero))

pub fits_Z : (view : TapeView) (write : ℕ) (dir : Dir) (next : Next) (table : Table) (p : ℤ) → IsSound view
    → GoesNowhere table (Go write dir next)
    → (cells_between (int_min view.low (counted_position next p))
    (int_max view.high (counted_position next p)) ≤ view.limit)
    × IsEntryOf (length table) (symbols_of table) (Go write dir next)
fits_Z view write dir (State q) table p sound nowhere = absurd nowhere
fits_Z view write dir Halt table p sound nowhere =
    (inside_fits view (pos 0) sound (sound.from_zero, sound.to_zero), (nowhere, tt))

-- a step to a state, after the window has taken in where it goes
pub into_state : (table : Table) (old : Runner) (view : TapeView) (write : ℕ) (dir : Dir) (q : ℕ)
    (stands : Stands table old view)
    (here : Go write dir (State q) ≡ entry_at table old.state (cell view.content old.position))
    → (mid new : Runner) (view_mid view_new : TapeView) (p : ℤ) → p ≡ beside dir old.position
    → IsWidened old mid p → view_mid ≡ visited view p
    → StepsTo mid new (State q) p → view_new ≡ written view_mid mid.position write
    → Stepped stands here new view_new
into_state table old view write dir q stands here mid new view_mid view_new p there wider
    visited_is steps is =
    record {
      state = steps.state;
      head = steps.head ∙ there;
      steps = steps.steps ∙ ap (λ n. n + 1) wider.steps;
      low = steps.low ∙ wider.low ∙ ap (int_min (low_of old)) there;
      high = steps.high ∙ wider.high ∙ ap (int_max (high_of old)) there;
      tape = is ∙ ap (λ q. written view_mid q write) wider.head
          ∙ ap (λ (s : TapeView). written s old.position write) (visited_is ∙ ap (visited view) there);
    }

-- the cells of a window that a step leaves as it is
pub cells_stay : (mid new : Runner) (next : Next) (p : ℤ) → StepsTo mid new next p
    → cells_between (low_of mid) (high_of mid) ≡ cells_between (low_of new) (high_of new)
cells_stay mid new next p steps = ap (λ l. cells_between l (high_of mid)) (sym steps.low)
    ∙ ap (cells_between (low_of new)) (sym steps.high)

-- what a step says of the entry that it is made from
pub record Goes (table : Table) (e : Entry) (step : Step) : Type 0 where
  pub dir : Dir
  pub here : Go step.write dir (State step.state) ≡ e
  pub named : IsEntryOf (length table) (symbols_of table) (Go step.write dir (State step.state))
  pub position : (p : ℤ) → p +ℤ step.offset ≡ beside dir p

offset_is : (dir : Dir) (p : ℤ) → p +ℤ offset_of dir ≡ beside dir p
offset_is L p = omega (arith, ints)
offset_is R p = refl

goes_by : (table : Table) (e : Entry) (step : Step) → Some step ≡ step_of e
    → IsEntryOf (length table) (symbols_of table) e → Goes table e step
goes_by table Undefined step is named = absurd cc
goes_by table (Go write dir (State state)) step is named =
    let same : step ≡ record { write = write; offset = offset_of dir; state = state } = cc in
    rw same (record { dir = dir; here = refl; named = named; position = offset_is dir })
goes_by table (Go write dir Halt) step is named = absurd cc

pub goes : {table : Table} (old : Runner) (view : TapeView) {q symbol : ℕ} {step : Step} → old.state ≡ State q
    → symbol ≡ cell view.content old.position → Some step ≡ step_of (entry_of table q symbol)
    → IsEntryOf (length table) (symbols_of table) (entry_of table q symbol)
    → Goes table (entry_at table old.state (cell view.content old.position)) step
goes {table} old view {q} {symbol} {step} state read is named =
    rw (state, ← read) (goes_by table (entry_of table q symbol) step is named)

-- and where it leads, once the position is known
pub record Leads (table : Table) (old : Runner) (view : TapeView) (step : Step) (position : ℤ) : Type 0 where
  pub goes : Goes table (entry_at table old.state (cell view.content old.position)) step
  pub there : position ≡ beside goes.dir old.position

pub leads : {table : Table} (old : Runner) (view : TapeView) {q symbol : ℕ} {step : Step} {position : ℤ}
    → old.state ≡ State q → symbol ≡ cell view.content old.position
    → Some step ≡ step_of (entry_of table q symbol)
    → IsEntryOf (length table) (symbols_of table) (entry_of table q symbol)
    → position ≡ old.position +ℤ step.offset → Leads table old view step position
leads {table} old view {q} {symbol} {step} {position} state read is named moved =
    let by = goes old view state read is named in
    record { goes = by; there = moved ∙ by.position old.position }
