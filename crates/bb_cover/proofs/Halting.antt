-- Where a runner has halted.
use Rattle.std.proofs.Common.{◌≡◌, ◌≢◌, ℕ, ◌≤◌, None, ap, sym, subst, ◌∙◌, arith}
use Rattle.bb_machine.specs.declared.entry.Entry.TheVariants.{Undefined}
use Rattle.bb_machine.specs.declared.entry.Next.TheVariants as next
use Rattle.bb_machine.specs.Entry.{IsNextOf}
use Rattle.bb_machine.specs.Limits.{Bounds}
use Rattle.bb_machine.specs.Machine.{Table, entry_of}
use Rattle.bb_tape.specs.Content.{cell, score}
use Rattle.bb_tape.specs.TapeView.{TapeView}
use Rattle.bb_sim.specs.Configuration as configuration
use Rattle.bb_sim.specs.Configuration.{Configuration, entry_at, followed}
use Rattle.bb_sim.specs.declared.runner.Runner.{Runner}
use Rattle.bb_sim.specs.Run.{HaltsAt}
use Rattle.bb_sim.specs.Runner.{Stands, position_of, state_of, steps_of}
use Rattle.bb_sim.specs.Span.{Inside, IsLastInside}
use Rattle.bb_sim.proofs.Facts.{halt_is_last, halt_is_unique}
use Rattle.laws_of_verdicts.specs.UndefinedEntry.{HaltsOnUndefined}
use Rattle.laws_of_verdicts.proofs.Facts.{undefined_here}
use Rattle.bb_cover.specs.declared.undefined.UndefinedEntry.{UndefinedEntry}
use Rattle.bb_cover.specs.declared.halt.Halted.{Halted}
use Rattle.bb_cover.specs.UndefinedEntries.{HaltsOn, IsUndefinedOf}
use Rattle.bb_cover.specs.Halts.{EndsSo}

pub undefined_of_halt : (table : Table) (runner : Runner) (view : TapeView) → Stands table runner view
    → HaltsAt table (steps_of runner) → (undefined : UndefinedEntry) → state_of runner ≡ next.State undefined.state
    → undefined.symbol ≡ cell view.content (position_of runner)
    → HaltsOnUndefined table (steps_of runner) undefined.state undefined.symbol × IsUndefinedOf table undefined
unfolding configuration.next
undefined_of_halt table runner view stands halts undefined in_state at_symbol =
    let here : Configuration =
    record { state = state_of runner; head = position_of runner; tape = view.content } in
    let same : halts.last ≡ here = cc in
    let entry : entry_at table (state_of runner) (cell view.content (position_of runner))
    ≡ entry_of table undefined.state undefined.symbol =
    ap (λ x. entry_at table x (cell view.content (position_of runner))) in_state
    ∙ ap (entry_of table undefined.state) (sym at_symbol) in
    let none : followed (entry_at table (state_of runner) (cell view.content (position_of runner))) here
    ≡ None =
    ap (configuration.next table) (sym same) ∙ halts.no_next in
    let is_undefined : entry_of table undefined.state undefined.symbol ≡ Undefined = sym entry ∙ undefined_here _ here none in (
      record {
        last = here;
        exists = stands.at;
        in_state = in_state;
        at_symbol = sym at_symbol;
        undefined = is_undefined;
      },
      record {
        below = subst (IsNextOf _) in_state stands.state_named;
        inside = let named = stands.symbols_named (position_of runner) in omega (arith, named, at_symbol);
        is_undefined = is_undefined;
      },
    )

-- it halts after another number of steps
pub halts_elsewhere : (table : Table) (n steps : ℕ) → HaltsAt table n → n ≢ steps → HaltsAt table steps → ⊥
halts_elsewhere table n steps here apart there = apart (halt_is_unique table n steps here there)

-- the last step inside is no halt, and none before it is
pub halts_at_none : (table : Table) (bounds : Bounds) (n : ℕ) → IsLastInside table bounds n
    → (HaltsAt table n → ⊥) → (steps : ℕ) → HaltsAt table steps → Inside table bounds steps → ⊥
halts_at_none table bounds n last on steps halts inside =
    let least = halt_is_last table steps n last.inside.here halts last.inside.exists in
    let most = last.greatest steps inside in
    let same : steps ≡ n = omega (arith, least, most) in
    on (subst (HaltsAt table) same halts)

-- it halts here
pub ends_so : (table : Table) (bounds : Bounds) (runner : Runner) (view : TapeView)
    → Stands table runner view → HaltsAt table (steps_of runner) → Inside table bounds (steps_of runner)
    → (halted : Halted) → halted.steps ≡ steps_of runner → halted.score ≡ score view.content
    → HaltsOn table (steps_of runner) halted.undefined → EndsSo table bounds halted.steps halted
ends_so table bounds runner view stands halts inside halted at scored on =
    subst (λ k. EndsSo table bounds k halted) (sym at) (record {
      halts = halts;
      inside = inside;
      scores = record { here = _; exists = stands.at; counted = scored };
      on = on;
    })

-- up to fewer steps the same is inside

pub cut_inside : (table : Table) (bounds cut : Bounds) (n : ℕ) → cut ≡ record bounds { steps = n }
    → Inside table bounds n → Inside table cut n
cut_inside table bounds cut n is inside = record {
  here = inside.here;
  exists = inside.exists;
  within_steps = let same = ap (λ (b : Bounds). b.steps) is in omega (arith, same);
  within_cells = let narrow = inside.within_cells in let same = ap (λ (b : Bounds). b.cells) is in
      omega (arith, narrow, same);
}

pub cut_ends : (table : Table) (bounds cut : Bounds) (n : ℕ) → cut ≡ record bounds { steps = n }
    → n ≤ bounds.steps → (halted : Halted) → EndsSo table cut halted.steps halted → halted.steps ≡ n
    → EndsSo table bounds n halted
cut_ends table bounds cut n is few halted ends at = subst (λ k. EndsSo table bounds k halted) at (record {
  halts = ends.halts;
  inside = record {
    here = ends.inside.here;
    exists = ends.inside.exists;
    within_steps = omega (arith, at, few);
    within_cells = let narrow = ends.inside.within_cells in let same = ap (λ (b : Bounds). b.cells) is in
        omega (arith, narrow, same);
  };
  scores = ends.scores;
  on = ends.on;
})
