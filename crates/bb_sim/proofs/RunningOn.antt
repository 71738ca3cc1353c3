-- A run that halts nowhere inside its limits, and whose span at the limit of steps is within the cells, goes
-- on to that limit.
use Rattle.std.proofs.Common.{◌≡◌, ℕ, zero, suc, ◌<◌, ◌≤◌, Option, Some, None, option_and_then, refl, ap, sym}
use Rattle.std.proofs.Common.{◌∙◌, arith}
use Rattle.bb_machine.specs.Limits.{Bounds}
use Rattle.bb_machine.specs.Machine.{Table}
use Rattle.bb_tape.specs.Content.{cell}
use Rattle.bb_sim.specs.Configuration.{Configuration, entry_at, next}
use Rattle.bb_sim.specs.Run.{conf, HaltsAt}
use Rattle.bb_sim.specs.Span.{span, Inside}
use Rattle.bb_sim.specs.Outcome.{HaltsNowhere}
use Rattle.bb_sim.specs.FewCells.{IsRunning}
use Rattle.bb_sim.proofs.Outcomes.{span_grows}
use Rattle.bb_sim.proofs.Steps.{conf-start, halts_here}

-- the machine halts before a step
record HaltsBefore (table : Table) (n : ℕ) : Type 0 where
  at : ℕ
  before : at < n
  halts : HaltsAt table at

pub conf-suc : (table : Table) (n : ℕ) → conf table (suc n) ≡ option_and_then (next table) (conf table n)
unfolding conf
conf-suc table n = refl

later : (table : Table) (n : ℕ) → HaltsBefore table n → HaltsBefore table (suc n)
later table n halts = record {
  at = halts.at;
  before = let before = halts.before in omega (arith, before);
  halts = halts.halts;
}

halts_next : (table : Table) (n : ℕ) (c : Configuration) → conf table n ≡ Some c → conf table (suc n) ≡ None
    → HaltsBefore table (suc n)
halts_next table n c is none = record {
  at = n;
  before = omega arith;
  halts = record {
    last = c;
    exists = is;
    no_next = sym (conf-suc table n ∙ ap (option_and_then (next table)) is) ∙ none;
  };
}

by_last : (table : Table) (n : ℕ) (at : Option Configuration) → conf table n ≡ at → conf table (suc n) ≡ None
    → (conf table n ≡ None → HaltsBefore table n) → HaltsBefore table (suc n)
by_last table n None is none earlier = later table n (earlier is)
by_last table n (Some c) is none earlier = halts_next table n c is none

-- where a configuration doesn't exist, the machine halts before it
halts_before : (table : Table) (n : ℕ) → conf table n ≡ None → HaltsBefore table n
halts_before table zero none = let first = conf-start table in absurd cc
halts_before table (suc n) none = by_last table n (conf table n) refl none (halts_before table n)

-- step T is inside, and not in Z
pub record RunsOn (table : Table) (bounds : Bounds) : Type 0 where
  pub running : IsRunning table bounds.steps
  pub inside : Inside table bounds bounds.steps

pub runs_on : (table : Table) (bounds : Bounds) → HaltsNowhere table bounds
    → span table bounds.steps ≤ bounds.cells → RunsOn table bounds
runs_on table bounds nowhere narrow = by_conf (conf table bounds.steps) refl where
  by_conf : (at : Option Configuration) → conf table bounds.steps ≡ at → RunsOn table bounds
  by_conf None is =
      let earlier = halts_before table bounds.steps is in
      let grows = span_grows table earlier.at bounds.steps (omega (arith, earlier.before)) in
      absurd (nowhere earlier.at (record {
        halts = earlier.halts;
        inside = record {
          here = earlier.halts.last;
          exists = earlier.halts.exists;
          within_steps = omega (arith, earlier.before);
          within_cells = omega (arith, grows, narrow);
        };
      }))
  by_conf (Some c) is =
      let inside : Inside table bounds bounds.steps =
      record { here = c; exists = is; within_steps = omega arith; within_cells = narrow } in
      record {
        running = record {
          here = c;
          exists = is;
          runs = λ halted. nowhere bounds.steps (record {
            halts = halts_here table bounds.steps c is
                (ap (λ s. entry_at table s (cell c.tape c.head)) halted);
            inside = inside;
          });
        };
        inside = inside;
      }
