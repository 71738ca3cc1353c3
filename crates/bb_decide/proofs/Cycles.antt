-- What the search for cycles has found, step by step.
use Rattle.std.proofs.Common.{◌≡◌, ℕ, ◌+◌, ◌*◌, ◌<◌, ◌≤◌, ◌↔◌, Bool, true, false, IsTrue, refl}
use Rattle.std.proofs.Common.{subst, arith}
use Rattle.bb_machine.specs.Limits.{Bounds}
use Rattle.bb_machine.specs.Machine.{Table}
use Rattle.bb_tape.specs.TapeView.{TapeView}
use Rattle.bb_sim.specs.declared.meter.Meter.{Meter}
use Rattle.bb_sim.specs.declared.runner.Runner.{Runner}
use Rattle.bb_sim.specs.declared.runner.Moved.{Moved}
use Rattle.bb_sim.specs.Runner.{Stands, steps_of}
use Rattle.bb_sim.specs.Span.{Inside}
use Rattle.bb_cert.specs.claims.Repeat.{Same}
use Rattle.bb_cert.proofs.Facts.{AreAlike, alike_of_same, no_repeat_at_once, same_of_alike}
use Rattle.bb_decide.specs.Partner.{IsPartner}
use Rattle.bb_decide.specs.Cycle.{HasNoCycle, IsCycle, IsFirstCycle}
pub use Rattle.bb_decide.specs.inside.Searching.{IsInCycleSearch}
use Rattle.bb_decide.specs.inside.Step.{EndsRun, HasMoved}
use Rattle.bb_decide.proofs.Halting.{no_pair_in_Z}
use Rattle.bb_decide.proofs.Partners.{is_kept_one, is_partner, kept_at_first, kept_below, keeps_next}
use Rattle.bb_decide.proofs.Partners.{keeps_on}
use Rattle.bb_decide.proofs.SoFar.{none_earlier, none_inside, none_so_far}

pub searching_at_first : {table : Table} {bounds : Bounds} {runner kept : Runner} {view view_kept : TapeView}
    → Stands table runner view → steps_of runner ≡ 0 → Stands table kept view_kept → steps_of kept ≡ 0
    → IsInCycleSearch table bounds runner kept view view_kept
searching_at_first stands zero kept_stands kept_zero = record {
  stands = stands;
  within = omega (arith, zero);
  kept_stands = kept_stands;
  partner = rw (kept_zero, zero) kept_at_first;
  none = λ a t few cycle. let below = cycle.partner.below in omega (arith, few, below, zero);
}

-- after a step
module _ {table : Table} {bounds : Bounds} {before after kept : Runner}
    {view_before view_after view_kept : TapeView}
    (here : IsInCycleSearch table bounds before kept view_before view_kept)
    (moved : HasMoved table before after view_after) (inside : Inside table bounds (steps_of after)) where
  pub kept_earlier : steps_of kept < steps_of after
  kept_earlier = rw moved.next (kept_below (steps_of kept) (steps_of before) here.partner)

  -- where it has the configuration of what is kept, that is its partner: it isn't the start
  kept_partner : Same table (steps_of kept) (steps_of after) → IsPartner (steps_of kept) (steps_of after)
  kept_partner same = is_partner here.partner moved.next (λ zeroth. no_repeat_at_once table (steps_of before)
      (subst (λ m. Same table m (steps_of before + 1)) zeroth (rw moved.next at same)))

  -- it is the first cycle
  pub first_cycle : Same table (steps_of kept) (steps_of after)
      → IsFirstCycle table bounds (steps_of kept) (steps_of after)
  first_cycle same = record {
    cycle = record { partner = kept_partner same; inside = inside; same = same };
    first = λ b u other. none_earlier (IsCycle table bounds b) moved.next (here.none b) u other;
  }

  -- what is_same answers of the two
  pub comes_again : {answer : Bool} → IsTrue answer ↔ AreAlike after view_after kept view_kept → answer ≡ true
      → Same table (steps_of kept) (steps_of after)
  comes_again tells is = same_of_alike moved.stands here.kept_stands (tells.0 is)

  pub apart : {answer : Bool} → IsTrue answer ↔ AreAlike after view_after kept view_kept → answer ≡ false
      → Same table (steps_of kept) (steps_of after) → ⊥
  apart tells isnt same = let is = tells.1 (alike_of_same moved.stands here.kept_stands same) in cc

  -- where it has another one, the search goes on: what is kept is the next step's partner, or this step is
  module _ (differs : Same table (steps_of kept) (steps_of after) → ⊥) where
    none_next : (a t : ℕ) → t ≤ steps_of after → IsCycle table bounds a t → ⊥
    none_next a = none_so_far (IsCycle table bounds a) moved.next (here.none a) (λ now.
        differs (subst (λ m. Same table m (steps_of after)) (is_kept_one here.partner moved.next now.partner)
        now.same))

    pub goes_on : steps_of after < 2 * steps_of kept
        → IsInCycleSearch table bounds after kept view_after view_kept
    goes_on few = record {
      stands = moved.stands;
      within = inside.within_steps;
      kept_stands = here.kept_stands;
      partner = rw moved.next (keeps_on _ _ here.partner (let next = moved.next in omega (arith, next, few)));
      none = none_next;
    }

    pub keeps_this : {view : TapeView} → 2 * steps_of kept ≤ steps_of after → Stands table after view
        → IsInCycleSearch table bounds after after view_after view
    keeps_this many stands = record {
      stands = moved.stands;
      within = inside.within_steps;
      kept_stands = stands;
      partner = rw moved.next (keeps_next _ _ here.partner
          (let next = moved.next in omega (arith, next, many)));
      none = none_next;
    }

pub no_cycle_at_end : {table : Table} {bounds : Bounds} {before after kept : Runner}
    {view_before view view_kept : TapeView} {first meter : Meter} {answer : Moved}
    → IsInCycleSearch table bounds before kept view_before view_kept
    → EndsRun table bounds before after view first meter answer → HasNoCycle table bounds
no_cycle_at_end {table} {bounds} {after = after} {view = view} here ended a t cycle =
    none_inside (IsCycle table bounds a) ended (here.none a) (λ halts now.
    no_pair_in_Z table after view ended.stands halts a now.same.here now.same.here now.partner.below
    now.same.at_first now.same.at_second refl) t cycle.inside cycle
