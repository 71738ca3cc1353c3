-- Which steps of a run there are, over the definitions alone.
use Rattle.std.proofs.Common.{◌≡◌, ℕ, zero, suc, ◌<◌, ◌≤◌, inl, inr, Option, Some, None, option_and_then}
use Rattle.std.proofs.Common.{refl, ap, sym, subst, ◌∙◌, arith}
use Rattle.std.proofs.lemmas.Bool.{cases_lt}
use Rattle.bb_machine.specs.Machine.{Table}
use Rattle.bb_sim.specs.Configuration.{Configuration, start, next}
use Rattle.bb_sim.specs.Run.{conf, HaltsAt, Never, Exists}
use Rattle.bb_sim.proofs.Facts.{conf-suc}

pub has_start : (table : Table) → Exists table 0
unfolding conf
has_start table = record { here = start; exists = refl }

-- a configuration, and the one that it leads to
pub record Moves (table : Table) (n : ℕ) : Type 0 where
  pub before : Configuration
  pub then_here : Configuration
  pub at_before : conf table n ≡ Some before
  pub at_then : conf table (suc n) ≡ Some then_here
  pub is_next : next table before ≡ Some then_here

-- a step was led to by the one before
pub moves : (table : Table) (n : ℕ) → Exists table (suc n) → Moves table n
moves table n step = by_case (conf table n) refl where
  by_case : (o : Option Configuration) → conf table n ≡ o → Moves table n
  by_case None e =
      let none : conf table (suc n) ≡ None = conf-suc table n ∙ ap (option_and_then (next table)) e in
      let some = step.exists in
      absurd cc
  by_case (Some c) e =
      let led : conf table (suc n) ≡ next table c = conf-suc table n ∙ ap (option_and_then (next table)) e in
      record {
        before = c;
        then_here = step.here;
        at_before = e;
        at_then = step.exists;
        is_next = sym led
            ∙ step.exists;
      }

-- steps before one that there is
pub earlier : (table : Table) (n m : ℕ) → m ≤ n → Exists table n → Exists table m
earlier table zero m h step = let e : zero ≡ m = omega arith in subst (Exists table) e step
earlier table (suc n) m h step = elim (cases_lt m (suc n)) [
  | inl less ↦ let moved = moves table n step in earlier table n m (omega (arith, less))
      (record { here = moved.before; exists = moved.at_before })
  | inr more ↦ let e : suc n ≡ m = omega (arith, h, more) in subst (Exists table) e step
]

-- a halt has no step after it
pub no_halt_before : (table : Table) (n m : ℕ) → n < m → Exists table m → HaltsAt table n → ⊥
no_halt_before table n m h step halts =
    let moved = moves table n (earlier table m (suc n) (omega arith) step) in
    let a = moved.at_before in
    let b = moved.is_next in
    let c = halts.exists in
    let d = halts.no_next in
    let same : moved.before ≡ halts.last = cc in
    let none : next table moved.before ≡ None = ap (next table) same ∙ d in
    cc

-- a run with every step never halts
pub never_of_steps : (table : Table) → ((n : ℕ) → Exists table n) → Never table
never_of_steps table steps =
    record { never = λ n halts. no_halt_before table n (suc n) (omega arith) (steps (suc n)) halts }

next_step : (table : Table) → Never table → (n : ℕ) → Exists table n → Exists table (suc n)
next_step table never n step = by_case _ refl where
  by_case : (o : Option Configuration) → next table step.here ≡ o → Exists table (suc n)
  by_case None e = absurd (never.never n (record { last = step.here; exists = step.exists; no_next = e }))
  by_case (Some c) e = record {
    here = c;
    exists = conf-suc table n
        ∙ ap (option_and_then (next table)) step.exists ∙ e;
  }

-- a run that never halts has every step
pub steps_of_never : (table : Table) → Never table → (n : ℕ) → Exists table n
steps_of_never table never zero = has_start table
steps_of_never table never (suc n) = next_step table never n (steps_of_never table never n)
