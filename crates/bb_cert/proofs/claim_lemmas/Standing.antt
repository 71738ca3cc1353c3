-- Runners that stand at the same configuration.
use Rattle.std.proofs.Common.{◌≡◌, ℕ, ◌+◌, Some, ℤ, ap, sym, ◌∙◌, add-one, option_and_then}
use Rattle.std.proofs.Common.{arith}
use Rattle.std.proofs.lemmas.Int.{ints}
use Rattle.bb_machine.specs.declared.entry.Dir.{Dir}
use Rattle.bb_machine.specs.declared.entry.Dir.TheVariants.{L, R}
use Rattle.bb_machine.specs.declared.entry.Next.{Next}
use Rattle.bb_machine.specs.Machine.{Table}
use Rattle.bb_tape.specs.Content.{Content}
use Rattle.bb_tape.specs.TapeView.{TapeView}
use Rattle.bb_sim.specs.declared.runner.Runner.{Runner}
use Rattle.bb_sim.specs.Configuration.{Configuration, beside, next}
use Rattle.bb_sim.specs.Runner.{Stands, position_of, state_of, steps_of}
use Rattle.bb_sim.proofs.Facts.{conf-suc}
use Rattle.bb_cert.specs.claims.Repeat.{Same}
use Rattle.bb_cert.proofs.record_lemmas.Positions.{led_by}

-- what is the same of two runners at the same configuration
abbrev pub AreAlike : Runner → TapeView → Runner → TapeView → Type 0
AreAlike a view_a b view_b =
    (state_of a ≡ state_of b) × (position_of a ≡ position_of b) × (view_a.content ≡ view_b.content)

abbrev made : Next → ℤ → Content → Configuration
made state head tape = record { state = state; head = head; tape = tape }

one_configuration : {s t : Next} {p q : ℤ} {c d : Content} → s ≡ t → p ≡ q → c ≡ d → made s p c ≡ made t q d
one_configuration states heads tapes = cc

module _ {table : Table} {a b : Runner} {view_a view_b : TapeView} (stands_a : Stands table a view_a)
    (stands_b : Stands table b view_b) where
  pub same_of_alike : AreAlike a view_a b view_b → Same table (steps_of b) (steps_of a)
  same_of_alike alike = record {
    here = _;
    at_first = stands_b.at;
    at_second = stands_a.at ∙ ap (λ (c : Configuration). Some c)
        (one_configuration alike.0 alike.1 alike.2);
  }

  pub alike_of_same : Same table (steps_of b) (steps_of a) → AreAlike a view_a b view_b
  alike_of_same same =
      let first = same.at_first in
      let second = same.at_second in
      let at_a = stands_a.at in
      let at_b = stands_b.at in
      let one : made (state_of a) (position_of a) view_a.content ≡ made (state_of b) (position_of b)
      view_b.content = cc in (
        ap (λ (c : Configuration). c.state) one,
        ap (λ (c : Configuration). c.head) one,
        ap (λ (c : Configuration). c.tape) one,
      )

moved_apart : (to : Dir) (p : ℤ) → p ≡ beside to p → ⊥
moved_apart L p is = omega (arith, ints, is)
moved_apart R p is = omega (arith, ints, is)

-- the head moves at each step, so no configuration comes again at once
pub no_repeat_at_once : (table : Table) (n : ℕ) → Same table n (n + 1) → ⊥
no_repeat_at_once table n same =
    let here = same.here in
    let then_here = rw add-one at same.at_second in
    let goes : next table here ≡ Some here =
    ap (option_and_then (next table)) (sym same.at_first) ∙ sym (conf-suc table n) ∙ then_here in
    let led = led_by table here here goes in
    moved_apart led.to here.head (ap (λ (c : Configuration). c.head) led.is)
