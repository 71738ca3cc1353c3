-- A run in registers that has made no step.
use Rattle.std.proofs.Common.{◌≡◌, ℕ, ◌-◌, ◌^◌, ◌≤◌, inl, inr, pos, ◌≤ℤ◌, refl}
use Rattle.std.proofs.Common.{sym, arith}
use Rattle.std.specs.Prelude.{◌↔◌}
use Rattle.std.specs.Int.{bit_at}
use Rattle.std.proofs.lemmas.Int.{ints}
use Rattle.std.proofs.lemmas.Bool.{cases_eq}
use Rattle.std.proofs.lemmas.Nat.Bits.{bit_at-pow_same, bit_at-pow_other}
use Rattle.bb_machine.specs.declared.entry.Next.TheVariants.{State}
use Rattle.bb_machine.specs.Limits.{Bounds, IsAccepted}
use Rattle.bb_machine.specs.Machine.{IsMachine, Table}
use Rattle.bb_tape.specs.TapeView.{IsSound, fresh}
use Rattle.bb_tape.proofs.Facts.{cell-blank}
use Rattle.bb_sim.specs.declared.runner.Runner.{Runner}
use Rattle.bb_sim.proofs.Facts.{at_start}
use Rattle.bb_registers.specs.declared.run.RegisterRun.{RegisterRun}
use Rattle.bb_registers.specs.Registers.{IsRegisterRun}
use Rattle.bb_registers.proofs.Bits.{at_bit, bits-blank}

runner_first : Runner
runner_first = record {
  state = State 0;
  position = pos 0;
  steps = 0;
  low = pos 0;
  cells = 1;
  some_cell = omega arith;
  few_cells = omega arith;
  low_to_zero = omega (arith, ints);
  low_small = omega (arith, ints);
}

pub sound_first : (limit : ℕ) → 1 ≤ limit → limit ≤ 67108864 → IsSound (fresh limit)
sound_first limit some few = record {
  from_zero = omega (arith, ints);
  to_zero = omega (arith, ints);
  within = omega (arith, ints);
  limited = few;
  nothing_outside = λ p other. absurd (other (cell-blank p));
  symbols = λ p. omega (arith, cell-blank p);
}

first_bits : (i : ℕ) → (bit_at (2 ^ 32) i ≡ 1) ↔ ((pos 0 ≤ℤ at_bit i) × (at_bit i ≤ℤ pos 0))
first_bits i = elim (cases_eq i 32) [
  | inl is ↦ (λ b. (omega (arith, ints, is), omega (arith, ints, is)), λ b. rw is (bit_at-pow_same 32))
  | inr apart ↦ (
    λ b. absurd (omega (arith, bit_at-pow_other 32 i apart, b)),
    λ b. absurd (omega (arith, ints, apart, b.0, b.1)),
  )
]

pub first_run : (table : Table) (bounds : Bounds) → IsMachine table → IsAccepted bounds → (run : RegisterRun)
    → run ≡ record { registers = record { bits = 0; head = 2 ^ 32; entry = 0 }; window = 2 ^ 32; room = bounds.cells - 1; steps = 0 }
    → IsRegisterRun table bounds run
unfolding runner_first
first_run table bounds machine accepted run is = rw is (record {
  runner = runner_first;
  view = fresh bounds.cells;
  stands = at_start table (fresh bounds.cells) bounds.cells runner_first machine refl refl refl refl refl refl;
  sound = sound_first bounds.cells accepted.some_cell accepted.cells;
  limit = refl;
  steps_is = refl;
  few = omega arith;
  at = record {
    place = 32;
    within = omega arith;
    head = refl;
    position = refl;
    content = sym bits-blank;
    state = 0;
    state_is = refl;
    entry = refl;
    fits = omega arith;
  };
  window_is = record {
    low_in_word = (omega (arith, ints), omega (arith, ints));
    high_in_word = (omega (arith, ints), omega (arith, ints));
    bits = λ i h. first_bits i;
    fits = omega arith;
    room_is = omega (arith, ints, accepted.some_cell);
  };
})
