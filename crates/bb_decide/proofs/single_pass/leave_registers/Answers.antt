use Rattle.std.proofs.Common.{◌+◌, ◌∙◌, ap, arith, inr, refl, subst, sym}
use Rattle.std.proofs.lemmas.Int.{ints}
use Rattle.bb_tape.specs.TapeView.{TapeView}
use Rattle.bb_sim.specs.Runner.{steps_of}
use Rattle.bb_sim.proofs.Facts.{count_is_within, inside_here}
use Rattle.bb_registers.specs.Registers.{FitsRegisters}
use Rattle.bb_registers.proofs.Facts.{counted_so_far}
use Rattle.bb_decide.proofs.RegisterHandover.{fits_so_far}
use Rattle.bb_decide.proofs.single_pass.leave_registers.Goals as goal

pub count-requires-clause-cells : goal.count-requires-clause-cells
count-requires-clause-cells g c =
    let known = c.requires.pass.is_run in
    omega (arith, ints, known.window_is.room_is, known.limit, known.sound.from_zero, known.sound.to_zero)

-- no memory to put the configuration on the tapes
pub returns-in_default : goal.returns-in_default
returns-in_default g c =
    let known = c.requires.pass.is_run in
    let n = steps_of known.runner in
    let here = inside_here _ known.runner known.view _ known.stands known.sound known.limit
    (omega (arith, known.steps_is, known.few)) in
    let counts = counted_so_far known c.args.meter.now n refl c.count.ensures in
    record {
      single_pass = tt;
      cut = inr (
        n,
        record {
          inside = here;
          fits = fits_so_far known c.requires.symbols c.requires.states n (omega arith);
          leaves = λ fits. c.requires.wide (subst (λ k. FitsRegisters c.args.machine.now (k + 1)) (sym known.steps_is) fits);
        },
        counts,
        ap (λ (s : TapeView). s.content) c.reset.ensures,
      );
      within = count_is_within _ _ _ _ _ here counts;
      promised = record { claim = tt; numbers = tt; memory = c.in_default.ensures.memory };
      tapes = record {
        run = ap (λ (s : TapeView). s.limit) c.reset.ensures ∙ c.in_default.ensures.tapes.run;
        right = c.in_default.ensures.tapes.right;
        left = c.in_default.ensures.tapes.left;
      };
      path = c.in_default.ensures.path;
    }
