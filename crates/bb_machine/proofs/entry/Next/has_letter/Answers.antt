use Rattle.std.proofs.Common.{◌≡◌, ◌+◌, ◌-◌, ◌<◌, ◌%◌, IsTrue, nat_lt, sym, arith, rules}
use Rattle.bb_machine.specs.declared.entry.Next.{Next}
use Rattle.bb_machine.specs.declared.entry.Next.TheVariants.{State, Halt}
use Rattle.bb_machine.specs.Entry.{next_letter, IsNextOf}
use Rattle.bb_machine.proofs.entry.Next.has_letter.Goals as goal

pub returns-else-letter-eq90 : goal.returns-else-letter-eq90
returns-else-letter-eq90 c = (there, back)
  where
    there : IsTrue (nat_lt ((c.args.letter + 191) % 256) c.args.states)
        → (n : Next) × IsNextOf c.args.states n × (next_letter n ≡ c.args.letter)
    there is_so =
        let below : (c.args.letter + 191) % 256 < c.args.states = search rules in
        let fits = c.ranges.letter.fits in (
          State (c.args.letter - 65),
          omega (arith, below, c.requires, fits),
          omega (arith, below, c.requires, fits),
        )

    at : (n : Next) → IsNextOf c.args.states n → next_letter n ≡ c.args.letter
        → (c.args.letter + 191) % 256 < c.args.states
    at (State q) below is = omega (arith, below, is, c.requires)
    at Halt below is = absurd (c.if-letter-eq90.false (sym is))

    back : ((n : Next) × IsNextOf c.args.states n × (next_letter n ≡ c.args.letter))
        → IsTrue (nat_lt ((c.args.letter + 191) % 256) c.args.states)
    back n = let below : (c.args.letter + 191) % 256 < c.args.states = at n.0 n.1 n.2 in search rules
