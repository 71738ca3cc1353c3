use Rattle.std.proofs.Common.{◌≡◌, ◌+◌, ◌-◌, ◌<◌, ◌%◌, ℕ, IsTrue, nat_lt, arith, rules}
use Rattle.bb_machine.proofs.entry.is_digit.Goals as goal

pub returns : goal.returns
returns c = (there, back)
  where
    there : IsTrue (nat_lt ((c.args.byte + 208) % 256) c.args.symbols)
        → (w : ℕ) × (w < c.args.symbols) × (48 + w ≡ c.args.byte)
    there is_so =
        let below : (c.args.byte + 208) % 256 < c.args.symbols = search rules in
        let fits = c.ranges.byte.fits in
        (c.args.byte - 48, omega (arith, below, c.requires, fits), omega (arith, below, c.requires, fits))

    back : ((w : ℕ) × (w < c.args.symbols) × (48 + w ≡ c.args.byte))
        → IsTrue (nat_lt ((c.args.byte + 208) % 256) c.args.symbols)
    back digit =
        let below : (c.args.byte + 208) % 256 < c.args.symbols =
        omega (arith, digit.1, digit.2, c.requires) in
        search rules
