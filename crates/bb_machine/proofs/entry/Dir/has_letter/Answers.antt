use Rattle.std.proofs.Common.{◌≡◌, ◌+◌, ◌-◌, ◌∙◌, IsTrue, nat_eq, inl, inr, sym, arith, rules}
use Rattle.std.proofs.lemmas.Bool.{cases_lt}
use Rattle.bb_machine.specs.declared.entry.Dir.{Dir}
use Rattle.bb_machine.specs.declared.entry.Dir.TheVariants.{L, R}
use Rattle.bb_machine.specs.Entry.{dir_letter}
use Rattle.bb_machine.proofs.entry.Dir.has_letter.Goals as goal

pub returns : goal.returns
returns c = (there, back)
  where
    there : IsTrue (nat_eq c.abs_diff.result 3) → (d : Dir) × (dir_letter d ≡ c.args.letter)
    there is_so =
        let three : c.abs_diff.result ≡ 3 = search rules in
        let apart : (c.args.letter - 79) + (79 - c.args.letter) ≡ 3 = sym c.abs_diff.ensures ∙ three in
        elim (cases_lt c.args.letter 79) [
          | inl before ↦ (L, omega (arith, apart, before))
          | inr after ↦ (R, omega (arith, apart, after))
        ]

    at : (d : Dir) → dir_letter d ≡ c.args.letter → c.abs_diff.result ≡ 3
    at L is = let apart : (c.args.letter - 79) + (79 - c.args.letter) ≡ 3 = omega (arith, is) in
        c.abs_diff.ensures ∙ apart
    at R is = let apart : (c.args.letter - 79) + (79 - c.args.letter) ≡ 3 = omega (arith, is) in
        c.abs_diff.ensures ∙ apart

    back : ((d : Dir) × (dir_letter d ≡ c.args.letter)) → IsTrue (nat_eq c.abs_diff.result 3)
    back d = let three : c.abs_diff.result ≡ 3 = at d.0 d.1 in search rules
