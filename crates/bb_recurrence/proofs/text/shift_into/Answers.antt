use Rattle.std.proofs.Common.{◌≡◌, ◌++◌, ◌∙◌, ◌+◌, ℕ, ◌<◌, ℤ, pos, negsuc, suc, ◌∷◌, [], ◌-ℤ◌, ◌<ℤ◌, ap, sym, arith}
use Rattle.std.specs.Fmt.{signed_decimal}
use Rattle.std.proofs.lemmas.Fmt.{decimal_digit}
use Rattle.std.proofs.lemmas.Int.{ints}
use Rattle.bb_recurrence.proofs.text.shift_into.Goals as goal

-- a sign and a digit
negative : (z : ℤ) (d : ℕ) → z <ℤ pos 0 → pos d ≡ pos 48 -ℤ z → d < 58 → (45 ∷ d ∷ []) ≡ signed_decimal z
negative (pos n) d below is small = absurd (omega (arith, ints, below))
negative (negsuc n) d below is small =
    let digit : d ≡ 48 + suc n = omega (arith, ints, is) in
    ap (λ e. 45 ∷ e ∷ []) digit ∙ ap (λ ds. 45 ∷ ds) (sym (decimal_digit (suc n) (omega (arith, digit, small))))

pub returns-then-shift-gtminus10-clause-appended : goal.returns-then-shift-gtminus10-clause-appended
returns-then-shift-gtminus10-clause-appended c =
    c.append.ensures.appended
    ∙ ap (λ digits. c.args.text.now.items ++ digits) (negative c.args.shift _
    (omega (arith, ints, c.if-shift-ge0.false)) (omega (arith, ints, c.if-shift-ge0.false, c.if-shift-gtminus10.true))
    (omega (arith, ints, c.if-shift-ge0.false, c.if-shift-gtminus10.true)))
