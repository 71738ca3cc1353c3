use Rattle.std.proofs.Common.{◌≡◌, ℕ, ◌+◌, ℤ, ap, ◌∙◌, arith}
use Rattle.std.proofs.lemmas.Int.{ints}
use Rattle.bb_tape.specs.Content.{Content, cell}
use Rattle.bb_run.proofs.tracing.digit.Goals as goal

digit_at : (tape : Content) (p q : ℤ) (symbol : ℕ) → symbol ≡ cell tape p → p ≡ q
    → 48 + symbol ≡ 48 + cell tape q
digit_at tape p q symbol is e = ap (λ n. 48 + n) (is ∙ ap (cell tape) e)

pub returns : goal.returns
returns g c = digit_at _ _ _ _ c.read.ensures (omega (arith, ints))
