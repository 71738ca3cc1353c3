use Rattle.std.proofs.Common.{◌≡◌, ℤ, List, ℕ, ap, ◌∙◌, arith, rules}
use Rattle.std.proofs.lemmas.Int.{ints}
use Rattle.std.specs.Fmt.{signed_decimal}
use Rattle.bb_sim.specs.Runner.{position_of}
use Rattle.bb_run.proofs.tracing.head_of.Goals as goal

digits_of : (text : List ℕ) (p q : ℤ) → text ≡ signed_decimal p → p ≡ q → text ≡ signed_decimal q
digits_of text p q is e = is ∙ ap signed_decimal e

pub returns-clause-text : goal.returns-clause-text
returns-clause-text c =
    let shown : c.format-2.result.now ≡ signed_decimal (position_of c.args.runner.now) =
    digits_of _ _ _ c.format-2.ensures.text (omega (arith, ints)) in
    search rules
