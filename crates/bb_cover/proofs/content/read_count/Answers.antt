use Rattle.std.proofs.Common.{sym, ◌∙◌}
use Rattle.bb_cover.proofs.Spaces.{decimal_no_space, same_split}
use Rattle.bb_cover.proofs.content.read_count.Goals as goal

pub returns-in_err-count : goal.returns-in_err-count
returns-in_err-count c = rw c.from_residual-in_err-count.ensures (λ n rest fits is.
    c.in_err-count.ensures n fits
    (same_split _ c.in_ok-digits.digits.now rest c.in_ok-digits.rest.now (decimal_no_space n fits)
    c.in_ok-digits.ensures.0 (is ∙ sym c.in_ok-digits.ensures.1)).0)
