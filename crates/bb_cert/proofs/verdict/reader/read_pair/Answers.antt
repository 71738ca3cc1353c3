use Rattle.std.proofs.Common.{◌≡◌, ℕ, ◌<◌, ◌^◌, ◌∷◌, ◌++◌, decimal, ◌∙◌, ap, sym, Some, None}
use Rattle.std.proofs.lemmas.Bool.Decides.{Decides-eqb}
use Rattle.std.proofs.lemmas.List.{append_cancel_left}
use Rattle.std.proofs.lemmas.Slice.Eq.{strip_prefix_is}
use Rattle.bb_cert.specs.verdict.Line.{pair_text}
use Rattle.bb_cert.proofs.verdict_lemmas.Numbers.{pair_split}
use Rattle.bb_cert.proofs.verdict.reader.read_pair.Goals as goal
use Rattle.bb_cert.proofs.verdict.reader.read_pair.Goals.{In_ok-first}

pub returns-in_err-numbers : goal.returns-in_err-numbers
returns-in_err-numbers c =
    let prefix = strip_prefix_is Decides-eqb c.args.bytes.now c.args.words.now None
    c.in_err-numbers.ensures.cases in
    rw c.from_residual.ensures (λ a b _ _ is. prefix (pair_text a b) (sym is))

-- what follows the words is split at its first space
split_here : (c : In_ok-first) (a b : ℕ) → a < 2 ^ 64 → c.args.words.now ++ pair_text a b ≡ c.args.bytes.now
    → (decimal a ≡ c.in_ok-first.first.now) × (decimal b ≡ c.in_ok-first.second.now)
split_here c a b fits is =
    let prefix = strip_prefix_is Decides-eqb c.args.bytes.now c.args.words.now (Some c.in_ok-numbers.numbers)
    c.in_ok-numbers.ensures.cases in
    pair_split a b fits c.in_ok-first.ensures.0 c.in_ok-first.ensures.1
    (append_cancel_left c.args.words.now (pair_text a b) c.in_ok-numbers.numbers.now (is ∙ prefix))

pub returns-in_err-read_number : goal.returns-in_err-read_number
returns-in_err-read_number c = rw c.from_residual-in_err-read_number.ensures (λ a b fits _ is.
    c.in_err-read_number.ensures a fits
    (split_here (goal.at.returns-in_err-read_number c).In_ok-first a b fits is).0)

pub returns-in_err-read_number-2 : goal.returns-in_err-read_number-2
returns-in_err-read_number-2 c = rw c.from_residual-in_err-read_number-2.ensures (λ a b fits fits_too is.
    c.in_err-read_number-2.ensures b fits_too
    (split_here (goal.at.returns-in_err-read_number-2 c).In_ok-first a b fits is).1)

pub returns : goal.returns
returns c =
    let first = c.in_ok-first.first.now in
    let prefix = strip_prefix_is Decides-eqb c.args.bytes.now c.args.words.now (Some c.in_ok-numbers.numbers)
    c.in_ok-numbers.ensures.cases in
    let numbers : pair_text c.in_ok-read_number.field-0 c.in_ok-read_number-2.field-0 ≡
    c.in_ok-numbers.numbers.now =
    ap (λ digits. digits ++ 32 ∷ decimal c.in_ok-read_number-2.field-0) c.in_ok-read_number.ensures.1
    ∙ ap (λ digits. first ++ 32 ∷ digits) c.in_ok-read_number-2.ensures.1
    ∙ c.in_ok-first.ensures.1 in (
      c.in_ok-read_number.ensures.0,
      c.in_ok-read_number-2.ensures.0,
      ap (λ text. c.args.words.now ++ text)
          numbers ∙ sym prefix,
    )
