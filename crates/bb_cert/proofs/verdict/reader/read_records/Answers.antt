use Rattle.std.proofs.Common.{◌≡◌, ℕ, ◌<◌, ◌^◌, decimal, Option, ◌∷◌, ◌++◌, ◌∙◌, ap, sym, Some, None}
use Rattle.std.proofs.lemmas.Bool.Decides.{Decides-eqb}
use Rattle.std.proofs.lemmas.List.{append_cancel_left}
use Rattle.std.proofs.lemmas.Slice.Eq.{strip_prefix_is}
use Rattle.bb_cert.specs.declared.verdict.Extent.{Extent}
use Rattle.bb_cert.specs.verdict.Line.{records_text, second_text}
use Rattle.bb_cert.proofs.verdict_lemmas.Numbers.{records_split}
use Rattle.bb_cert.proofs.verdict.reader.read_records.Goals as goal
use Rattle.bb_cert.proofs.verdict.reader.read_records.Goals.{In_ok-first}

pub returns-in_err-numbers : goal.returns-in_err-numbers
returns-in_err-numbers c =
    let prefix = strip_prefix_is Decides-eqb c.args.bytes.now c.args.words.now None
    c.in_err-numbers.ensures.cases in
    rw c.from_residual.ensures (λ a b extent _ _ _ is. prefix (records_text a b extent) (sym is))

-- what follows the words is split at its first space
split_here : (c : In_ok-first) (a b : ℕ) (extent : Option Extent) → a < 2 ^ 64
    → c.args.words.now ++ records_text a b extent ≡ c.args.bytes.now
    → (decimal a ≡ c.in_ok-first.first.now) × (second_text b extent ≡ c.in_ok-first.others.now)
split_here c a b extent fits is =
    let prefix = strip_prefix_is Decides-eqb c.args.bytes.now c.args.words.now (Some c.in_ok-numbers.numbers)
    c.in_ok-numbers.ensures.cases in
    records_split a b extent fits c.in_ok-first.ensures.0 c.in_ok-first.ensures.1
    (append_cancel_left c.args.words.now (records_text a b extent) c.in_ok-numbers.numbers.now (is ∙ prefix))

pub returns-in_err-first-2 : goal.returns-in_err-first-2
returns-in_err-first-2 c = rw c.from_residual-in_err-first-2.ensures (λ a b extent fits _ _ is.
    c.in_err-first-2.ensures a fits
    (split_here (goal.at.returns-in_err-first-2 c).In_ok-first a b extent fits is).0)

pub returns-in_err-second : goal.returns-in_err-second
returns-in_err-second c = rw c.from_residual-in_err-second.ensures (λ a b extent fits fits_too few is.
    c.in_err-second.ensures b extent fits_too few
    (split_here (goal.at.returns-in_err-second c).In_ok-first a b extent fits is).1)

pub returns : goal.returns
returns c =
    let first = c.in_ok-first.first.now in
    let prefix = strip_prefix_is Decides-eqb c.args.bytes.now c.args.words.now (Some c.in_ok-numbers.numbers)
    c.in_ok-numbers.ensures.cases in
    let claimed = second_text c.in_ok-second.second c.in_ok-second.extent in
    let numbers : records_text c.in_ok-first-2.first c.in_ok-second.second c.in_ok-second.extent
    ≡ c.in_ok-numbers.numbers.now = ap (λ digits. digits ++ 32 ∷ claimed) c.in_ok-first-2.ensures.1
    ∙ ap (λ text. first ++ 32 ∷ text) c.in_ok-second.ensures.2
    ∙ c.in_ok-first.ensures.1 in (
      c.in_ok-first-2.ensures.0,
      c.in_ok-second.ensures.0,
      c.in_ok-second.ensures.1,
      ap (λ text. c.args.words.now ++ text) numbers ∙ sym prefix,
    )
