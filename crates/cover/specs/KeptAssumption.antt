-- Why the first bytes of a line decide whether it names a machine, and which: a law that the engine asks for.
-- It is a proof; it stands here, since a trait's law may cite nothing of `proofs/`.
use Rattle.std.proofs.Common.{ℕ, ◌+◌, ◌<◌, ◌≤◌, List, [], ◌∷◌, take, length, codes}
use Rattle.std.proofs.Common.{Option, None, Some, inl, inr, ap, subst, sym}
use Rattle.std.proofs.Common.{arith, length-append}
use Rattle.std.proofs.lemmas.Bool.{cases_lt}
use Rattle.std.proofs.lemmas.List.{take_all, length-take}
use Rattle.bb_machine.specs.declared.machine.TheConstants.{MAX_STATES, MAX_SYMBOLS}
use Rattle.bb_machine.proofs.Facts.{text_short}
use Rattle.bb_cert.specs.declared.verdict.line.TheConstants.{LINE_BUFFER}
use Rattle.cover.specs.declared.assumed.AssumedLines.{AssumedLines}
use Rattle.cover.specs.Assumption.{AddsLine, IsAssumption, IsFine, TookBy, TookLine, texts_of}

assumption_short : (words line : List ℕ) → IsAssumption words line → length line ≤ LINE_BUFFER
assumption_short words line is =
    let machine = text_short MAX_STATES MAX_SYMBOLS is.table is.machine in
    let same = ap length is.words_are in
    let whole = length-append words (codes " nonhalt") in
    let all = ap length is.whole in
    omega arith

too_long : (before : List (List ℕ)) (line : List ℕ) (after : List (List ℕ)) → AddsLine before line after
    → LINE_BUFFER < length line → ⊥
too_long before [] after adds long = omega (arith, long)
too_long before (byte ∷ bytes) after adds long =
    let short = assumption_short adds.0 (byte ∷ bytes) adds.1 in omega (arith, short, long)

adds_of_kept : (before : List (List ℕ)) (line : List ℕ) (after : List (List ℕ))
    → AddsLine before (take (LINE_BUFFER + 1) line) after → AddsLine before line after
adds_of_kept before line after adds = elim (cases_lt LINE_BUFFER (length line)) [
  | inl long ↦
      let few = length-take (LINE_BUFFER + 1) line in
      absurd (too_long before (take (LINE_BUFFER + 1) line) after adds (omega (arith, few, long)))
  | inr fits ↦
      subst (λ bytes. AddsLine before bytes after) (take_all (LINE_BUFFER + 1) line (omega (arith, fits))) adds
]

fine_of_whole : (line : List ℕ) → IsFine line → length line ≤ LINE_BUFFER
fine_of_whole [] fine = omega arith
fine_of_whole (byte ∷ bytes) fine = assumption_short fine.0 (byte ∷ bytes) fine.1

wrong_of_kept : (line : List ℕ) → (IsFine (take (LINE_BUFFER + 1) line) → ⊥) → IsFine line → ⊥
wrong_of_kept line wrong fine =
    let short = fine_of_whole line fine in
    wrong (subst IsFine (sym (take_all (LINE_BUFFER + 1) line (omega (arith, short)))) fine)

took_by_kept : (wrong : Option ℕ) (old : AssumedLines) (line : List ℕ) (new : AssumedLines)
    → TookBy wrong old (take (LINE_BUFFER + 1) line) new → TookBy wrong old line new
took_by_kept None old line new (inl adds) =
    inl (adds.0, adds_of_kept (texts_of old) line (texts_of new) adds.1)
took_by_kept None old line new (inr found) = inr (found.0, wrong_of_kept line found.1)
took_by_kept (Some number) old line new same = same

pub took_line_of_kept : (old : AssumedLines) (line : List ℕ) (new : AssumedLines)
    → TookLine old (take (LINE_BUFFER + 1) line) new → TookLine old line new
took_line_of_kept old line new took = record {
  counted = took.counted;
  by = took_by_kept old.wrong old line new took.by;
}
