-- Each verdict line is the line of one pair or of one column.
use Rattle.std.proofs.Common.{◌≡◌, ◌≢◌, ℕ, ◌+◌, ◌<◌, ◌≤◌, List, ◌∷◌, ◌++◌, decimal, sym, ◌∙◌, ap, arith}
use Rattle.bb_machine.specs.declared.machine.TheConstants.{LINE}
use Rattle.bb_machine.specs.declared.entry.Entry.{Entry}
use Rattle.bb_machine.specs.Machine.{IsMachine, text}
use Rattle.bb_machine.proofs.Facts.{text_unique}
use Rattle.std.proofs.lemmas.Fmt.{decimal_injective}
use Rattle.bb_cert.specs.declared.verdict.Verdict.{Verdict}
use Rattle.bb_cert.specs.declared.verdict.reader.Line.{Line}
use Rattle.bb_cert.specs.declared.verdict.reader.Line.TheVariants.{Claim, Refusal}
use Rattle.bb_cert.specs.verdict.Verdict.{HasNumbers}
use Rattle.bb_cert.specs.verdict.Line.{line_text, verdict_text, refusal_text, IsLineOf}
use Rattle.bb_cert.proofs.verdict_lemmas.Spaces.{HasNoSpace, same_split}
use Rattle.bb_cert.proofs.verdict_lemmas.MachineTexts.{text_no_space, text_no_r}
use Rattle.bb_cert.proofs.verdict_lemmas.Verdicts.{words_of, verdict_words, words_apart}

-- a line is split at its first space into the machine's text and the verdict's words
pub line_split : (table : List (List Entry)) (verdict : Verdict) (prefix rest bytes : List ℕ)
    → HasNoSpace prefix → prefix ++ 32 ∷ rest ≡ bytes → line_text table verdict ≡ bytes
    → (text table ≡ prefix) × (verdict_text verdict ≡ 32 ∷ rest)
line_split table verdict prefix rest bytes none parts is =
    let words = verdict_words verdict in
    let joined : text table ++ 32 ∷ words_of verdict ≡ prefix ++ 32 ∷ rest =
    ap (λ x. text table ++ x) (sym words) ∙ is ∙ sym parts in
    let split = same_split (text table) prefix (words_of verdict) rest (text_no_space table) none joined in
    (split.0, words ∙ ap (λ x. 32 ∷ x) split.1)

claims_apart : (s t : List (List Entry)) (v w : Verdict) → IsMachine s → IsMachine t → HasNumbers v
    → HasNumbers w → line_text s v ≡ line_text t w → Claim s v ≡ Claim t w
claims_apart s t v w p q a b is =
    let joined : text t ++ 32 ∷ words_of w ≡ line_text t w = ap (λ x. text t ++ x) (sym (verdict_words w)) in
    let split = line_split s v (text t) (words_of w) (line_text t w) (text_no_space t) joined is in
    let tables : s ≡ t = text_unique s t p q split.0 in
    let words : ◌≡◌ {A = List ℕ} (32 ∷ words_of v) (32 ∷ words_of w) = sym (verdict_words v) ∙ split.1 in
    let verdicts : v ≡ w = words_apart v w a b cc in
    cc

pub line_unique : (a b : Line) (bytes : List ℕ) → IsLineOf a bytes → IsLineOf b bytes → a ≡ b
line_unique (Claim s v) (Claim t w) bytes p q = claims_apart s t v w p.0 q.0 p.1 q.1 (p.2 ∙ sym q.2)
line_unique (Claim s v) (Refusal d) bytes p q = absurd (text_no_r s (verdict_text v) _ p.0 (p.2 ∙ sym q.2))
line_unique (Refusal c) (Claim t w) bytes p q = absurd (text_no_r t (verdict_text w) _ q.0 (q.2 ∙ sym p.2))
line_unique (Refusal c) (Refusal d) bytes p q =
    let both : refusal_text c ≡ refusal_text d = p.2 ∙ sym q.2 in
    let digits : decimal c ≡ decimal d = cc in
    ap Refusal (decimal_injective c d (omega (arith, p.1)) (omega (arith, q.1)) digits)

-- bytes that are no refusal's line, and that fall into no machine's text and verdict at their first space,
-- are no verdict line
pub no_line : (prefix rest bytes : List ℕ) → HasNoSpace prefix → prefix ++ 32 ∷ rest ≡ bytes
    → ((column : ℕ) → 0 < column → column ≤ LINE + 1 → refusal_text column ≢ bytes)
    → ((table : List (List Entry)) (verdict : Verdict) → IsMachine table → text table ≡ prefix
    → HasNumbers verdict → verdict_text verdict ≡ 32 ∷ rest → ⊥) → (line : Line) → IsLineOf line bytes → ⊥
no_line prefix rest bytes none parts no_refusal no_claim (Claim table verdict) is =
    let split = line_split table verdict prefix rest bytes none parts is.2 in
    no_claim table verdict is.0 split.0 is.1 split.1
no_line prefix rest bytes none parts no_refusal no_claim (Refusal column) is =
    no_refusal column is.0 is.1 is.2
