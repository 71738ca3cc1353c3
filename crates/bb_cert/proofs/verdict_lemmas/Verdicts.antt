-- Different verdicts are written in different words.
use Rattle.std.proofs.Common.{◌≡◌, ◌≢◌, ℕ, ◌<◌, ◌^◌, Option, Some, None, List, ◌∷◌, ◌++◌, length, codes}
use Rattle.std.proofs.Common.{decimal, refl, sym, ◌∙◌, ap, arith, rules}
use Rattle.std.proofs.lemmas.Fmt.{decimal_injective}
use Rattle.bb_cert.specs.declared.verdict.Extent.{Extent}
use Rattle.bb_cert.specs.declared.verdict.Side.{Side}
use Rattle.bb_cert.specs.declared.verdict.Side.TheVariants.{L, R}
use Rattle.bb_cert.specs.declared.verdict.Why.{Why}
use Rattle.bb_cert.specs.declared.verdict.Why.TheVariants.{Steps, Cells}
use Rattle.bb_cert.specs.declared.verdict.Verdict.{Verdict}
use Rattle.bb_cert.specs.declared.verdict.Verdict.TheVariants.{Halt, Cycler, Translated, Backward, Undecided}
use Rattle.bb_cert.specs.verdict.Verdict.{HasExtentNumbers, HasNumbers}
use Rattle.bb_cert.specs.verdict.Line.{pair_text, records_text, second_text, verdict_text}
use Rattle.bb_cert.proofs.verdict_lemmas.Spaces.{HasNoSpace, no_space_within, same_split}
use Rattle.bb_cert.proofs.verdict_lemmas.Numbers.{decimal_no_space, pair_apart}

letter : Side → ℕ
letter L = 76
letter R = 82

reason : Why → List ℕ
reason Steps = codes "steps"
reason Cells = codes "cells"

-- a verdict's first word, and what stands after it
word : Verdict → List ℕ
word (Halt steps score) = codes "halt"
word (Cycler first second) = codes "cycler"
word (Translated side first second extent) = codes "translated"
word (Backward levels nodes) = codes "backward"
word (Undecided why) = codes "undecided"

others : Verdict → List ℕ
others (Halt steps score) = pair_text steps score
others (Cycler first second) = pair_text first second
others (Translated side first second extent) = letter side ∷ 32 ∷ records_text first second extent
others (Backward levels nodes) = pair_text levels nodes
others (Undecided why) = reason why

pub words_of : Verdict → List ℕ
words_of verdict = word verdict ++ 32 ∷ others verdict

pub verdict_words : (verdict : Verdict) → verdict_text verdict ≡ 32 ∷ words_of verdict
unfolding words_of word others letter reason
verdict_words (Halt steps score) = refl
verdict_words (Cycler first second) = refl
verdict_words (Translated L first second extent) = refl
verdict_words (Translated R first second extent) = refl
verdict_words (Backward levels nodes) = refl
verdict_words (Undecided Steps) = refl
verdict_words (Undecided Cells) = refl

word_no_space : (verdict : Verdict) → HasNoSpace (word verdict)
unfolding word
word_no_space (Halt steps score) = search rules
word_no_space (Cycler first second) = search rules
word_no_space (Translated side first second extent) = search rules
word_no_space (Backward levels nodes) = search rules
word_no_space (Undecided why) = search rules

side_apart : (a b : Side) → letter a ≡ letter b → a ≡ b
unfolding letter
side_apart L L is = refl
side_apart L R is = absurd (omega arith)
side_apart R L is = absurd (omega arith)
side_apart R R is = refl

why_apart : (a b : Why) → reason a ≡ reason b → a ≡ b
unfolding reason
why_apart Steps Steps is = refl
why_apart Steps Cells is = let first : ◌≡◌ {A = ℕ} 115 99 = cc in absurd (omega arith)
why_apart Cells Steps is = let first : ◌≡◌ {A = ℕ} 99 115 = cc in absurd (omega arith)
why_apart Cells Cells is = refl

seconds_apart : (b d : ℕ) (e f : Option Extent) → b < 2 ^ 64 → d < 2 ^ 64 → HasExtentNumbers e
    → HasExtentNumbers f
    → second_text b e ≡ second_text d f → (b ≡ d) × (e ≡ f)
seconds_apart b d None None p q _ _ is = (decimal_injective b d p q is, refl)
seconds_apart b d None (Some f) p q _ _ is =
    absurd (no_space_within (decimal d) (pair_text f.shift f.length) (decimal b) (decimal_no_space b p)
    (sym is))
seconds_apart b d (Some e) None p q _ _ is =
    absurd (no_space_within (decimal b) (pair_text e.shift e.length) (decimal d) (decimal_no_space d q) is)
seconds_apart b d (Some e) (Some f) p q r s is =
    let parts = same_split (decimal b) (decimal d) (pair_text e.shift e.length) (pair_text f.shift f.length)
    (decimal_no_space b p) (decimal_no_space d q) is in
    let pair = pair_apart e.shift e.length f.shift f.length r.0 r.1 s.0 s.1 parts.1 in (
      decimal_injective b d p q parts.0,
      ap Some (ap (λ n. record e { shift = n }) pair.0 ∙ ap (λ n. record f { length = n }) pair.1),
    )

records_apart : (a b c d : ℕ) (e f : Option Extent) → a < 2 ^ 64 → b < 2 ^ 64 → c < 2 ^ 64 → d < 2 ^ 64
    → HasExtentNumbers e → HasExtentNumbers f → records_text a b e ≡ records_text c d f → (a ≡ c) × (b ≡ d)
    × (e ≡ f)
records_apart a b c d e f p q r s first second is =
    let parts = same_split (decimal a) (decimal c) (second_text b e) (second_text d f) (decimal_no_space a p)
    (decimal_no_space c r) is in
    let others = seconds_apart b d e f q s first second parts.1 in
    (decimal_injective a c p r parts.0, others.0, others.1)

parts_apart : (v w : Verdict) → HasNumbers v → HasNumbers w → word v ≡ word w → others v ≡ others w → v ≡ w
unfolding word others
parts_apart (Halt a b) (Halt c d) p q _ is = let pair = pair_apart a b c d p.0 p.1 q.0 q.1 is in
    cc (pair.0, pair.1)
parts_apart (Cycler a b) (Cycler c d) p q _ is = let pair = pair_apart a b c d p.0 p.1 q.0 q.1 is in
    cc (pair.0, pair.1)
parts_apart (Translated s a b e) (Translated t c d f) p q _ is =
    let side : s ≡ t = side_apart s t cc in
    let parts = records_apart a b c d e f p.0 p.1 q.0 q.1 p.2 q.2 cc in
    cc (side, parts.0, parts.1, parts.2)
parts_apart (Backward a b) (Backward c d) p q _ is = let pair = pair_apart a b c d p.0 p.1 q.0 q.1 is in
    cc (pair.0, pair.1)
parts_apart (Undecided a) (Undecided b) p q _ is = ap Undecided (why_apart a b is)
parts_apart v w p q words _ = absurd (omega (arith, ap length words))

pub words_apart : (v w : Verdict) → HasNumbers v → HasNumbers w → words_of v ≡ words_of w → v ≡ w
unfolding words_of
words_apart v w p q is =
    let parts = same_split (word v) (word w) (others v) (others w) (word_no_space v) (word_no_space w) is in
    parts_apart v w p q parts.0 parts.1

-- no two numbers stand in the words after this word
abbrev pub HasNoPair : List ℕ → List ℕ → Type 0
HasNoPair word words = (a b : ℕ) → a < 2 ^ 64 → b < 2 ^ 64 → word ++ pair_text a b ≢ words

-- nor the steps of two records
abbrev pub HasNoRecords : List ℕ → List ℕ → Type 0
HasNoRecords word words = (a b : ℕ) (extent : Option Extent) → a < 2 ^ 64 → b < 2 ^ 64
    → HasExtentNumbers extent
    → word ++ records_text a b extent ≢ words

pub no_verdict : (words : List ℕ) → HasNoPair (codes "halt ") words → HasNoPair (codes "cycler ") words
    → HasNoRecords (codes "translated L ") words → HasNoRecords (codes "translated R ") words
    → HasNoPair (codes "backward ") words → words ≢ codes "undecided steps" → words ≢ codes "undecided cells"
    → (verdict : Verdict) → HasNumbers verdict → verdict_text verdict ≢ 32 ∷ words
no_verdict words halt cycler left right backward steps cells (Halt a b) fits is = halt a b fits.0 fits.1 cc
no_verdict words halt cycler left right backward steps cells (Cycler a b) fits is =
    cycler a b fits.0 fits.1 cc
no_verdict words halt cycler left right backward steps cells (Translated L a b extent) fits is =
    left a b extent fits.0 fits.1 fits.2 cc
no_verdict words halt cycler left right backward steps cells (Translated R a b extent) fits is =
    right a b extent fits.0 fits.1 fits.2 cc
no_verdict words halt cycler left right backward steps cells (Backward a b) fits is =
    backward a b fits.0 fits.1 cc
no_verdict words halt cycler left right backward steps cells (Undecided Steps) fits is = steps cc
no_verdict words halt cycler left right backward steps cells (Undecided Cells) fits is = cells cc
