-- The machines of a file, or its first wrong line, from what each line did.
use Rattle.std.proofs.Common.{◌≡◌, ℕ, ◌+◌, ◌<◌, List, [], ◌∷◌, ◌++◌, length, Option, None, Some, inl, inr, refl, ap, sym}
use Rattle.std.proofs.Common.{◌∙◌, subst, arith, length-append}
use Rattle.std.specs.List.{All, FoldsTo}
use Rattle.std.proofs.lemmas.Fn.{chained_keeps}
use Rattle.std.proofs.lemmas.List.{append_assoc}
use Rattle.std.proofs.lemmas.List.Elements.{All-append, All-cons, All-nil}
use Rattle.bb_cover.specs.Counts.{saturated}
use Rattle.cover.specs.declared.assumed.AssumedLines.{AssumedLines}
use Rattle.cover.specs.Assumption.{AddsLine, AreAssumed, IsAssumption, IsFine, IsFirstWrong, TookBy, TookLine, texts_of}

adds_more : (past : List (List ℕ)) (line : List ℕ) (texts after : List (List ℕ)) → AreAssumed past texts
    → AddsLine texts line after → AreAssumed (past ++ line ∷ []) after
adds_more [] [] texts after are adds = adds ∙ are
adds_more [] (byte ∷ bytes) texts after are adds =
    subst (AreAssumed ((byte ∷ bytes) ∷ [])) (sym (adds.2 ∙ ap (λ ts. ts ++ adds.0 ∷ []) are)) (adds.1, refl)
adds_more ([] ∷ past) line texts after are adds = adds_more past line texts after are adds
adds_more ((c ∷ cs) ∷ past) line [] after are adds = absurd are
adds_more ((c ∷ cs) ∷ past) [] (t ∷ texts) after are adds =
    subst (AreAssumed ((c ∷ cs) ∷ (past ++ [] ∷ []))) (sym adds)
    (are.0, adds_more past [] texts texts are.1 refl)
adds_more ((c ∷ cs) ∷ past) (byte ∷ bytes) (t ∷ texts) after are adds =
    subst (AreAssumed ((c ∷ cs) ∷ (past ++ (byte ∷ bytes) ∷ []))) (sym adds.2)
    (are.0, adds_more past (byte ∷ bytes) texts (texts ++ adds.0 ∷ []) are.1 (adds.0, adds.1, refl))

-- after these lines

abbrev After : Option ℕ → List (List ℕ) → AssumedLines → Type 0
After None past sink = AreAssumed past (texts_of sink) × All IsFine past
After (Some number) past sink = IsFirstWrong past number

record Has (past : List (List ℕ)) (sink : AssumedLines) : Type 0 where
  counted : sink.lines ≡ saturated (length past)
  after : After sink.wrong past sink

fine_of_adds : (before : List (List ℕ)) (line : List ℕ) (after : List (List ℕ)) → AddsLine before line after
    → IsFine line
fine_of_adds before [] after adds = tt
fine_of_adds before (byte ∷ bytes) after adds = (adds.0, adds.1)

pub not_fine : (line : List ℕ) → 0 < length line → ((words : List ℕ) → IsAssumption words line → ⊥)
    → IsFine line → ⊥
not_fine [] some none fine = omega (arith, some)
not_fine (byte ∷ bytes) some none fine = none fine.0 fine.1

pub first_wrong : (old : AssumedLines) (line : List ℕ) (new : AssumedLines)
    → new.lines ≡ saturated (old.lines + 1) → old.wrong ≡ None → new.wrong ≡ Some new.lines
    → (IsFine line → ⊥) → TookLine old line new
first_wrong old line new counted none found wrong = record {
  counted = counted;
  by = subst (λ was. TookBy was old line new) (sym none) (inr (found, wrong));
}

later_wrong : (past : List (List ℕ)) (line : List ℕ) (number : ℕ) → IsFirstWrong past number
    → IsFirstWrong (past ++ line ∷ []) number
later_wrong past line number first = record {
  before = first.before;
  line = first.line;
  after = first.after ++ line ∷ [];
  split = ap (λ lines. lines ++ line ∷ []) first.split
      ∙ append_assoc first.before (first.line ∷ first.after) (line ∷ []);
  fine = first.fine;
  wrong = first.wrong;
  at = first.at;
}

after_more : (was : Option ℕ) (past : List (List ℕ)) (old : AssumedLines) (line : List ℕ) (new : AssumedLines)
    → new.lines ≡ saturated (length past + 1) → After was past old → TookBy was old line new
    → After new.wrong (past ++ line ∷ []) new
after_more None past old line new count before (inl adds) =
    subst (λ wrong. After wrong (past ++ line ∷ []) new) (sym adds.0) (
      adds_more past line (texts_of old) (texts_of new) before.0 adds.1,
      All-append IsFine past (line ∷ []) before.1
          (All-cons IsFine line [] (fine_of_adds (texts_of old) line (texts_of new) adds.1) (All-nil IsFine)),
    )
after_more None past old line new count before (inr found) =
    subst (λ wrong. After wrong (past ++ line ∷ []) new) (sym found.0) (record {
      before = past;
      line = line;
      after = [];
      split = refl;
      fine = before.1;
      wrong = found.1;
      at = count;
    })
after_more (Some number) past old line new count before same =
    subst (λ wrong. After wrong (past ++ line ∷ []) new) (sym same) (later_wrong past line number before)

after_all : (lines : List (List ℕ)) (first last : AssumedLines) → first.lines ≡ 0 → first.wrong ≡ None
    → texts_of first ≡ [] → FoldsTo TookLine first lines last → After last.wrong lines last
after_all lines first last zero none nothing folds =
    (chained_keeps TookLine Has more lines first last at_first folds).after
  where
    at_first : Has [] first
    at_first = record {
      counted = omega (arith, zero);
      after = subst (λ wrong. After wrong [] first) (sym none) (nothing, (All-nil IsFine));
    }

    more : (past : List (List ℕ)) (old : AssumedLines) (line : List ℕ) (new : AssumedLines) → Has past old
        → TookLine old line new → Has (past ++ line ∷ []) new
    more past old line new has took =
        let counted = has.counted in
        let next = took.counted in
        let all = length-append past (line ∷ []) in
        record {
          counted = omega (arith, counted, next, all);
          after = after_more old.wrong past old line new (omega (arith, counted, next)) has.after took.by;
        }

pub all_assumed : (lines : List (List ℕ)) (first last : AssumedLines) → first.lines ≡ 0
    → first.wrong ≡ None → texts_of first ≡ [] → FoldsTo TookLine first lines last → last.wrong ≡ None
    → AreAssumed lines (texts_of last)
all_assumed lines first last zero none nothing folds fine =
    (subst (λ wrong. After wrong lines last) fine (after_all lines first last zero none nothing folds)).0

pub first_wrong_found : (lines : List (List ℕ)) (first last : AssumedLines) (number : ℕ) → first.lines ≡ 0
    → first.wrong ≡ None → texts_of first ≡ [] → FoldsTo TookLine first lines last
    → last.wrong ≡ Some number → IsFirstWrong lines number
first_wrong_found lines first last number zero none nothing folds found =
    subst (λ wrong. After wrong lines last) found (after_all lines first last zero none nothing folds)
