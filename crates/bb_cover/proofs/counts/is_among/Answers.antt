use Rattle.std.proofs.Common.{◌≡◌, ℕ, List, [], ◌∷◌, map, refl, ap, ◌∙◌}
use Rattle.std.specs.Prelude.{◌||◌}
use Rattle.std.specs.List.{list_any}
use Rattle.std.specs.Str.{bytes_eq}
use Rattle.bb_cover.proofs.counts.is_among.Goals as goal

-- a test of the words of elements, and of the words alone
tested : {X : Type 0} (f : X → List ℕ) (words : List ℕ) (xs : List X)
    → list_any (λ x. bytes_eq (f x) words) xs ≡ list_any (λ one. bytes_eq one words) (map f xs)
tested f words [] = refl
tested f words (x ∷ xs) = ap (λ rest. bytes_eq (f x) words || rest) (tested f words xs)

pub returns : goal.returns
returns c =
    c.contains.ensures.value
    ∙ tested (λ one. one.items) c.text_of.result.items c.args.assumed.now
    ∙ ap (λ words. list_any (λ one. bytes_eq one words) (map (λ one. one.items) c.args.assumed.now))
    c.text_of.ensures
