-- A text can be taken apart in one way only.
use Rattle.std.proofs.Common.{◌≡◌, ℕ, ◌+◌, ◌<◌, List, [], ◌∷◌, ◌++◌, length, refl, sym, ◌∙◌, ap, append_assoc}
use Rattle.std.proofs.Common.{arith}
use Rattle.std.proofs.lemmas.List.{append-nil}
use Rattle.std.proofs.lemmas.List.Concat.{flat_map-append}
use Rattle.std.specs.List.{AllByRecursion, flat_map}
use Rattle.bb_machine.specs.declared.entry.Dir.{Dir}
use Rattle.bb_machine.specs.declared.entry.Dir.TheVariants.{L, R}
use Rattle.bb_machine.specs.declared.entry.Next.{Next}
use Rattle.bb_machine.specs.declared.entry.Next.TheVariants.{State, Halt}
use Rattle.bb_machine.specs.declared.entry.Entry.{Entry}
use Rattle.bb_machine.specs.declared.entry.Entry.TheVariants.{Undefined, Go}
use Rattle.bb_machine.specs.Entry.{dir_letter, next_letter, entry_text, IsNextOf, IsEntryOf}
use Rattle.bb_machine.specs.Machine.{group_text, text}
use Rattle.bb_machine.specs.inside.Draft.{Begun, begun_text}

-- an entry whose letters and digit are apart from all others
abbrev pub IsPlain : Entry → Type 0
IsPlain e = IsEntryOf 25 10 e

abbrev pub ArePlain : List Entry → Type 0
ArePlain g = AllByRecursion IsPlain g

-- the groups after the first
abbrev pub tail_text : List (List Entry) → List ℕ
tail_text gs = flat_map (λ g. (95 ∷ []) ++ group_text g) gs

dir_apart : (a b : Dir) → dir_letter a ≡ dir_letter b → a ≡ b
dir_apart L L h = refl
dir_apart L R h = absurd (omega arith)
dir_apart R L h = absurd (omega arith)
dir_apart R R h = refl

next_apart : (a b : Next) → IsNextOf 25 a → IsNextOf 25 b → next_letter a ≡ next_letter b → a ≡ b
next_apart (State p) (State q) p_below q_below h = ap State (omega arith)
next_apart (State p) Halt p_below _ h = absurd (omega arith)
next_apart Halt (State q) _ q_below h = absurd (omega arith)
next_apart Halt Halt _ _ h = refl

-- different entries differ within their three bytes
pub entry_apart : (d e : Entry) (xs ys : List ℕ) → IsPlain d → IsPlain e
    → entry_text d ++ xs ≡ entry_text e ++ ys → (d ≡ e) × (xs ≡ ys)
entry_apart Undefined Undefined xs ys _ _ h = (refl, cc)
entry_apart Undefined (Go w d n) xs ys _ _ h = let first : 45 ≡ 48 + w = cc in absurd (omega arith)
entry_apart (Go w d n) Undefined xs ys _ _ h = let first : 48 + w ≡ 45 = cc in absurd (omega arith)
entry_apart (Go w d n) (Go w' d' n') xs ys p p' h =
    let first : 48 + w ≡ 48 + w' = cc in
    let writes : w ≡ w' = omega arith in
    let dirs : d ≡ d' = dir_apart d d' cc in
    let nexts : n ≡ n' = next_apart n n' p.1 p'.1 cc in
    (cc, cc)

-- no entry begins with the byte between groups
pub entry_no_bar : (e : Entry) (xs ys : List ℕ) → IsPlain e → entry_text e ++ xs ≡ 95 ∷ ys → ⊥
entry_no_bar Undefined xs ys _ h = let first : ◌≡◌ {A = ℕ} 45 95 = cc in omega arith
entry_no_bar (Go w d n) xs ys p h =
    let first : 48 + w ≡ 95 = cc in
    let below : w < 10 = p.0 in
    omega arith

pub entry_no_end : (e : Entry) (xs : List ℕ) → entry_text e ++ xs ≡ [] → ⊥
entry_no_end Undefined xs h = cc
entry_no_end (Go w d n) xs h = cc

-- the group `h`, before the groups `rest`, begins with `g`, and the rest of its text is `ys`
pub record Peels (h g : List Entry) (rest : List (List Entry)) (ys : List ℕ) : Type 0 where
  pub entries : List Entry
  pub is : h ≡ g ++ entries
  pub text_is : group_text entries ++ tail_text rest ≡ ys
  pub plain : ArePlain entries

-- where the text of one group begins that of another, which stands before a `_` or at the end, the
-- one group begins the other
group_peel : (h g : List Entry) (rest : List (List Entry)) (ys : List ℕ) → ArePlain h → ArePlain g
    → group_text h ++ tail_text rest ≡ group_text g ++ ys → Peels h g rest ys
group_peel h [] rest ys p _ eq = record { entries = h; is = refl; text_is = eq; plain = p }
group_peel [] (e ∷ g) [] ys _ p eq =
    absurd (entry_no_end e (group_text g ++ ys) (sym (eq ∙ append_assoc (entry_text e) (group_text g) ys)))
group_peel [] (e ∷ g) (r ∷ rest) ys _ p eq =
    absurd (entry_no_bar e (group_text g ++ ys) _ p.0
    (sym (eq ∙ append_assoc (entry_text e) (group_text g) ys)))
group_peel (d ∷ h) (e ∷ g) rest ys q p eq =
    let apart = entry_apart d e (group_text h ++ tail_text rest) (group_text g ++ ys) q.0 p.0
    (sym (append_assoc (entry_text d) (group_text h) (tail_text rest))
    ∙ (eq ∙ append_assoc (entry_text e) (group_text g) ys)) in
    let more = group_peel h g rest ys q.1 p.1 apart.1 in
    record { entries = more.entries; is = cc; text_is = more.text_is; plain = more.plain }

-- after a group's entries comes a `_`: the group is at its end, and another one follows
pub record IsAtBar (h : List Entry) (rest : List (List Entry)) (ys : List ℕ) : Type 0 where
  pub at_end : h ≡ []
  pub next : List Entry
  pub others : List (List Entry)
  pub is : rest ≡ next ∷ others
  pub text_is : group_text next ++ tail_text others ≡ ys

pub bar_peel : (h : List Entry) (rest : List (List Entry)) (ys : List ℕ) → ArePlain h
    → group_text h ++ tail_text rest ≡ 95 ∷ ys → IsAtBar h rest ys
bar_peel [] [] ys _ eq = cc
bar_peel [] (r ∷ more) ys _ eq = record { at_end = refl; next = r; others = more; is = refl; text_is = cc }
bar_peel (e ∷ h) rest ys p eq =
    absurd (entry_no_bar e (group_text h ++ tail_text rest) ys p.0
    (sym (append_assoc (entry_text e) (group_text h) (tail_text rest)) ∙ eq))

-- the table has the groups and the entries that were read in prefix, and the rest of its text is `more`
pub record GoesOn (b : Begun) (table : List (List Entry)) (more : List ℕ) : Type 0 where
  pub entries : List Entry
  pub rest : List (List Entry)
  pub is : table ≡ b.groups ++ (b.group ++ entries) ∷ rest
  pub text_is : group_text entries ++ tail_text rest ≡ more
  pub plain : ArePlain entries

begun_text-cons : (c : List Entry) (cs : List (List Entry)) (g : List Entry) (more : List ℕ)
    → begun_text (record { groups = c ∷ cs; group = g }) ++ more
    ≡ group_text c ++ 95 ∷ (begun_text (record { groups = cs; group = g }) ++ more)
begun_text-cons c cs g more = simp append_assoc

same_cons : (h c : List Entry) (hs rs cs : List (List Entry)) → h ≡ c → hs ≡ rs → rs ≡ cs → h ∷ hs ≡ c ∷ cs
same_cons h c hs rs cs e f i = cc

-- where a table's text begins with what was read, the table does
begun_peel : (cs : List (List Entry)) (g h : List Entry) (hs : List (List Entry)) (more : List ℕ)
    → AllByRecursion ArePlain cs → ArePlain g → ArePlain h → AllByRecursion ArePlain hs
    → group_text h ++ tail_text hs ≡ begun_text (record { groups = cs; group = g }) ++ more
    → GoesOn (record { groups = cs; group = g }) (h ∷ hs) more
begun_peel [] g h hs more _ pg ph _ eq =
    let peeled = group_peel h g hs more ph pg eq in
    record { entries = peeled.entries; rest = hs; is = cc; text_is = peeled.text_is; plain = peeled.plain }
begun_peel (c ∷ cs) g h hs more pcs pg ph phs eq =
    let ys : List ℕ = begun_text (record { groups = cs; group = g }) ++ more in
    let peeled : Peels h c hs (95 ∷ ys) =
    group_peel h c hs (95 ∷ ys) ph pcs.0 (eq ∙ begun_text-cons c cs g more) in
    let bar : IsAtBar peeled.entries hs ys = bar_peel peeled.entries hs ys peeled.plain peeled.text_is in
    let others : AllByRecursion ArePlain (bar.next ∷ bar.others) = rw bar.is at phs in
    let on = begun_peel cs g bar.next bar.others more pcs.1 pg others.0 others.1 bar.text_is in
    let at_end : c ++ peeled.entries ≡ c ++ [] = ap (λ x. c ++ x) bar.at_end in
    let whole : h ≡ c = peeled.is ∙ (at_end ∙ append-nil c) in
    record {
      entries = on.entries;
      rest = on.rest;
      is = same_cons h c hs (bar.next ∷ bar.others) (cs ++ (g ++ on.entries) ∷ on.rest) whole bar.is on.is;
      text_is = on.text_is;
      plain = on.plain;
    }

pub text_peel : (b : Begun) (gs : List (List Entry)) (more : List ℕ) → AllByRecursion ArePlain b.groups
    → ArePlain b.group → AllByRecursion ArePlain gs → 0 < length gs → text gs ≡ begun_text b ++ more
    → GoesOn b gs more
text_peel b [] more _ _ _ some _ = absurd (omega arith)
text_peel b (h ∷ hs) more pcs pg p _ eq = begun_peel b.groups b.group h hs more pcs pg p.0 p.1 eq

bars : (cs : List (List Entry)) (g : List Entry) (rest : List (List Entry))
    → tail_text (cs ++ g ∷ rest) ≡ 95 ∷ (begun_text (record { groups = cs; group = g }) ++ tail_text rest)
bars [] g rest = refl
bars (c ∷ cs) g rest = rw (bars cs g rest) (simp append_assoc)

text_from : (cs : List (List Entry)) (g entries : List Entry) (rest : List (List Entry))
    → text (cs ++ (g ++ entries) ∷ rest) ≡ begun_text (record { groups = cs; group = g })
    ++ (group_text entries ++ tail_text rest)
text_from [] g entries rest = rw (flat_map-append entry_text g entries) (simp append_assoc)
text_from (c ∷ cs) g entries rest =
    rw (bars cs (g ++ entries) rest, flat_map-append entry_text g entries) (simp append_assoc)

-- the text of a table that has what was read in prefix
pub text_on : (b : Begun) (entries : List Entry) (rest : List (List Entry))
    → text (b.groups ++ (b.group ++ entries) ∷ rest) ≡ begun_text b ++ (group_text entries ++ tail_text rest)
text_on b entries rest = text_from b.groups b.group entries rest
