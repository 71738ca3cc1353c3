-- A machine's text with another entry, and with none.
use Rattle.std.proofs.Common.{◌≡◌, ℕ, zero, suc, ◌+◌, ◌*◌, ◌<◌, ◌≤◌, List, [], ◌∷◌, ◌++◌, length, get_or, set}
use Rattle.std.proofs.Common.{take, drop, map, cond, nat_eq, replicate, refl, ap, ap₂, sym, ◌∙◌, append_assoc}
use Rattle.std.proofs.Common.{arith, length-append}
use Rattle.std.specs.List.{AllByRecursion}
use Rattle.std.proofs.lemmas.Bool.Decides.{nat_tests}
use Rattle.std.proofs.lemmas.List.{map-append}
use Rattle.std.proofs.Math.Seq.{drop-append_seam, take-append_seam}
use Rattle.bb_machine.specs.declared.entry.Dir.{Dir}
use Rattle.bb_machine.specs.declared.entry.Dir.TheVariants.{L, R}
use Rattle.bb_machine.specs.declared.entry.Entry.{Entry}
use Rattle.bb_machine.specs.declared.entry.Entry.TheVariants.{Undefined, Go}
use Rattle.bb_machine.specs.declared.entry.Next.{Next}
use Rattle.bb_machine.specs.declared.entry.Next.TheVariants.{State, Halt}
use Rattle.bb_machine.specs.Entry.{IsEntryOf, IsNextOf, dir_letter, entry_text, next_letter}
use Rattle.bb_machine.specs.Machine.{Table, IsGroup, IsMachine, entry_of, group_text, symbols_of, text}
use Rattle.bb_machine.proofs.Facts.{tail_text}
use Rattle.laws_of_verdicts.specs.Closed.{blank_table, with_entry}
use Rattle.laws_of_verdicts.proofs.Facts.{groups_long}
use Rattle.bb_cover.proofs.Tables.{own_entry}

entry_length : (e : Entry) → length (entry_text e) ≡ 3
entry_length Undefined = refl
entry_length (Go write dir to) = refl

-- bytes that have an entry's text at this place
pub record IsCut (whole : Entry → List ℕ) (place : ℕ) : Type 0 where
  pub before : List ℕ
  pub after : List ℕ
  pub is : (e : Entry) → whole e ≡ before ++ (entry_text e ++ after)
  pub long : length before ≡ place

group_cut : (g : List Entry) (s : ℕ) → s < length g → IsCut (λ e. group_text (set g s e)) (3 * s)
group_cut [] s h = absurd (omega (arith, h))
group_cut (x ∷ g) zero h = record { before = []; after = group_text g; is = λ e. refl; long = refl }
group_cut (x ∷ g) (suc s) h =
    let rest = group_cut g s (omega (arith, h)) in
    record {
      before = entry_text x ++ rest.before;
      after = rest.after;
      is = λ e. ap (λ xs. entry_text x ++ xs) (rest.is e)
          ∙ sym (append_assoc (entry_text x) rest.before (entry_text e ++ rest.after));
      long = omega (arith, length-append (entry_text x) rest.before, entry_length x, rest.long);
    }

-- all groups have so many entries
abbrev AreWide : ℕ → Table → Type 0
AreWide k gs = (i : ℕ) → i < length gs → length (get_or gs i []) ≡ k

wide_rest : (k : ℕ) (g : List Entry) (gs : Table) → AreWide k (g ∷ gs) → AreWide k gs
wide_rest k g gs wide i h = wide (suc i) (omega (arith, h))

length-group : (g : List Entry) → length (group_text g) ≡ 3 * length g
length-group [] = refl
length-group (e ∷ g) =
    omega (arith, length-append (entry_text e) (group_text g), entry_length e, length-group g)

tail_cut : (k : ℕ) (gs : Table) → AreWide k gs → (q s : ℕ) → q < length gs → s < k
    → IsCut (λ e. tail_text (with_entry gs q s e)) (q * (3 * k + 1) + 3 * s + 1)
tail_cut k [] wide q s below inside = absurd (omega (arith, below))
tail_cut k (g ∷ gs) wide zero s below inside =
    let here = group_cut g s (omega (arith, wide 0 (omega arith), inside)) in
    record {
      before = 95 ∷ here.before;
      after = here.after ++ tail_text gs;
      is = λ e. ap (λ xs. 95 ∷ (xs ++ tail_text gs)) (here.is e)
          ∙ ap (λ xs. 95 ∷ xs) (append_assoc here.before (entry_text e ++ here.after) (tail_text gs)
          ∙ ap (λ xs. here.before ++ xs) (append_assoc (entry_text e) here.after (tail_text gs)));
      long = omega (arith, here.long);
    }
tail_cut k (g ∷ gs) wide (suc q) s below inside =
    let rest = tail_cut k gs (wide_rest k g gs wide) q s (omega (arith, below)) inside in
    let same : length g ≡ k = wide 0 (omega arith) in
    record {
      before = 95 ∷ (group_text g ++ rest.before);
      after = rest.after;
      is = λ e. ap (λ xs. 95 ∷ (group_text g ++ xs)) (rest.is e)
          ∙ ap (λ xs. 95 ∷ xs) (sym (append_assoc (group_text g) rest.before (entry_text e ++ rest.after)));
      long = omega (arith, length-append (group_text g) rest.before, length-group g, same, rest.long);
    }

text_cut_of : (k : ℕ) (gs : Table) → AreWide k gs → (q s : ℕ) → q < length gs → s < k
    → IsCut (λ e. text (with_entry gs q s e)) (q * (3 * k + 1) + 3 * s)
text_cut_of k [] wide q s below inside = absurd (omega (arith, below))
text_cut_of k (g ∷ gs) wide zero s below inside =
    let here = group_cut g s (omega (arith, wide 0 (omega arith), inside)) in
    record {
      before = here.before;
      after = here.after ++ tail_text gs;
      is = λ e. ap (λ xs. xs ++ tail_text gs) (here.is e)
          ∙ append_assoc here.before (entry_text e ++ here.after) (tail_text gs)
          ∙ ap (λ xs. here.before ++ xs) (append_assoc (entry_text e) here.after (tail_text gs));
      long = omega (arith, here.long);
    }
text_cut_of k (g ∷ gs) wide (suc q) s below inside =
    let rest = tail_cut k gs (wide_rest k g gs wide) q s (omega (arith, below)) inside in
    let same : length g ≡ k = wide 0 (omega arith) in
    record {
      before = group_text g ++ rest.before;
      after = rest.after;
      is = λ e. ap (λ xs. group_text g ++ xs) (rest.is e)
          ∙ sym (append_assoc (group_text g) rest.before (entry_text e ++ rest.after));
      long = omega (arith, length-append (group_text g) rest.before, length-group g, same, rest.long);
    }

pub text_cut : (table : Table) → IsMachine table → (q s : ℕ) → q < length table → s < symbols_of table
    → IsCut (λ e. text (with_entry table q s e)) (q * (3 * symbols_of table + 1) + 3 * s)
text_cut table machine q s below inside =
    text_cut_of (symbols_of table) table (groups_long table machine) q s below inside

-- the machine's own text, cut there
module _ (table : Table) (machine : IsMachine table) (q s : ℕ) (below : q < length table)
    (inside : s < symbols_of table) where
  pub cut : IsCut (λ e. text (with_entry table q s e)) (q * (3 * symbols_of table + 1) + 3 * s)
  cut = text_cut table machine q s below inside

  own : text table ≡ cut.before ++ (entry_text (entry_of table q s) ++ cut.after)
  own = ap text (sym (own_entry table q s)) ∙ cut.is (entry_of table q s)

  pub text_long : length (text table) ≡ q * (3 * symbols_of table + 1) + 3 * s + 3 + length cut.after
  text_long =
      let one = ap length own in
      let two = length-append cut.before (entry_text (entry_of table q s) ++ cut.after) in
      let three = length-append (entry_text (entry_of table q s)) cut.after in
      let four = entry_length (entry_of table q s) in
      omega (arith, one, two, three, four, cut.long)

  past : (e : Entry) → drop 3 (entry_text e ++ cut.after) ≡ cut.after
  past Undefined = refl
  past (Go write dir to) = refl

  pub before_is : (place : ℕ) → place ≡ q * (3 * symbols_of table + 1) + 3 * s
      → take place (text table) ≡ cut.before
  before_is place e =
      ap₂ take (e ∙ sym cut.long) own ∙ take-append_seam cut.before _

  pub after_is : (place : ℕ) → place ≡ q * (3 * symbols_of table + 1) + 3 * s
      → drop 3 (drop place (text table)) ≡ cut.after
  after_is place e =
      ap (drop 3) (ap₂ drop (e ∙ sym cut.long) own ∙ drop-append_seam cut.before _)
      ∙ past (entry_of table q s)

-- every byte but the bars a dash

abbrev pub dash : ℕ → ℕ
dash byte = cond (nat_eq byte 95) 95 45

no_bar : (byte : ℕ) → byte < 95 → dash byte ≡ 45
no_bar byte less = grind (arith, nat_tests)

dashes_of_entry : (e : Entry) → IsEntryOf 25 10 e → map dash (entry_text e) ≡ entry_text Undefined
dashes_of_entry Undefined named = refl
dashes_of_entry (Go write dir to) named =
    let one = no_bar (48 + write) (let h = named.0 in omega (arith, h)) in
    let two = by_dir dir in
    let three = by_next to named.1 in
    λ i. one i ∷ two i ∷ three i ∷ []
  where
    by_dir : (dir : Dir) → dash (dir_letter dir) ≡ 45
    by_dir L = refl
    by_dir R = refl

    by_next : (to : Next) → IsNextOf 25 to → dash (next_letter to) ≡ 45
    by_next (State q) h = no_bar (65 + q) (omega (arith, h))
    by_next Halt h = refl

pub named_few : (n k : ℕ) → n ≤ 25 → k ≤ 10 → (e : Entry) → IsEntryOf n k e → IsEntryOf 25 10 e
named_few n k few fewer Undefined named = tt
named_few n k few fewer (Go write dir (State to)) named =
    (let h = named.0 in omega (arith, h, fewer), let h = named.1 in omega (arith, h, few))
named_few n k few fewer (Go write dir Halt) named = (let h = named.0 in omega (arith, h, fewer), tt)

dashes_of_group : (n k : ℕ) → n ≤ 25 → k ≤ 10 → (g : List Entry) → AllByRecursion (IsEntryOf n k) g
    → map dash (group_text g) ≡ group_text (replicate (length g) Undefined)
dashes_of_group n k few fewer [] all = refl
dashes_of_group n k few fewer (e ∷ g) all =
    map-append dash (entry_text e) (group_text g)
    ∙ ap₂ ◌++◌ (dashes_of_entry e (named_few n k few fewer e all.0))
    (dashes_of_group n k few fewer g all.1)

dashes_of_tail : (n k : ℕ) → n ≤ 25 → k ≤ 10 → (gs : Table) → AllByRecursion (IsGroup n k) gs
    → map dash (tail_text gs) ≡ tail_text (blank_table (length gs) k)
dashes_of_tail n k few fewer [] all = refl
dashes_of_tail n k few fewer (g ∷ gs) all =
    let here = dashes_of_group n k few fewer g all.0.entries
    ∙ ap (λ m. group_text (replicate m Undefined)) all.0.full in
    ap (λ xs. 95 ∷ xs) (map-append dash (group_text g) (tail_text gs)
    ∙ ap₂ ◌++◌ here (dashes_of_tail n k few fewer gs all.1))

dashes_of_text : (n k : ℕ) → n ≤ 25 → k ≤ 10 → (gs : Table) → AllByRecursion (IsGroup n k) gs
    → map dash (text gs) ≡ text (blank_table (length gs) k)
dashes_of_text n k few fewer [] all = refl
dashes_of_text n k few fewer (g ∷ gs) all =
    let here = dashes_of_group n k few fewer g all.0.entries
    ∙ ap (λ m. group_text (replicate m Undefined)) all.0.full in
    map-append dash (group_text g) (tail_text gs) ∙ ap₂ ◌++◌ here (dashes_of_tail n k few fewer gs all.1)

pub dashes_are_blank : (table : Table) → IsMachine table
    → map dash (text table) ≡ text (blank_table (length table) (symbols_of table))
dashes_are_blank table machine =
    dashes_of_text (length table) (symbols_of table) machine.states machine.symbols table machine.groups
