-- Tables, entry by entry: which are the same, which have no entry, and how many `---` there are.
use Rattle.std.proofs.Common.{◌≡◌, ℕ, suc, ◌+◌, ◌*◌, ◌<◌, ◌≤◌, List, [], ◌∷◌, ◌++◌, length, get_or, set, take}
use Rattle.std.proofs.Common.{replicate, inl, inr, refl, ap, sym, ◌∙◌, arith}
use Rattle.std.proofs.lemmas.Bool.{cases_eq, cases_lt}
use Rattle.std.proofs.lemmas.List.{ext_get_or, length-set, get_or-set_same, get_or-set_other}
use Rattle.std.proofs.lemmas.List.{get_or-replicate, set-get_or}
use Rattle.std.proofs.lemmas.List.{get_or_past, length-replicate, take_more}
use Rattle.bb_machine.specs.declared.entry.Dir.TheVariants as dir
use Rattle.bb_machine.specs.declared.entry.Entry.{Entry}
use Rattle.bb_machine.specs.declared.entry.Next.{Next}
use Rattle.bb_machine.specs.declared.entry.Next.TheVariants.{Halt}
use Rattle.bb_machine.specs.declared.entry.Entry.TheVariants.{Undefined, Go}
use Rattle.bb_machine.specs.Machine.{Table, IsMachine, entry_of, symbols_of}
use Rattle.laws_of_verdicts.specs.Closed.{blank_table, with_entry}
use Rattle.laws_of_verdicts.specs.NormalForm.{IsEmpty}
use Rattle.laws_of_verdicts.proofs.Facts.{blank_table-none, undefined_entries, undefined_entries-with_entry, groups_long}
use Rattle.laws_of_verdicts.proofs.Facts.{length-with_entry}
use Rattle.bb_cover.specs.declared.undefined.UndefinedEntry.{UndefinedEntry}
use Rattle.bb_cover.specs.UndefinedEntries.{IsUndefinedOf, undefined_in, undefined_entries_in, undefined_entries_of}

-- the groups of a machine with one entry more
group_long-with_entry : (table : Table) → IsMachine table → (q s : ℕ) (e : Entry) (i : ℕ) → i < length table
    → length (get_or (with_entry table q s e) i []) ≡ symbols_of table
group_long-with_entry table machine q s e i h = elim (cases_eq i q) [
  | inl same ↦
      ap (λ x. length (get_or (with_entry table q s e) x [])) same
      ∙ ap length (get_or-set_same table q (set (get_or table q []) s e) [] (omega (arith, h, same)))
      ∙ length-set (get_or table q []) s e ∙ groups_long table machine q (omega (arith, h, same))
  | inr apart ↦ ap length (get_or-set_other table q i (set (get_or table q []) s e) [] apart)
      ∙ groups_long table machine i h
]

-- the machine that has just these entries
pub same_table : (child table : Table) → IsMachine child → IsMachine table → (q s : ℕ) (e : Entry)
    → length child ≡ length table → symbols_of child ≡ symbols_of table
    → ((i : ℕ) → i < length table → (j : ℕ) → j < symbols_of table
    → entry_of child i j ≡ entry_of (with_entry table q s e) i j)
    → child ≡ with_entry table q s e
same_table child table machine machine_too q s e states symbols same =
    let long = length-with_entry table q s e in
    ext_get_or [] child (with_entry table q s e) (states ∙ sym long) (λ i h.
    let below : i < length table = omega (arith, h, states) in
    let wide_too = group_long-with_entry table machine_too q s e i below in
    ext_get_or Undefined (get_or child i []) (get_or (with_entry table q s e) i [])
    (omega (arith, groups_long child machine i h, wide_too, symbols)) (λ j inside.
    same i below j (omega (arith, inside, groups_long child machine i h, symbols))))

-- the machine with an entry that it has is itself
pub own_entry : (table : Table) (q s : ℕ) → with_entry table q s (entry_of table q s) ≡ table
own_entry table q s =
    ap (set table q) (set-get_or (get_or table q []) s Undefined) ∙ set-get_or table q []

-- the machine that has only gaps
pub all_empty : (table : Table) → IsMachine table
    → ((q : ℕ) → q < length table → (s : ℕ) → s < symbols_of table → entry_of table q s ≡ Undefined)
    → table ≡ blank_table (length table) (symbols_of table)
all_empty table machine none =
    let n = length table in
    let k = symbols_of table in
    let long : length (blank_table n k) ≡ n = length-replicate n (replicate k Undefined) in
    ext_get_or [] table (blank_table n k) (sym long) (λ i h.
    let wide = groups_long table machine i h in
    let group : get_or (blank_table n k) i [] ≡ replicate k Undefined =
    get_or-replicate n i (replicate k Undefined) [] h in
    let wide_too : length (replicate k Undefined) ≡ k = length-replicate k Undefined in
    ext_get_or Undefined (get_or table i []) (replicate k Undefined) (wide ∙ sym wide_too) (λ j inside.
    none i h j (omega (arith, inside, wide))
    ∙ sym (get_or-replicate k j Undefined Undefined (omega (arith, inside, wide))))
    ∙ sym group)

-- where all entries of the table are undefined, so are those outside
pub everywhere_empty : (table : Table) → IsMachine table
    → ((q : ℕ) → q < length table → (s : ℕ) → s < symbols_of table → entry_of table q s ≡ Undefined)
    → IsEmpty table
everywhere_empty table machine none q s =
    ap (λ t. entry_of t q s) (all_empty table machine none)
    ∙ blank_table-none (length table) (symbols_of table) q s

pub empty_is : (table : Table) → IsMachine table → IsEmpty table
    → table ≡ blank_table (length table) (symbols_of table)
empty_is table machine empty = all_empty table machine (λ q h s h'. empty q s)

-- an entry outside is undefined
pub outside : (table : Table) → IsMachine table → (q s : ℕ)
    → (q < length table → symbols_of table ≤ s) → entry_of table q s ≡ Undefined
outside table machine q s out = elim (cases_lt q (length table)) [
  | inl below ↦
      get_or_past _ s Undefined (omega (arith, groups_long table machine q below, out below))
  | inr above ↦ ap (λ g. get_or g s Undefined) (get_or_past table q [] above)
]

-- how many `---` there are

undefined_entries_in-append : (es fs : List Entry) → undefined_entries_in (es ++ fs) ≡ undefined_entries_in es + undefined_entries_in fs
undefined_entries_in-append [] fs = omega arith
undefined_entries_in-append (e ∷ es) fs = let rest = undefined_entries_in-append es fs in omega (arith, rest)

pub undefined_entries_in_more : (es : List Entry) (i : ℕ) → i < length es
    → undefined_entries_in (take (i + 1) es) ≡ undefined_entries_in (take i es) + undefined_in (get_or es i Undefined)
undefined_entries_in_more es i inside =
    let last = undefined_entries_in-append (take i es) (get_or es i Undefined ∷ []) in
    ap undefined_entries_in (take_more es i Undefined inside) ∙ omega (arith, last)

pub undefined_in_few : (e : Entry) → undefined_in e ≤ 1
undefined_in_few Undefined = omega arith
undefined_in_few (Go write dir to) = omega arith

pub undefined_entries_in_few : (es : List Entry) → undefined_entries_in es ≤ length es
undefined_entries_in_few [] = omega arith
undefined_entries_in_few (e ∷ es) = let one = undefined_in_few e in let rest = undefined_entries_in_few es in omega (arith, one, rest)

undefined_entries_of-append : (gs hs : Table) → undefined_entries_of (gs ++ hs) ≡ undefined_entries_of gs + undefined_entries_of hs
undefined_entries_of-append [] hs = omega arith
undefined_entries_of-append (g ∷ gs) hs = let rest = undefined_entries_of-append gs hs in omega (arith, rest)

pub undefined_entries_of_more : (gs : Table) (i : ℕ) → i < length gs
    → undefined_entries_of (take (i + 1) gs) ≡ undefined_entries_of (take i gs) + undefined_entries_in (get_or gs i [])
undefined_entries_of_more gs i inside =
    ap undefined_entries_of (take_more gs i [] inside) ∙ omega (arith, undefined_entries_of-append (take i gs) (get_or gs i [] ∷ []))

-- at most as many as there are entries
few_undefined_entries : (n : ℕ) (gs : Table) → ((q : ℕ) → q < length gs → length (get_or gs q []) ≤ n)
    → undefined_entries_of gs ≤ length gs * n
few_undefined_entries n [] wide = omega arith
few_undefined_entries n (g ∷ gs) wide =
    let rest = few_undefined_entries n gs (λ q h. wide (suc q) (omega (arith, h))) in
    omega (arith, wide 0 (omega arith), undefined_entries_in_few g, rest)

pub machine_few_undefined_entries : (table : Table) → IsMachine table → undefined_entries_of table ≤ 250
machine_few_undefined_entries table machine =
    let few = few_undefined_entries 10 table (λ q h.
    let most = machine.symbols in omega (arith, groups_long table machine q h, most)) in
    omega (arith, few, machine.states)

-- the laws' count is the same

same_in : (es : List Entry) → undefined_entries_in es + 0 ≡ undefined_entries (es ∷ [])
same_in [] = omega arith
same_in (Undefined ∷ es) = let rest = same_in es in omega (arith, rest)
same_in (Go write dir to ∷ es) = let rest = same_in es in omega (arith, rest)

pub same_undefined_entries : (gs : Table) → undefined_entries_of gs ≡ undefined_entries gs
same_undefined_entries [] = refl
same_undefined_entries (g ∷ gs) = omega (arith, same_in g, same_undefined_entries gs)

-- one `---` less
pub filled_undefined_entries : (table : Table) → IsMachine table → (q s write : ℕ) (dir : _) (to : Next)
    → q < length table → s < symbols_of table → entry_of table q s ≡ Undefined
    → undefined_entries_of (with_entry table q s (Go write dir to)) + 1 ≡ undefined_entries_of table
filled_undefined_entries table machine q s write dir to below inside undefined =
    simp same_undefined_entries (omega (arith, undefined_entries-with_entry table machine q s write dir to below inside undefined))

pub some_undefined_entries : (table : Table) → IsMachine table → (undefined : UndefinedEntry) → IsUndefinedOf table undefined → 0 < undefined_entries_of table
some_undefined_entries table machine undefined is =
    omega (arith, filled_undefined_entries table machine undefined.state undefined.symbol 0 dir.R Halt is.below is.inside is.is_undefined)
