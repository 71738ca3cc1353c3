-- What one entry more makes of a table, and of how many `---` it has.
use Rattle.std.proofs.Common.{◌≡◌, ◌≢◌, ℕ, zero, suc, ◌+◌, ◌<◌, List, [], ◌∷◌, length, get_or, set, inl, inr}
use Rattle.std.proofs.Common.{replicate, refl, ap, ap₂, sym, ◌∙◌, arith}
use Rattle.std.specs.Prelude.{◌⊎◌}
use Rattle.std.specs.List.{AllByRecursion}
use Rattle.std.proofs.lemmas.Bool.{cases_eq}
use Rattle.std.proofs.lemmas.List.{length-replicate, length-set, get_or-set_same, get_or-set_other}
use Rattle.std.proofs.lemmas.List.Elements.{All-from_recursion}
use Rattle.bb_machine.specs.declared.entry.Dir.TheVariants.{L}
use Rattle.bb_machine.specs.declared.entry.Entry.{Entry}
use Rattle.bb_machine.specs.declared.entry.Entry.TheVariants.{Undefined, Go}
use Rattle.bb_machine.specs.declared.entry.Next.{Next}
use Rattle.bb_machine.specs.declared.entry.Next.TheVariants.{State, Halt}
use Rattle.bb_machine.specs.Entry.{IsEntryOf}
use Rattle.bb_machine.specs.Machine.{Table, IsGroup, IsMachine, entry_of, symbols_of}
use Rattle.laws_of_verdicts.specs.Closed.{blank_table, with_entry}
use Rattle.laws_of_verdicts.specs.UndefinedEntry.{HasOtherUndefined}
use Rattle.laws_of_verdicts.proofs.ChangedTrees.{groups_long}

-- the filled table

pub length-with_entry : (table : Table) (q s : ℕ) (e : Entry) → length (with_entry table q s e) ≡ length table
length-with_entry table q s e = length-set table q _

pub symbols_of-with_entry : (table : Table) (q s : ℕ) (e : Entry)
    → symbols_of (with_entry table q s e) ≡ symbols_of table
symbols_of-with_entry [] q s e = refl
symbols_of-with_entry (g ∷ gs) zero s e = length-set g s e
symbols_of-with_entry (g ∷ gs) (suc q) s e = refl

pub entry-same : (table : Table) → IsMachine table → (q s : ℕ) (e : Entry) → q < length table
    → s < symbols_of table → entry_of (with_entry table q s e) q s ≡ e
entry-same table machine q s e below inside =
    let long = groups_long table machine q below in
    ap (λ g. get_or g s Undefined) (get_or-set_same table q (set (get_or table q []) s e) [] below)
    ∙ get_or-set_same (get_or table q []) s e Undefined (omega (arith, long, inside))

pub entry-other : (table : Table) (q s i j : ℕ) (e : Entry) → q < length table → (i ≡ q → j ≢ s)
    → entry_of (with_entry table q s e) i j ≡ entry_of table i j
entry-other table q s i j e below other = elim (cases_eq i q) [
  | inl same ↦
      ap (λ x. entry_of (with_entry table q s e) x j) same
      ∙ ap (λ g. get_or g j Undefined) (get_or-set_same table q (set (get_or table q []) s e) [] below)
      ∙ get_or-set_other (get_or table q []) s j e Undefined (other same)
      ∙ ap (λ x. entry_of table x j) (sym same)
  | inr apart ↦ ap (λ g. get_or g j Undefined) (get_or-set_other table q i _ [] apart)
]

-- an entry of the filled table is the one that fills it, or that of the table
pub entry-either : (table : Table) → IsMachine table → (q s : ℕ) (e : Entry) → q < length table
    → s < symbols_of table → (i j : ℕ)
    → ((i ≡ q) × (j ≡ s) × (entry_of (with_entry table q s e) i j ≡ e))
    ⊎ ((i ≡ q → j ≢ s) × (entry_of (with_entry table q s e) i j ≡ entry_of table i j))
entry-either table machine q s e below inside i j = elim (cases_eq i q) [
  | inl same ↦ elim (cases_eq j s) [
    | inl same_too ↦ inl (
      same,
      same_too,
      ap₂ (entry_of (with_entry table q s e)) same same_too
          ∙ entry-same table machine q s e below inside,
    )
    | inr apart ↦ inr (λ _. apart, entry-other table q s i j e below (λ _. apart))
  ]
  | inr apart ↦ inr (λ at. absurd (apart at), entry-other table q s i j e below (λ at. absurd (apart at)))
]

all-set : {X : Type 0} (P : X → Type 0) (xs : List X) (i : ℕ) (y : X) → P y → AllByRecursion P xs
    → AllByRecursion P (set xs i y)
all-set P [] i y here all = all
all-set P (x ∷ xs) zero y here all = (here, all.1)
all-set P (x ∷ xs) (suc i) y here all = (all.0, all-set P xs i y here all.1)

pub machine-with_entry : (table : Table) → IsMachine table → (q s : ℕ) (e : Entry) → q < length table
    → IsEntryOf (length table) (symbols_of table) e → IsMachine (with_entry table q s e)
machine-with_entry table machine q s e below named =
    let long = length-with_entry table q s e in
    let wide = symbols_of-with_entry table q s e in
    let group : IsGroup (length table) (symbols_of table) (get_or table q []) =
    All-from_recursion (IsGroup (length table) (symbols_of table)) table machine.groups q [] below in
    record {
      some_state = rw long machine.some_state;
      states = rw long machine.states;
      two_symbols = rw wide machine.two_symbols;
      symbols = rw wide machine.symbols;
      groups = rw (long, wide) (all-set (IsGroup (length table) (symbols_of table)) table q
          (set (get_or table q []) s e)
          (record {
            full = length-set (get_or table q []) s e ∙ group.full;
            entries = all-set (IsEntryOf (length table) (symbols_of table)) (get_or table q []) s e named
                group.entries;
          })
          machine.groups);
    }

-- a machine of which no entry leads into Z
pub record HasNoZ (table : Table) : Type 0 where
  pub none : (q s write : ℕ) (dir : _) → entry_of table q s ≢ Go write dir Halt

pub no_Z-with_entry : (table : Table) → IsMachine table → (q s write to : ℕ) (dir : _) → q < length table
    → s < symbols_of table → HasNoZ table → HasNoZ (with_entry table q s (Go write dir (State to)))
no_Z-with_entry table machine q s write to dir below inside no_Z = record {
  none = λ i j w d e. elim (entry-either table machine q s (Go write dir (State to)) below inside i j) [
    | inl here ↦ let filled = here.2 in cc (filled, e)
    | inr there ↦ no_Z.none i j w d (sym there.1 ∙ e)
  ];
}

-- how many `---` there are

abbrev undefined_in : Entry → ℕ
undefined_in Undefined = 1
undefined_in (Go write dir to) = 0

abbrev undefined_entries_in : List Entry → ℕ
undefined_entries_in [] = 0
undefined_entries_in (e ∷ es) = undefined_in e + undefined_entries_in es

abbrev pub undefined_entries : Table → ℕ
undefined_entries [] = 0
undefined_entries (g ∷ gs) = undefined_entries_in g + undefined_entries gs

undefined_entries_in-set : (es : List Entry) (s : ℕ) (e : Entry) → s < length es → get_or es s Undefined ≡ Undefined
    → undefined_in e ≡ 0 → suc (undefined_entries_in (set es s e)) ≡ undefined_entries_in es
undefined_entries_in-set [] s e inside undefined fills = absurd (omega arith)
undefined_entries_in-set (x ∷ es) zero e inside undefined fills =
    let was : undefined_in x ≡ 1 = ap undefined_in undefined in
    omega (arith, was, fills)
undefined_entries_in-set (x ∷ es) (suc s) e inside undefined fills =
    omega (arith, undefined_entries_in-set es s e (omega (arith, inside)) undefined fills)

undefined_entries-set : (gs : Table) (q s : ℕ) (e : Entry) → q < length gs → s < length (get_or gs q [])
    → entry_of gs q s ≡ Undefined → undefined_in e ≡ 0 → suc (undefined_entries (with_entry gs q s e)) ≡ undefined_entries gs
undefined_entries-set [] q s e below inside undefined fills = absurd (omega arith)
undefined_entries-set (g ∷ gs) zero s e below inside undefined fills =
    omega (arith, undefined_entries_in-set g s e inside undefined fills)
undefined_entries-set (g ∷ gs) (suc q) s e below inside undefined fills =
    omega (arith, undefined_entries-set gs q s e (omega (arith, below)) inside undefined fills)

pub undefined_entries-with_entry : (table : Table) → IsMachine table → (q s write : ℕ) (dir : _) (to : Next)
    → q < length table → s < symbols_of table → entry_of table q s ≡ Undefined
    → suc (undefined_entries (with_entry table q s (Go write dir to))) ≡ undefined_entries table
undefined_entries-with_entry table machine q s write dir to below inside undefined =
    let long = groups_long table machine q below in
    undefined_entries-set table q s (Go write dir to) below (omega (arith, long, inside)) undefined refl

-- one of them
record UndefinedEntry (es : List Entry) : Type 0 where
  symbol : ℕ
  inside : symbol < length es
  undefined : get_or es symbol Undefined ≡ Undefined

pub record SomeUndefinedWithin (symbols : ℕ) (table : Table) : Type 0 where
  pub state : ℕ
  pub symbol : ℕ
  pub below : state < length table
  pub inside : symbol < symbols
  pub undefined : entry_of table state symbol ≡ Undefined

abbrev pub SomeUndefined : Table → Type 0
SomeUndefined table = SomeUndefinedWithin (symbols_of table) table

some_undefined_in : (es : List Entry) → 0 < undefined_entries_in es → UndefinedEntry es
some_undefined_in [] some = absurd (omega arith)
some_undefined_in (Undefined ∷ es) some = record { symbol = 0; inside = omega arith; undefined = refl }
some_undefined_in (Go write dir to ∷ es) some =
    let rest = some_undefined_in es (omega (arith, some)) in
    record { symbol = suc rest.symbol; inside = let h = rest.inside in omega (arith, h); undefined = rest.undefined }

some_undefined_of : (n : ℕ) (table : Table) → ((i : ℕ) → i < length table → length (get_or table i []) ≡ n)
    → 0 < undefined_entries table → SomeUndefinedWithin n table
some_undefined_of n [] long some = absurd (omega arith)
some_undefined_of n (g ∷ gs) long some = elim (cases_eq (undefined_entries_in g) 0) [
  | inl none ↦
      let rest = some_undefined_of n gs (λ i h. long (suc i) (omega (arith, h))) (omega (arith, some, none)) in
      record {
        state = suc rest.state;
        symbol = rest.symbol;
        below = let h = rest.below in omega (arith, h);
        inside = rest.inside;
        undefined = rest.undefined;
      }
  | inr more ↦
      let here = some_undefined_in g (omega (arith, more)) in
      let inside = here.inside in
      record {
        state = 0;
        symbol = here.symbol;
        below = omega arith;
        inside = omega (arith, inside, long 0 (omega arith));
        undefined = here.undefined;
      }
]

pub some_undefined : (table : Table) → IsMachine table → 0 < undefined_entries table → SomeUndefined table
some_undefined table machine some = some_undefined_of (symbols_of table) table (groups_long table machine) some

pub no_undefined : (table : Table) → IsMachine table → (q s : ℕ) → undefined_entries table ≡ 0 → q < length table
    → s < symbols_of table → entry_of table q s ≢ Undefined
no_undefined table machine q s none below inside undefined =
    omega (arith, none, undefined_entries-with_entry table machine q s 0 L Halt below inside undefined)

-- a `---` that is left where one is filled is another one
pub other_undefined : (table : Table) → IsMachine table → (q s write : ℕ) (dir : _) (to : Next) → q < length table
    → s < symbols_of table → SomeUndefined (with_entry table q s (Go write dir to)) → HasOtherUndefined table q s
other_undefined table machine q s write dir to below inside some =
    let undefined = some.undefined in
    elim (entry-either table machine q s (Go write dir to) below inside some.state some.symbol) [
      | inl here ↦ let filled = here.2 in absurd (cc (filled, undefined))
      | inr there ↦ record {
        other_state = some.state;
        other_symbol = some.symbol;
        state_named = rw (← length-with_entry table q s (Go write dir to)) some.below;
        symbol_named = rw (← symbols_of-with_entry table q s (Go write dir to)) some.inside;
        other = there.0;
        undefined = sym there.1 ∙ undefined;
      }
    ]

-- all `---`

pub blank_table-none : (n k q s : ℕ) → entry_of (blank_table n k) q s ≡ Undefined
blank_table-none zero k q s = refl
blank_table-none (suc n) k zero s = none k s where
  none : (k s : ℕ) → get_or (replicate k Undefined) s Undefined ≡ Undefined
  none zero s = refl
  none (suc k) zero = refl
  none (suc k) (suc s) = none k s
blank_table-none (suc n) k (suc q) s = blank_table-none n k q s

all_of_replicate : {X : Type 0} (P : X → Type 0) (n : ℕ) (x : X) → P x → AllByRecursion P (replicate n x)
all_of_replicate P zero x here = tt
all_of_replicate P (suc n) x here = (here, all_of_replicate P n x here)

pub symbols_of_blank : (n k : ℕ) → 0 < n → symbols_of (blank_table n k) ≡ k
symbols_of_blank zero k some = absurd (omega arith)
symbols_of_blank (suc n) k some = length-replicate k Undefined

pub blank_machine : (machine : Table) → IsMachine machine
    → IsMachine (blank_table (length machine) (symbols_of machine))
blank_machine machine is =
    let n = length machine in
    let k = symbols_of machine in
    let states : length (blank_table n k) ≡ n = length-replicate n (replicate k Undefined) in
    let symbols = symbols_of_blank n k is.some_state in
    record {
      some_state = rw states is.some_state;
      states = rw states is.states;
      two_symbols = rw symbols is.two_symbols;
      symbols = rw symbols is.symbols;
      groups = rw (states, symbols) (all_of_replicate (IsGroup n k) n (replicate k Undefined) (record {
        full = length-replicate k Undefined;
        entries = all_of_replicate (IsEntryOf n k) k Undefined tt;
      }));
    }
