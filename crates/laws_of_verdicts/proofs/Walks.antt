-- Why the lines of a walk are a list in normal form.
use Rattle.std.proofs.Common.{◌≡◌, ℕ, zero, suc, ◌+◌, ◌<◌, min, Bool, true, false, cond, List, [], ◌∷◌}
use Rattle.std.proofs.Common.{◌++◌, length, map, get_or, inl, inr, refl, sym, subst, ◌∙◌, arith}
use Rattle.std.proofs.lemmas.Bool.{cases_eq}
use Rattle.std.specs.Prelude.{◌⊎◌, Contains}
use Rattle.bb_machine.specs.declared.entry.Dir.{Dir}
use Rattle.bb_machine.specs.declared.entry.Dir.TheVariants as dir
use Rattle.bb_machine.specs.declared.entry.Entry.{Entry}
use Rattle.bb_machine.specs.declared.entry.Entry.TheVariants.{Go}
use Rattle.bb_machine.specs.declared.entry.Next.TheVariants.{State}
use Rattle.bb_machine.specs.Machine.{Table, symbols_of}
use Rattle.bb_cert.specs.declared.verdict.Verdict.TheVariants.{Halt}
use Rattle.laws_of_verdicts.specs.Closed.{VerdictLine, blank_table, with_entry}
use Rattle.laws_of_verdicts.specs.UndefinedEntry.{HaltsOnUndefined, HasOtherUndefined}
use Rattle.laws_of_verdicts.specs.NormalForm.{Asks, IsEmpty, Lists}
use Rattle.laws_of_verdicts.specs.Walk.{FillsUndefinedBy, HaltsOnOneOf, IsWalk, LeadsTo, WalksAreInNormalForm}
use Rattle.laws_of_verdicts.specs.Walk.{entries_of, entries_to, entries_with}

-- membership

contains_more : {X : Type 0} (y x : X) (xs : List X) → Contains xs x → Contains (y ∷ xs) x
contains_more y x xs has = (suc has.0, let h = has.1 in omega (arith, h), has.2)

pub contains_first : {X : Type 0} (x : X) (xs : List X) → Contains (x ∷ xs) x
contains_first x xs = (0, omega arith, refl)

-- of the first, or of the others
pub contains_cases : {X : Type 0} (y x : X) (xs : List X) → Contains (y ∷ xs) x → (y ≡ x) ⊎ Contains xs x
contains_cases {X} y x xs has = by_index has.0 has.1 has.2 where
  by_index : (k : ℕ) → k < length (y ∷ xs) → get_or (y ∷ xs) k x ≡ x → (y ≡ x) ⊎ Contains xs x
  by_index zero h e = inl e
  by_index (suc k) h e = inr (k, omega (arith, h), e)

pub contains_left : {X : Type 0} (x : X) (xs ys : List X) → Contains xs x → Contains (xs ++ ys) x
contains_left x [] ys has = let h = has.1 in absurd (omega (arith, h))
contains_left x (y ∷ xs) ys has = elim (contains_cases y x xs has) [
  | inl e ↦ subst (λ z. Contains (z ∷ (xs ++ ys)) x) (sym e) (contains_first x (xs ++ ys))
  | inr rest ↦ contains_more y x (xs ++ ys) (contains_left x xs ys rest)
]

pub contains_right : {X : Type 0} (x : X) (xs ys : List X) → Contains ys x → Contains (xs ++ ys) x
contains_right x [] ys has = has
contains_right x (y ∷ xs) ys has = contains_more y x (xs ++ ys) (contains_right x xs ys has)

lists_more : (line : VerdictLine) (lines : List VerdictLine) (table : Table) → Lists lines table
    → Lists (line ∷ lines) table
lists_more line lines table lists = record {
  line = lists.line;
  listed = contains_more line lists.line lines lists.listed;
  is_table = lists.is_table;
}

-- a machine that is still to be visited has a line
visited : (tables : List Table) (lines : List VerdictLine) → IsWalk tables lines → (table : Table)
    → Contains tables table → Lists lines table
visited [] lines walk table has = let h = has.1 in absurd (omega (arith, h))
visited (t ∷ tables) [] walk table has = absurd walk
visited (t ∷ tables) (line ∷ lines) walk table has = elim (contains_cases t table tables has) [
  | inl e ↦ record {
    line = line;
    listed = contains_first line lines;
    is_table = walk.0 ∙ e;
  }
  | inr rest ↦ lists_more line lines table (visited (walk.1.0 ++ tables) lines walk.1.2 table
      (contains_right table walk.1.0 tables rest))
]

asks_more : (table : Table) (q s : ℕ) (One Two : Table → Type 0) → ((t : Table) → One t → Two t)
    → Asks table q s One → Asks table q s Two
asks_more table q s One Two more asks = record {
  states = asks.states;
  symbols = asks.symbols;
  uses = asks.uses;
  each = λ w t move a b c d. elim (asks.each w t move a b c d) [
    | inl has ↦ inl (more _ has)
    | inr left ↦ inr left
  ];
}

contains_map : {X Y : Type 0} (f : X → Y) (x : X) (xs : List X) → Contains xs x → Contains (map f xs) (f x)
contains_map f x [] has = let h = has.1 in absurd (omega (arith, h))
contains_map f x (y ∷ xs) has = elim (contains_cases y x xs has) [
  | inl e ↦ subst (λ z. Contains (f y ∷ map f xs) (f z)) e (contains_first (f y) (map f xs))
  | inr rest ↦ contains_more (f y) (f x) (map f xs) (contains_map f x xs rest)
]

-- the entries of a walk

in_entries_to : (write : ℕ) (move : Dir) (states to : ℕ) → to < states
    → Contains (entries_to write move states) (Go write move (State to))
in_entries_to write move zero to less = absurd (omega (arith, less))
in_entries_to write move (suc n) to less = elim (cases_eq to n) [
  | inl e ↦ contains_right (Go write move (State to)) (entries_to write move n) (Go write move (State n) ∷ [])
      (subst (λ k. Contains (Go write move (State n) ∷ []) (Go write move (State k))) (sym e)
      (contains_first (Go write move (State n)) []))
  | inr apart ↦ contains_left (Go write move (State to)) (entries_to write move n)
      (Go write move (State n) ∷ []) (in_entries_to write move n to (omega (arith, less, apart)))
]

in_entries_of : (is_root : Bool) (states symbols write : ℕ) (e : Entry) → write < symbols
    → Contains (entries_with is_root states write) e → Contains (entries_of is_root states symbols) e
in_entries_of is_root states zero write e less has = absurd (omega (arith, less))
in_entries_of is_root states (suc k) write e less has = elim (cases_eq write k) [
  | inl same ↦ contains_right e (entries_of is_root states k) (entries_with is_root states k)
      (subst (λ w. Contains (entries_with is_root states w) e) same has)
  | inr apart ↦ contains_left e (entries_of is_root states k) (entries_with is_root states k)
      (in_entries_of is_root states k write e (omega (arith, less, apart)) has)
]

to_right : (is_root : Bool) (states write to : ℕ) → to < states
    → Contains (entries_with is_root states write) (Go write dir.R (State to))
to_right is_root states write to less =
    contains_left (Go write dir.R (State to)) (entries_to write dir.R states)
    (cond is_root [] (entries_to write dir.L states)) (in_entries_to write dir.R states to less)

to_left : (states write to : ℕ) → to < states
    → Contains (entries_with false states write) (Go write dir.L (State to))
to_left states write to less =
    contains_right (Go write dir.L (State to)) (entries_to write dir.R states) (entries_to write dir.L states)
    (in_entries_to write dir.L states to less)

module _ (table : Table) (q s : ℕ) (more : List Table) (fills : FillsUndefinedBy table q s more) where
  abbrev states : ℕ
  states = min (length table) (fills.states + 1)

  abbrev symbols : ℕ
  symbols = min (symbols_of table) (fills.symbols + 1)

  -- an entry of the list gives a machine of the walk
  filled : (is_root : Bool) → fills.is_root ≡ is_root → (write : ℕ) (e : Entry) → write < symbols
      → Contains (entries_with is_root states write) e → Contains more (with_entry table q s e)
  filled is_root same write e less has =
      subst (λ (xs : List Table). Contains xs (with_entry table q s e)) (sym fills.machines)
      (contains_map (with_entry table q s) e (entries_of fills.is_root states symbols)
      (in_entries_of fills.is_root states symbols write e less
      (subst (λ b. Contains (entries_with b states write) e) (sym same) has)))

  has_filled : (is_root : Bool) → fills.is_root ≡ is_root → (write to : ℕ) (move : Dir) → write < symbols
      → to < states
      → Contains more (with_entry table q s (Go write move (State to))) ⊎ ((move ≡ dir.L) × IsEmpty table)
  has_filled is_root same write to dir.R less low =
      inl (filled is_root same write (Go write dir.R (State to)) less (to_right is_root states write to low))
  has_filled false same write to dir.L less low =
      inl (filled false same write (Go write dir.L (State to)) less (to_left states write to low))
  has_filled true same write to dir.L less low = inr (refl, fills.root.0 same)

  asks : Asks table q s (Contains more)
  asks = record {
    states = fills.states;
    symbols = fills.symbols;
    uses = fills.uses.first;
    each = λ write to move a b c d. has_filled fills.is_root refl write to move (omega (arith, a, b))
        (omega (arith, c, d));
  }

goes_on : (tables : List Table) (lines : List VerdictLine) → IsWalk tables lines → (line : VerdictLine)
    (steps score q s : ℕ) → Contains lines line → line.verdict ≡ Halt steps score
    → HaltsOnUndefined line.table steps q s → HasOtherUndefined line.table q s → Asks line.table q s (Lists lines)
goes_on tables [] walk line steps score q s has says undefined other = let h = has.1 in absurd (omega (arith, h))
goes_on [] (first ∷ lines) walk line steps score q s has says undefined other = absurd walk
goes_on (t ∷ tables) (first ∷ lines) walk line steps score q s has says undefined other =
    elim (contains_cases first line lines has) [
      | inl e ↦
          let leads : LeadsTo line walk.1.0 = subst (λ l. LeadsTo l walk.1.0) e walk.1.1 in
          let halts : HaltsOnOneOf line q s =
          record { steps = steps; score = score; says = says; undefined = undefined; other = other } in
          asks_more line.table q s (Contains walk.1.0) (Lists (first ∷ lines))
          (λ x in_more. lists_more first lines x (visited (walk.1.0 ++ tables) lines walk.1.2 x
          (contains_left x walk.1.0 tables in_more)))
          (asks line.table q s walk.1.0 (leads.filled q s halts))
      | inr rest ↦ asks_more line.table q s (Lists lines) (Lists (first ∷ lines)) (lists_more first lines)
          (goes_on (walk.1.0 ++ tables) lines walk.1.2 line steps score q s rest says undefined other)
    ]

pub walks_are_in_normal_form : WalksAreInNormalForm
walks_are_in_normal_form lines states symbols walked = record {
  has_root = visited (blank_table states symbols ∷ []) lines walked.walk (blank_table states symbols)
      (contains_first (blank_table states symbols) []);
  machines = walked.machines;
  claims = walked.claims;
  goes_on = goes_on (blank_table states symbols ∷ []) lines walked.walk;
}
