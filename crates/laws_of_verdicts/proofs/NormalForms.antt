-- Why a list in tree normal form is closed: states and symbols that a machine doesn't use can be swapped.
use Rattle.std.proofs.Common.{◌≡◌, ◌≢◌, ◌↔◌, ℕ, ◌<◌, min, Bool, true, false, List}
use Rattle.std.proofs.Common.{Some, length, ℤ, inl, inr, refl, ap, ap₂, sym, subst, ◌∙◌, arith}
use Rattle.std.specs.Prelude.{◌⊎◌}
use Rattle.std.proofs.lemmas.Bool.Decides.{nat_tests}
use Rattle.bb_machine.specs.declared.entry.Dir.{Dir}
use Rattle.bb_machine.specs.declared.entry.Dir.TheVariants as dir
use Rattle.bb_machine.specs.declared.entry.Entry.{Entry}
use Rattle.bb_machine.specs.declared.entry.Entry.TheVariants.{Undefined, Go}
use Rattle.bb_machine.specs.declared.entry.Next.{Next}
use Rattle.bb_machine.specs.declared.entry.Next.TheVariants as to
use Rattle.bb_machine.specs.Entry.{IsEntryOf, IsNextOf}
use Rattle.bb_machine.specs.Machine.{Table, IsMachine, entry_of, symbols_of}
use Rattle.bb_tape.specs.Content.{cell, with_cell}
use Rattle.bb_tape.proofs.Facts.{by_position, cell-blank, cell-with_cell-other, cell-with_cell-same}
use Rattle.bb_sim.specs.Configuration.{Configuration, start, followed, entry_at, next}
use Rattle.bb_sim.specs.Run.{conf}
use Rattle.bb_sim.proofs.Facts.{led, run_named}
use Rattle.laws_of_verdicts.specs.Change.{Change, IsChanged, Renaming, changed_entry, changed_next, swapped}
use Rattle.laws_of_verdicts.specs.Change.{turned}
use Rattle.laws_of_verdicts.specs.Closed.{HasMachine, VerdictLine, blank_table, with_entry}
use Rattle.laws_of_verdicts.specs.UndefinedEntry.{HaltsOnUndefined}
use Rattle.laws_of_verdicts.specs.NormalForm.{Asks, IsEmpty, Lists, NormalFormCovers}
use Rattle.laws_of_verdicts.specs.NormalForm.{UsesFirst}
use Rattle.laws_of_verdicts.proofs.ChangedRuns.{along}
use Rattle.laws_of_verdicts.proofs.Completions.{unchanged}
use Rattle.laws_of_verdicts.proofs.Composed.{filled_changed}

-- a run stays within the states and symbols that are used

record IsWithin (states symbols : ℕ) (c : Configuration) : Type 0 where
  state : IsNextOf states c.state
  cells : (p : ℤ) → cell c.tape p < symbols

module _ (table : Table) (states symbols : ℕ) (uses : UsesFirst table states symbols) where
  start_within : IsWithin states symbols start
  start_within = record {
    state = uses.some_state;
    cells = λ p. let some = uses.some_symbol in omega (arith, cell-blank p, some);
  }

  entry_within : (state : Next) (symbol : ℕ) → IsEntryOf states symbols (entry_at table state symbol)
  entry_within (to.State q) symbol = uses.named q symbol
  entry_within to.Halt symbol = tt

  followed_within : (c d : Configuration) (entry : Entry) → IsEntryOf states symbols entry
      → IsWithin states symbols c → followed entry c ≡ Some d → IsWithin states symbols d
  followed_within c d Undefined named within e = absurd cc
  followed_within c d (Go write dir then) named within e =
      let same : led c write dir then ≡ d = cc in
      subst (IsWithin states symbols) same (record {
        state = named.1;
        cells = λ p. by_position p c.head _
            (λ at. let here = cell-with_cell-same c.tape c.head write in
            let small = named.0 in omega (arith, here, ap (cell (with_cell c.tape c.head write)) at, small))
            (λ apart. let other = cell-with_cell-other c.tape c.head write p apart in
            let small = within.cells p in omega (arith, other, small));
      })

  run_within : (n : ℕ) (c : Configuration) → conf table n ≡ Some c → IsWithin states symbols c
  unfolding next
  run_within = along table (IsWithin states symbols) start_within (λ c d leads before.
      followed_within c d _ (entry_within c.state (cell c.tape c.head)) before leads)

  pub undefined_within : (n q s : ℕ) → HaltsOnUndefined table n q s → (q < states) × (s < symbols)
  undefined_within n q s undefined =
      let within = run_within n undefined.last undefined.exists in
      (subst (IsNextOf states) undefined.in_state within.state, omega (arith, within.cells undefined.last.head))

-- two names swapped

pub swapped-twice : (a b x : ℕ) → swapped a b (swapped a b x) ≡ x
swapped-twice a b x = grind (arith, nat_tests)

pub swapped-first : (a b : ℕ) → swapped a b a ≡ b
swapped-first a b = grind (arith, nat_tests)

swapped-below : (a b m x : ℕ) → a < m → b < m → x < m → swapped a b x < m
swapped-below a b m x below below_too less = grind (arith, nat_tests)

-- where both are unused, or one the other, all that are used keep their names
pub swapped-used : (x m y : ℕ) → y < m → swapped (min x m) x y ≡ y
swapped-used x m y less = grind (arith, nat_tests)

abbrev pub swap : ℕ → ℕ → Renaming
swap a b = record {
  new = swapped a b;
  old = swapped a b;
  old_of_new = swapped-twice a b;
  new_of_old = swapped-twice a b;
}

-- the machine has itself as its change by swaps of what it doesn't use, and by a mirror, if it has no entry
module _ (table : Table) (states symbols : ℕ) (uses : UsesFirst table states symbols) (write t : ℕ)
    (small : write < symbols_of table) (low : t < length table) (mirrored : Bool)
    (unseen : (mirrored ≡ false) ⊎ IsEmpty table) where
  abbrev pub change : Change
  change = record {
    mirrored = mirrored;
    states = swap (min t states) t;
    symbols = swap (min write symbols) write;
    keeps_A = swapped-used t states 0 uses.some_state;
    keeps_0 = swapped-used write symbols 0 uses.some_symbol;
  }

  state_kept : (q : ℕ) → q < states → swapped (min t states) t q ≡ q
  state_kept q h = swapped-used t states q h

  symbol_kept : (s : ℕ) → s < symbols → swapped (min write symbols) write s ≡ s
  symbol_kept s h = swapped-used write symbols s h

  turned_kept : (move : Dir) (q s w : ℕ) (then : Next) → entry_of table q s ≡ Go w move then
      → turned mirrored move ≡ move
  turned_kept move q s w then e = elim unseen [
    | inl not ↦ ap (λ b. turned b move) not
    | inr empty ↦ let none = empty q s in absurd cc
  ]

  next_kept : (then : Next) → IsNextOf states then → changed_next change then ≡ then
  next_kept (to.State q) h = ap to.State (state_kept q h)
  next_kept to.Halt h = refl

  entry_kept : (q s : ℕ) (entry : Entry) → entry_of table q s ≡ entry → IsEntryOf states symbols entry
      → changed_entry change entry ≡ entry
  entry_kept q s Undefined e named = refl
  entry_kept q s (Go w move then) e named =
      let a = symbol_kept w named.0 in
      let b = turned_kept move q s w then e in
      let c = next_kept then named.1 in
      λ i. Go (a i) (b i) (c i)

  -- there is an entry, so state and symbol are used
  kept_here : (q s : ℕ) → entry_of table q s ≢ Undefined
      → (swapped (min t states) t q ≡ q) × (swapped (min write symbols) write s ≡ s)
  kept_here q s some =
      let used = uses.for_these q s some in
      (state_kept q used.0, symbol_kept s used.1)

  undefined_image : (q s : ℕ) → entry_of table q s ≡ Undefined
      → entry_of table (swapped (min t states) t q) (swapped (min write symbols) write s) ≡ Undefined
  undefined_image q s undefined = by_entry _ refl where
    by_entry : (entry : Entry)
        → entry_of table (swapped (min t states) t q) (swapped (min write symbols) write s) ≡ entry
        → entry_of table (swapped (min t states) t q) (swapped (min write symbols) write s) ≡ Undefined
    by_entry Undefined e = e
    by_entry (Go w move then) e =
        let kept = kept_here (swapped (min t states) t q) (swapped (min write symbols) write s)
        (λ none. cc) in
        let state : swapped (min t states) t q ≡ q = sym kept.0 ∙ swapped-twice (min t states) t q in
        let symbol : swapped (min write symbols) write s ≡ s =
        sym kept.1 ∙ swapped-twice (min write symbols) write s in
        ap₂ (entry_of table) state symbol ∙ undefined

  image : (q s : ℕ) (entry : Entry) → entry_of table q s ≡ entry
      → entry_of table (swapped (min t states) t q) (swapped (min write symbols) write s)
      ≡ changed_entry change (entry_of table q s)
  image q s Undefined e = undefined_image q s e ∙ sym (ap (changed_entry change) e)
  image q s (Go w move then) e =
      let kept = kept_here q s (λ none. cc) in
      ap₂ (entry_of table) kept.0 kept.1 ∙ sym (entry_kept q s (entry_of table q s) refl (uses.named q s))

  below : (a b m x : ℕ) → a < m → b < m → (x < m) ↔ (swapped a b x < m)
  below a b m x one two = (
    λ h. swapped-below a b m x one two h,
    λ h. subst (λ y. y < m) (swapped-twice a b x) (swapped-below a b m (swapped a b x) one two h),
  )

  itself : IsChanged change table table
  itself = record {
    states = refl;
    symbols = refl;
    states_named = λ q. below (min t states) t (length table) q (omega (arith, low)) low;
    symbols_named = λ s. below (min write symbols) write (symbols_of table) s (omega (arith, small)) small;
    entries = λ q s. image q s (entry_of table q s) refl;
  }

  module _ (machine : IsMachine table) (q s : ℕ) (used : (q < states) × (s < symbols))
      (named : (q < length table) × (s < symbols_of table)) (move : Dir) where
    pub filled : IsChanged change
        (with_entry table q s (Go (min write symbols) move (to.State (min t states))))
        (with_entry table q s (Go write (turned mirrored move) (to.State t)))
    filled =
        let first = filled_changed change table table machine machine itself q s
        (Go (min write symbols) move (to.State (min t states))) named.0 named.1 in
        let state = state_kept q used.0 in
        let symbol = symbol_kept s used.1 in
        let w = swapped-first (min write symbols) write in
        let l = swapped-first (min t states) t in
        subst (λ x. IsChanged change
        (with_entry table q s (Go (min write symbols) move (to.State (min t states)))) x)
        (λ i. with_entry table (state i) (symbol i) (Go (w i) (turned mirrored move) (to.State (l i)))) first

    pub has_filled : (lines : List VerdictLine)
        → Lists lines (with_entry table q s (Go (min write symbols) move (to.State (min t states))))
        → HasMachine lines (with_entry table q s (Go write (turned mirrored move) (to.State t)))
    has_filled lines lists = record {
      line = lists.line;
      listed = lists.listed;
      change = change;
      is_changed = subst (λ x. IsChanged change x
          (with_entry table q s (Go write (turned mirrored move) (to.State t)))) (sym lists.is_table) filled;
    }

-- the state and symbol where a machine halts are its own
pub undefined_named : (table : Table) → IsMachine table → (n q s : ℕ) → HaltsOnUndefined table n q s
    → (q < length table) × (s < symbols_of table)
undefined_named table machine n q s undefined =
    let named = run_named table machine n undefined.last undefined.exists in
    (subst (IsNextOf (length table)) undefined.in_state named.state, omega (arith, named.symbols undefined.last.head))

module _ (lines : List VerdictLine) (table : Table) (machine : IsMachine table) (n q s : ℕ)
    (undefined : HaltsOnUndefined table n q s) (goes : Asks table q s (Lists lines)) (write t : ℕ)
    (small : write < symbols_of table) (low : t < length table) where
  listed : (move : Dir)
      → Lists lines (with_entry table q s (Go (min write goes.symbols) move (to.State (min t goes.states))))
      ⊎ ((move ≡ dir.L) × IsEmpty table)
  listed move = goes.each (min write goes.symbols) (min t goes.states) move (omega (arith, small))
      (omega arith) (omega (arith, low)) (omega arith)

  filled_by : (move : Dir) (mirrored : Bool) → (mirrored ≡ false) ⊎ IsEmpty table
      → Lists lines (with_entry table q s (Go (min write goes.symbols) move (to.State (min t goes.states))))
      → HasMachine lines (with_entry table q s (Go write (turned mirrored move) (to.State t)))
  filled_by move mirrored unseen lists = has_filled table goes.states goes.symbols goes.uses write t small low
      mirrored unseen machine q s (undefined_within table goes.states goes.symbols goes.uses n q s undefined)
      (undefined_named table machine n q s undefined) move lines lists

  has_all : (move : Dir) → HasMachine lines (with_entry table q s (Go write move (to.State t)))
  has_all move = elim (listed move) [
    | inl lists ↦ filled_by move false (inl refl) lists
    | inr left ↦ elim (listed dir.R) [
      | inl lists ↦ subst (λ d. HasMachine lines (with_entry table q s (Go write d (to.State t))))
          (sym left.0) (filled_by dir.R true (inr left.1) lists)
      | inr wrong ↦ let e = wrong.0 in absurd cc
    ]
  ]

-- a machine is its own change
entry_same : (entry : Entry) → changed_entry unchanged entry ≡ entry
entry_same Undefined = refl
entry_same (Go write move (to.State q)) = refl
entry_same (Go write move to.Halt) = refl

pub same_machine : (table : Table) → IsChanged unchanged table table
same_machine table = record {
  states = refl;
  symbols = refl;
  states_named = λ q. (λ h. h, λ h. h);
  symbols_named = λ s. (λ h. h, λ h. h);
  entries = λ q s. sym (entry_same (entry_of table q s));
}

pub normal_form_covers : NormalFormCovers
normal_form_covers lines states symbols is = record {
  closed = record {
    machines = is.machines;
    claims = is.claims;
    goes_on = λ line steps score state symbol write t move listed says undefined other small low.
        has_all lines line.table (is.machines line listed) steps state symbol undefined
        (is.goes_on line steps score state symbol listed says undefined other) write t small low move;
  };
  has_root = record {
    line = is.has_root.line;
    listed = is.has_root.listed;
    change = unchanged;
    is_changed = subst (λ x. IsChanged unchanged x (blank_table states symbols)) (sym is.has_root.is_table)
        (same_machine (blank_table states symbols));
  };
}
