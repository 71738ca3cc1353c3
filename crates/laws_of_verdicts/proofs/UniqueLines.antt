-- Why a machine has one line: two changes after which it completes one machine of the walk agree on the names that
-- this one uses.
use Rattle.std.proofs.Common.{◌≡◌, ◌≢◌, ℕ, ◌+◌, ◌<◌, ◌≤◌, max, Bool, true, false, Some, length, inl, inr}
use Rattle.std.proofs.Common.{refl, ap, ap₂, sym, subst, ◌∙◌, arith}
use Rattle.std.specs.Prelude.{◌⊎◌}
use Rattle.std.proofs.lemmas.Bool.{cases_eq}
use Rattle.bb_machine.specs.declared.entry.Dir.{Dir}
use Rattle.bb_machine.specs.declared.entry.Dir.TheVariants as dir
use Rattle.bb_machine.specs.declared.entry.Entry.{Entry}
use Rattle.bb_machine.specs.declared.entry.Entry.TheVariants.{Undefined, Go}
use Rattle.bb_machine.specs.declared.entry.Next.TheVariants as to
use Rattle.bb_machine.specs.Entry.{IsEntryOf}
use Rattle.bb_machine.specs.Limits.{Bounds}
use Rattle.bb_machine.specs.Machine.{Table, IsMachine, entry_of, symbols_of}
use Rattle.bb_tape.specs.Content.{cell}
use Rattle.bb_sim.specs.Configuration.{Configuration}
use Rattle.bb_sim.specs.Run.{conf}
use Rattle.bb_sim.proofs.Facts.{halt_is_unique}
use Rattle.laws_of_verdicts.specs.Change.{Change, Renaming, changed_entry, turned}
use Rattle.laws_of_verdicts.specs.Closed.{blank_table, with_entry}
use Rattle.laws_of_verdicts.specs.LineOf.{CompletesChanged, IsBelow, IsChild, IsLineOf, Itself, LinesAreUnique, Through}
use Rattle.laws_of_verdicts.specs.NormalForm.{IsEmpty, UsesFirst}
use Rattle.laws_of_verdicts.specs.UndefinedEntry.{HaltsOnUndefined}
use Rattle.laws_of_verdicts.proofs.ChangedRuns.{turned-twice}
use Rattle.laws_of_verdicts.proofs.Fillings.{blank_machine, blank_table-none, entry-same, machine-with_entry}
use Rattle.laws_of_verdicts.proofs.Fillings.{entry-either}
use Rattle.laws_of_verdicts.proofs.LinesOf.{halts_there}
use Rattle.laws_of_verdicts.proofs.NormalForms.{undefined_named, undefined_within}

-- a machine halts on one `---`
pub same_place : (table : Table) (n m q s p r : ℕ) → HaltsOnUndefined table n q s
    → HaltsOnUndefined table m p r → (p ≡ q) × (r ≡ s)
same_place table n m q s p r one two =
    let at : n ≡ m = halt_is_unique table n m (halts_there table n q s one) (halts_there table m p r two) in
    let there : conf table n ≡ Some two.last = ap (conf table) at ∙ two.exists in
    let first = one.exists in
    let same : two.last ≡ one.last = cc (there, first) in
    let state : to.State p ≡ to.State q =
    sym two.in_state ∙ ap (λ (c : Configuration). c.state) same ∙ one.in_state in
    (cc, sym two.at_symbol ∙ ap (λ (c : Configuration). cell c.tape c.head) same ∙ one.at_symbol)

-- a machine of the walk, and the next one

module _ (bounds : Bounds) (from child : Table) (is : IsMachine from) (step : IsChild bounds from child) where
  abbrev filling : Entry
  filling = Go step.write step.move (to.State step.to)

  abbrev filled : Table
  filled = with_entry from step.state step.symbol filling

  pub place : (step.state < length from) × (step.symbol < symbols_of from)
  place = undefined_named from is step.steps step.state step.symbol step.undefined

  filled_machine : IsMachine filled
  filled_machine = machine-with_entry from is step.state step.symbol filling place.0 (step.has_symbol, step.has_state)

  pub child_machine : IsMachine child
  child_machine = subst IsMachine (sym step.is_child) filled_machine

  pub child_has : entry_of child step.state step.symbol ≡ filling
  child_has = ap (λ t. entry_of t step.state step.symbol) step.is_child
      ∙ entry-same from is step.state step.symbol filling place.0 place.1

  -- it has the entries of the machine
  pub child_keeps : (q s : ℕ) → entry_of from q s ≢ Undefined → entry_of child q s ≡ entry_of from q s
  child_keeps q s some =
      ap (λ t. entry_of t q s) step.is_child
      ∙ elim (entry-either from is step.state step.symbol filling place.0 place.1 q s) [
        | inl here ↦ absurd (some (ap₂ (entry_of from) here.0 here.1 ∙ step.undefined.undefined))
        | inr there ↦ there.1
      ]

  -- it uses the names of the machine, and those of the new entry
  pub child_uses : (states symbols : ℕ) → UsesFirst from states symbols
      → UsesFirst child (max states (step.to + 1)) (max symbols (step.write + 1))
  child_uses states symbols uses =
      let some = uses.some_state in
      let some_symbol = uses.some_symbol in
      record {
        some_state = omega (arith, some);
        some_symbol = omega (arith, some_symbol);
        named = named;
        for_these = for_these;
      } where
        wider : (entry : Entry) → IsEntryOf states symbols entry
            → IsEntryOf (max states (step.to + 1)) (max symbols (step.write + 1)) entry
        wider Undefined named = tt
        wider (Go write move (to.State t)) named =
            (let h = named.0 in omega (arith, h), let h = named.1 in omega (arith, h))
        wider (Go write move to.Halt) named = (let h = named.0 in omega (arith, h), tt)

        named : (q s : ℕ) → IsEntryOf (max states (step.to + 1)) (max symbols (step.write + 1)) (entry_of child q s)
        named q s = subst (IsEntryOf (max states (step.to + 1)) (max symbols (step.write + 1)))
            (sym (ap (λ t. entry_of t q s) step.is_child))
            (elim (entry-either from is step.state step.symbol filling place.0 place.1 q s) [
              | inl here ↦ subst (IsEntryOf (max states (step.to + 1)) (max symbols (step.write + 1)))
                  (sym here.2) (omega arith, omega arith)
              | inr there ↦ subst (IsEntryOf (max states (step.to + 1)) (max symbols (step.write + 1)))
                  (sym there.1) (wider (entry_of from q s) (uses.named q s))
            ])

        for_these : (q s : ℕ) → entry_of child q s ≢ Undefined
            → (q < max states (step.to + 1)) × (s < max symbols (step.write + 1))
        for_these q s there_is = elim (entry-either from is step.state step.symbol filling place.0 place.1 q s) [
          | inl here ↦
              let used = undefined_within from states symbols uses step.steps step.state step.symbol step.undefined in
              let a = used.0 in
              let b = used.1 in
              let p = here.0 in
              let r = here.1 in
              (omega (arith, a, p), omega (arith, b, r))
          | inr there ↦
              let used = uses.for_these q s
              (λ none. there_is (ap (λ t. entry_of t q s) step.is_child ∙ there.1 ∙ none)) in
              let a = used.0 in
              let b = used.1 in
              (omega (arith, a), omega (arith, b))
        ]

-- the entries of a machine are those of each below it
walk_keeps : (bounds : Bounds) (table from : Table) → IsMachine from → IsBelow bounds table from → (q s : ℕ)
    → entry_of from q s ≢ Undefined → entry_of table q s ≡ entry_of from q s
walk_keeps bounds table from is Itself q s some = refl
walk_keeps bounds table from is (Through above child step below) q s some =
    let kept = child_keeps bounds from child is step q s some in
    walk_keeps bounds table child (child_machine bounds from child is step) below q s
    (λ none. some (sym kept ∙ none)) ∙ kept

-- a machine that completes one below, after a change, has the entry of the walk there
own_entry : (change : Change) (bounds : Bounds) (table from child machine : Table) → IsMachine from
    → CompletesChanged change table machine → (step : IsChild bounds from child) → IsBelow bounds table child
    → entry_of machine (change.states.new step.state) (change.symbols.new step.symbol)
    ≡ Go (change.symbols.new step.write) (turned change.mirrored step.move)
    (to.State (change.states.new step.to))
own_entry change bounds table from child machine is done step below =
    let has = child_has bounds from child is step in
    let kept = walk_keeps bounds table child (child_machine bounds from child is step) below step.state step.symbol
    (λ none. cc (has, none)) in
    let there = done.is_changed.entries step.state step.symbol
    ∙ ap (changed_entry change) (kept ∙ has) in
    done.completes.kept (change.states.new step.state) (change.symbols.new step.symbol) (λ none. cc (there, none))
    ∙ there

-- two renamings that agree on the first names

abbrev AgreeBelow : ℕ → Renaming → Renaming → Type 0
AgreeBelow n first second = (x : ℕ) → x < n → first.new x ≡ second.new x

one_old : (names : Renaming) (x y : ℕ) → names.new x ≡ names.new y → x ≡ y
one_old names x y same = sym (names.old_of_new x) ∙ ap names.old same ∙ names.old_of_new y

-- what two of these names and the next one stand for is the same only if they are
same_old : (first second : Renaming) (n x y : ℕ) → AgreeBelow n first second → x ≤ n → y ≤ n
    → first.new x ≡ second.new y → x ≡ y
same_old first second n x y agree few few_too same = elim (cases_eq x n) [
  | inl last ↦ elim (cases_eq y n) [
    | inl last_too ↦ last ∙ sym last_too
    | inr less ↦ one_old first x y (same ∙ sym (agree y (omega (arith, few_too, less))))
  ]
  | inr less ↦ one_old second x y (sym (agree x (omega (arith, few, less))) ∙ same)
]

-- they agree on one name more
agree_on : (first second : Renaming) (n x y : ℕ) → AgreeBelow n first second → x ≤ n → x ≡ y
    → first.new x ≡ second.new y → AgreeBelow (max n (x + 1)) first second
agree_on first second n x y agree few is same z less = elim (cases_eq z x) [
  | inl at ↦ ap first.new at ∙ same ∙ ap second.new (sym (at ∙ is))
  | inr apart ↦ agree z (omega (arith, less, few, apart))
]

same_mirror : (one two : Bool) (move : Dir) → turned one move ≡ turned two move → one ≡ two
same_mirror true true move e = refl
same_mirror false false move e = refl
same_mirror true false dir.L e = absurd cc
same_mirror true false dir.R e = absurd cc
same_mirror false true dir.L e = absurd cc
same_mirror false true dir.R e = absurd cc

to_the_right : (move : Dir) → (move ≡ dir.L → ⊥) → move ≡ dir.R
to_the_right dir.L not = absurd (not refl)
to_the_right dir.R not = refl

-- two walks for one machine

module _ (first second : Change) (bounds : Bounds) (machine : Table) where
  -- the changes agree on the names that a machine uses, and on left and right where it has an entry
  record Agree (table : Table) : Type 0 where
    states : ℕ
    symbols : ℕ
    uses : UsesFirst table states symbols
    on_states : AgreeBelow states first.states second.states
    on_symbols : AgreeBelow symbols first.symbols second.symbols
    on_sides : IsEmpty table ⊎ (first.mirrored ≡ second.mirrored)

  root_agrees : (states symbols : ℕ) → Agree (blank_table states symbols)
  root_agrees states symbols = record {
    states = 1;
    symbols = 1;
    uses = record {
      some_state = omega arith;
      some_symbol = omega arith;
      named = λ q s. subst (IsEntryOf 1 1) (sym (blank_table-none states symbols q s)) tt;
      for_these = λ q s some. absurd (some (blank_table-none states symbols q s));
    };
    on_states = λ x less.
        let zero : x ≡ 0 = omega (arith, less) in
        ap first.states.new zero ∙ first.keeps_A ∙ sym second.keeps_A ∙ sym (ap second.states.new zero);
    on_symbols = λ x less.
        let zero : x ≡ 0 = omega (arith, less) in
        ap first.symbols.new zero ∙ first.keeps_0 ∙ sym second.keeps_0 ∙ sym (ap second.symbols.new zero);
    on_sides = inl (blank_table-none states symbols);
  }

  -- the place where a machine halts has one name
  same_names : (table : Table) → Agree table → (n q s : ℕ) → HaltsOnUndefined table n q s
      → (first.states.new q ≡ second.states.new q) × (first.symbols.new s ≡ second.symbols.new s)
  same_names table agree n q s undefined =
      let used = undefined_within table agree.states agree.symbols agree.uses n q s undefined in
      (agree.on_states q used.0, agree.on_symbols s used.1)

  -- both walks go on alike
  module _ (table other from child beside : Table) (is : IsMachine from) (agree : Agree from)
      (done : CompletesChanged first table machine) (done_too : CompletesChanged second other machine)
      (step : IsChild bounds from child) (below : IsBelow bounds table child)
      (step_too : IsChild bounds from beside) (below_too : IsBelow bounds other beside) where
    there : (step_too.state ≡ step.state) × (step_too.symbol ≡ step.symbol)
    there = same_place from step.steps step_too.steps step.state step.symbol step_too.state step_too.symbol
        step.undefined step_too.undefined

    entries : Go (first.symbols.new step.write) (turned first.mirrored step.move)
        (to.State (first.states.new step.to))
        ≡ Go (second.symbols.new step_too.write) (turned second.mirrored step_too.move)
        (to.State (second.states.new step_too.to))
    entries =
        let names = same_names from agree step.steps step.state step.symbol step.undefined in
        sym (own_entry first bounds table from child machine is done step below)
        ∙ ap₂ (entry_of machine) (names.0 ∙ ap second.states.new (sym there.0))
        (names.1 ∙ ap second.symbols.new (sym there.1))
        ∙ own_entry second bounds other from beside machine is done_too step_too below_too

    writes : first.symbols.new step.write ≡ second.symbols.new step_too.write
    writes = let e = entries in cc

    leads : first.states.new step.to ≡ second.states.new step_too.to
    leads = let e = entries in cc

    moves : turned first.mirrored step.move ≡ turned second.mirrored step_too.move
    moves = let e = entries in cc

    few : (step.write ≤ agree.symbols) × (step.to ≤ agree.states)
    few =
        let least = step.uses.least agree.states agree.symbols agree.uses in
        let a = step.few_symbols in
        let b = step.few_states in
        let c = least.0 in
        let d = least.1 in
        (omega (arith, a, d), omega (arith, b, c))

    few_too : (step_too.write ≤ agree.symbols) × (step_too.to ≤ agree.states)
    few_too =
        let least = step_too.uses.least agree.states agree.symbols agree.uses in
        let a = step_too.few_symbols in
        let b = step_too.few_states in
        let c = least.0 in
        let d = least.1 in
        (omega (arith, a, d), omega (arith, b, c))

    same_write : step.write ≡ step_too.write
    same_write = same_old first.symbols second.symbols agree.symbols step.write step_too.write agree.on_symbols few.0
        few_too.0 writes

    same_to : step.to ≡ step_too.to
    same_to = same_old first.states second.states agree.states step.to step_too.to agree.on_states few.1 few_too.1
        leads

    same_sides : (step.move ≡ step_too.move) × (first.mirrored ≡ second.mirrored)
    same_sides = elim agree.on_sides [
      | inl empty ↦
          let right = to_the_right step.move (λ left. step.right left empty) in
          let right_too = to_the_right step_too.move (λ left. step_too.right left empty) in (
            right ∙ sym right_too,
            same_mirror first.mirrored second.mirrored dir.R
                (sym (ap (turned first.mirrored) right) ∙ moves ∙ ap (turned second.mirrored) right_too),
          )
      | inr same ↦ (
        sym (turned-twice first.mirrored step.move)
            ∙ ap (turned first.mirrored) (moves ∙ ap (λ b. turned b step_too.move) (sym same))
            ∙ turned-twice first.mirrored step_too.move,
        same,
      )
    ]

    same_child : child ≡ beside
    same_child =
        let state = sym there.0 in
        let symbol = sym there.1 in
        let write = same_write in
        let move = same_sides.0 in
        let lead = same_to in
        step.is_child
        ∙ (λ i. with_entry from (state i) (symbol i) (Go (write i) (move i) (to.State (lead i))))
        ∙ sym step_too.is_child

    child_agrees : Agree child
    child_agrees = record {
      states = max agree.states (step.to + 1);
      symbols = max agree.symbols (step.write + 1);
      uses = child_uses bounds from child is step agree.states agree.symbols agree.uses;
      on_states = agree_on first.states second.states agree.states step.to step_too.to agree.on_states few.1 same_to
          leads;
      on_symbols = agree_on first.symbols second.symbols agree.symbols step.write step_too.write agree.on_symbols
          few.0 same_write writes;
      on_sides = inr same_sides.1;
    }

  module _ (table other : Table) (line : IsLineOf first bounds table machine)
      (line_too : IsLineOf second bounds other machine) where
    -- a walk that ends where the other one goes on
    ends_first : IsMachine table → Agree table → (child : Table) → IsChild bounds table child
        → IsBelow bounds other child → ⊥
    ends_first is agree child step below =
        let names = same_names table agree step.steps step.state step.symbol step.undefined in
        line.last step.steps step.state step.symbol (second.symbols.new step.write) (second.states.new step.to)
        (turned second.mirrored step.move) step.undefined step.inside step.other
        (ap₂ (entry_of machine) names.0 names.1
        ∙ own_entry second bounds other table child machine is line_too.on_way.completed step below)

    ends_second : IsMachine other → Agree other → (child : Table) → IsChild bounds other child
        → IsBelow bounds table child → ⊥
    ends_second is agree child step below =
        let names = same_names other agree step.steps step.state step.symbol step.undefined in
        line_too.last step.steps step.state step.symbol (first.symbols.new step.write) (first.states.new step.to)
        (turned first.mirrored step.move) step.undefined step.inside step.other
        (sym (ap₂ (entry_of machine) names.0 names.1)
        ∙ own_entry first bounds table other child machine is line.on_way.completed step below)

  one_end : (table other : Table) → IsLineOf first bounds table machine → IsLineOf second bounds other machine
      → (from : Table) → IsMachine from → Agree from → IsBelow bounds table from → IsBelow bounds other from
      → table ≡ other
  one_end table other line line_too from is agree Itself Itself = refl
  one_end table other line line_too from is agree Itself (Through above child step below) =
      absurd (ends_first table other line line_too is agree child step below)
  one_end table other line line_too from is agree (Through above child step below) Itself =
      absurd (ends_second table other line line_too is agree child step below)
  one_end table other line line_too from is agree (Through above child step below)
      (Through above_too beside step_too below_too) =
      one_end table other line line_too child (child_machine bounds from child is step)
      (child_agrees table other from child beside is agree line.on_way.completed line_too.on_way.completed step
      below step_too below_too) below
      (subst (IsBelow bounds other) (sym (same_child table other from child beside is agree line.on_way.completed
      line_too.on_way.completed step below step_too below_too)) below_too)

pub lines_are_unique : LinesAreUnique
lines_are_unique first second bounds table other machine line line_too =
    let states = line.on_way.states in
    let symbols = line.on_way.symbols in
    let states_too = line_too.on_way.states in
    let symbols_too = line_too.on_way.symbols in
    let root = blank_table (length table) (symbols_of table) in
    let same : blank_table (length other) (symbols_of other) ≡ root =
    ap₂ blank_table (states_too ∙ sym states) (symbols_too ∙ sym symbols) in
    one_end first second bounds machine table other line line_too root
    (blank_machine table line.on_way.is_machine)
    (root_agrees first second bounds machine (length table) (symbols_of table)) line.on_way.walked
    (subst (IsBelow bounds other) same line_too.on_way.walked)
