-- Why the line of a machine is in each list, and what a verdict on it tells of the machine.
use Rattle.std.proofs.Common.{◌≡◌, ◌↔◌, ℕ, ◌<◌, min, Bool, false, length, inl, inr}
use Rattle.std.proofs.Common.{replicate, refl, ap, ap₂, sym, subst, ◌∙◌, arith}
use Rattle.std.specs.Prelude.{◌⊎◌}
use Rattle.std.proofs.lemmas.Bool.{cases_eq}
use Rattle.std.proofs.lemmas.List.{length-replicate}
use Rattle.bb_machine.specs.declared.entry.Dir.{Dir}
use Rattle.bb_machine.specs.declared.entry.Dir.TheVariants as dir
use Rattle.bb_machine.specs.declared.entry.Entry.{Entry}
use Rattle.bb_machine.specs.declared.entry.Entry.TheVariants.{Undefined, Go}
use Rattle.bb_machine.specs.declared.entry.Next.{Next}
use Rattle.bb_machine.specs.declared.entry.Next.TheVariants as to
use Rattle.bb_machine.specs.Entry.{IsEntryOf}
use Rattle.bb_machine.specs.Limits.{Bounds}
use Rattle.bb_machine.specs.Machine.{Table, IsMachine, entry_of, symbols_of}
use Rattle.bb_machine.proofs.Facts.{entry_named}
use Rattle.bb_tape.specs.Content.{cell}
use Rattle.bb_sim.specs.Configuration.{entry_at, followed, next}
use Rattle.bb_sim.specs.Run.{HaltsAt, IsScore, Never}
use Rattle.bb_sim.specs.Span.{Inside}
use Rattle.bb_cert.specs.declared.checker.answer.Answer.TheVariants.{Ok}
use Rattle.bb_cert.specs.declared.verdict.Verdict.{Verdict}
use Rattle.bb_cert.specs.declared.verdict.Verdict.TheVariants.{Halt, Cycler, Translated, Backward, Undecided}
use Rattle.bb_cert.specs.claims.Claim.{Claim, SaysNever}
use Rattle.bb_cert.proofs.Facts.{claims_never_halt}
use Rattle.laws_of_verdicts.specs.Change.{Change, IsChanged, changed_entry, changed_next, changed_verdict}
use Rattle.laws_of_verdicts.specs.Change.{either, swapped, turned}
use Rattle.laws_of_verdicts.specs.Closed.{FromUndefined, blank_table, with_entry}
use Rattle.laws_of_verdicts.specs.LineOf.{HaltsThrough, IsAlwaysListed, IsBelow, IsChild, IsInWalk, IsLineOf, Itself}
use Rattle.laws_of_verdicts.specs.LineOf.{IsOnWay, LinesKeepAnswers, LinesKeepPairs, LinesSettle, Through}
use Rattle.laws_of_verdicts.specs.NormalForm.{Asks, IsEmpty, IsInNormalForm, Lists}
use Rattle.laws_of_verdicts.specs.UndefinedEntry.{HaltsOnUndefined, HasOtherUndefined}
use Rattle.laws_of_verdicts.specs.Walk.{Uses}
use Rattle.laws_of_verdicts.proofs.ChangedNotions.{score_image}
use Rattle.laws_of_verdicts.proofs.ChangedRuns.{back, changed_back, conf_image, turned-twice}
use Rattle.laws_of_verdicts.proofs.Changes.{changes_keep_answers, changes_keep_claims, changes_keep_verdicts}
use Rattle.laws_of_verdicts.proofs.Completions.{completions_keep_answers, completions_keep_claims}
use Rattle.laws_of_verdicts.proofs.Completions.{completions_keep_verdicts, completions_never_halt, unchanged}
use Rattle.laws_of_verdicts.proofs.Composed.{composed, filled_changed, is_composed, never_there}
use Rattle.laws_of_verdicts.proofs.Composed.{no_Z_before, other_undefined_changed, undefined_changed}
use Rattle.laws_of_verdicts.proofs.Covers.{still_completes}
use Rattle.laws_of_verdicts.proofs.Fillings.{HasNoZ, blank_machine, blank_table-none, length-with_entry, machine-with_entry}
use Rattle.laws_of_verdicts.proofs.Fillings.{no_Z-with_entry, other_undefined, some_undefined}
use Rattle.laws_of_verdicts.proofs.Fillings.{symbols_of-with_entry, symbols_of_blank, undefined_entries}
use Rattle.laws_of_verdicts.proofs.NormalForms.{filled, same_machine, undefined_named}
use Rattle.laws_of_verdicts.proofs.NormalForms.{undefined_within}
use Rattle.laws_of_verdicts.proofs.NormalForms as normal
use Rattle.laws_of_verdicts.proofs.UndefinedHalts.{HaltsInTable, full_never_halts, halts_next}
use Rattle.laws_of_verdicts.proofs.UndefinedHalts.{halts_on_undefined, still_halts}

-- changes by the same names are one
renamed_alike : (c d : Change) → d.mirrored ≡ c.mirrored → ((q : ℕ) → d.states.new q ≡ c.states.new q)
    → ((s : ℕ) → d.symbols.new s ≡ c.symbols.new s) → (table changed : Table) → IsChanged c table changed
    → IsChanged d table changed
renamed_alike c d mirrors states symbols table changed is = record {
  states = is.states;
  symbols = is.symbols;
  states_named = λ q. subst (λ x. (q < length table) ↔ (x < length table)) (sym (states q))
      (is.states_named q);
  symbols_named = λ s. subst (λ x. (s < symbols_of table) ↔ (x < symbols_of table)) (sym (symbols s))
      (is.symbols_named s);
  entries = λ q s. ap₂ (entry_of changed) (states q) (symbols s) ∙ is.entries q s
      ∙ sym (same_entry (entry_of table q s));
} where
  same_next : (then : Next) → changed_next d then ≡ changed_next c then
  same_next (to.State q) = ap to.State (states q)
  same_next to.Halt = refl

  same_entry : (entry : Entry) → changed_entry d entry ≡ changed_entry c entry
  same_entry Undefined = refl
  same_entry (Go write move then) =
      let w = symbols write in
      let n = same_next then in
      λ i. Go (w i) (turned (mirrors i) move) (n i)

-- the machine with no entry

pub begins : (change : Change) (bounds : Bounds) (machine : Table) → IsMachine machine
    → change.mirrored ≡ false → ((q : ℕ) → change.states.new q ≡ q) → ((s : ℕ) → change.symbols.new s ≡ s)
    → IsOnWay change bounds (blank_table (length machine) (symbols_of machine)) machine
begins change bounds machine is mirrors own_states own_symbols =
    let n = length machine in
    let k = symbols_of machine in
    let root = blank_table n k in
    let states : length root ≡ n = length-replicate n (replicate k Undefined) in
    let symbols : symbols_of root ≡ k = symbols_of_blank n k is.some_state in
    record {
      is_machine = blank_machine machine is;
      states = states;
      symbols = symbols;
      completed = record {
        changed = root;
        is_machine = blank_machine machine is;
        is_changed = renamed_alike unchanged change mirrors own_states own_symbols root root
            (same_machine root);
        completes = record { kept = λ q s some. absurd (some (blank_table-none n k q s)) };
      };
      no_Z = λ q s write move e. let none = blank_table-none n k q s in cc (e, none);
      listed = λ lines is_list has. subst (λ x. Lists lines (blank_table x k)) states
          (subst (λ x. Lists lines (blank_table (length root) x)) symbols is_list.has_root);
      walked = subst (IsBelow bounds root) (sym (ap₂ blank_table states symbols)) Itself;
    }

-- one entry more

pub halts_there : (table : Table) (n q s : ℕ) → HaltsOnUndefined table n q s → HaltsAt table n
unfolding next
halts_there table n q s undefined =
    let symbol = cell undefined.last.tape undefined.last.head in
    let entry : entry_at table undefined.last.state symbol ≡ Undefined =
    ap (λ x. entry_at table x symbol) undefined.in_state ∙ ap (entry_of table q) undefined.at_symbol
    ∙ undefined.undefined in
    record {
      last = undefined.last;
      exists = undefined.exists;
      no_next = ap (λ x. followed x undefined.last) entry;
    }

-- a walk goes on to a child of its last machine
walk_on : (bounds : Bounds) (table child from : Table) → IsChild bounds table child → IsBelow bounds table from
    → IsBelow bounds child from
walk_on bounds table child from last Itself = Through table child last Itself
walk_on bounds table child from last (Through above next step below) =
    Through from next step (walk_on bounds table child next last below)

-- the names of a machine's entry in its line
module _ (old : Change) (bounds : Bounds) (table machine : Table) (is : IsMachine machine)
    (on : IsOnWay old bounds table machine) (q s : ℕ) (q_named : q < length table) (s_named : s < symbols_of table)
    (write t : ℕ) (move : Dir)
    (e : entry_of machine (old.states.new q) (old.symbols.new s) ≡ Go write move (to.State t)) where
  abbrev changed : Table
  changed = on.completed.changed

  below : old.states.new q < length changed
  below = omega (arith, (on.completed.is_changed.states_named q).0 q_named, on.completed.is_changed.states)

  inner : old.symbols.new s < symbols_of changed
  inner = omega (arith, (on.completed.is_changed.symbols_named s).0 s_named, on.completed.is_changed.symbols)

  named : (write < symbols_of table) × (t < length table)
  named =
      let h = below in
      let i = inner in
      let one = on.completed.is_changed.states in
      let two = on.completed.is_changed.symbols in
      let both : IsEntryOf (length machine) (symbols_of machine)
      (entry_of machine (old.states.new q) (old.symbols.new s)) =
      entry_named _ _ machine (old.states.new q) (old.symbols.new s) is (omega (arith, h, one, on.states))
      (omega (arith, i, two, on.symbols)) in
      let named : (write < symbols_of machine) × (t < length machine) =
      subst (IsEntryOf (length machine) (symbols_of machine)) e both in
      (omega (arith, named.0, on.symbols), omega (arith, named.1, on.states))

  pub symbol_there : old.symbols.old write < symbols_of table
  symbol_there =
      let back = changed_back old table changed on.completed.is_changed in
      let one = on.completed.is_changed.symbols in
      let h = (back.symbols_named write).0 (let named = named.0 in omega (arith, named, one)) in
      omega (arith, h, one)

  pub state_there : old.states.old t < length table
  state_there =
      let back = changed_back old table changed on.completed.is_changed in
      let one = on.completed.is_changed.states in
      let h = (back.states_named t).0 (let named = named.1 in omega (arith, named, one)) in
      omega (arith, h, one)

-- the place of the machine's own entry
pub own_place : (old : Change) (bounds : Bounds) (table machine : Table) → IsOnWay old bounds table machine
    → (q s : ℕ) → q < length table → s < symbols_of table
    → (old.states.new q < length machine) × (old.symbols.new s < symbols_of machine)
own_place old bounds table machine on q s below inside =
    let is = on.completed.is_changed in (
      omega (arith, (is.states_named q).0 below, on.states),
      omega (arith, (is.symbols_named s).0 inside, on.symbols),
    )

module _ (old new : Change) (bounds : Bounds) (table machine : Table) (is : IsMachine machine)
    (on : IsOnWay old bounds table machine) (n q s : ℕ) (undefined : HaltsOnUndefined table n q s)
    (inside : Inside table bounds n) (other : HasOtherUndefined table q s) (write t : ℕ) (move : Dir)
    (e : entry_of machine (old.states.new q) (old.symbols.new s) ≡ Go write move (to.State t))
    (states symbols : ℕ) (uses : Uses table states symbols) (swap : Bool)
    (unseen : (swap ≡ false) ⊎ IsEmpty table)
    (right : turned swap (turned old.mirrored move) ≡ dir.L → IsEmpty table → ⊥) where
  -- the entry in the names of the line's machine
  abbrev w : ℕ
  w = old.symbols.old write

  abbrev l : ℕ
  l = old.states.old t

  abbrev there : Dir
  there = turned old.mirrored move

  -- and with the first unused names
  abbrev filling : Entry
  filling = Go (min w symbols) (turned swap there) (to.State (min l states))

  abbrev filled_line : Table
  filled_line = with_entry table q s filling

  abbrev reached : Table
  reached = on.completed.changed

  named_here : (q < length table) × (s < symbols_of table)
  named_here = undefined_named table on.is_machine n q s undefined

  small : w < symbols_of table
  small = symbol_there old bounds table machine is on q s named_here.0 named_here.1 write t move e

  low : l < length table
  low = state_there old bounds table machine is on q s named_here.0 named_here.1 write t move e

  -- the machine that is completed once it has the entry
  abbrev filled_changed_machine : Table
  filled_changed_machine =
      with_entry reached (old.states.new q) (old.symbols.new s) (Go write move (to.State t))

  -- the line's machine with the entry in its old names
  abbrev entry_there : Entry
  entry_there = Go w there (to.State l)

  same_entry : changed_entry old entry_there ≡ Go write move (to.State t)
  same_entry =
      let a = old.symbols.new_of_old write in
      let b = turned-twice old.mirrored move in
      let c = old.states.new_of_old t in
      λ i. Go (a i) (b i) (to.State (c i))

  filled_there : IsChanged old (with_entry table q s entry_there) filled_changed_machine
  filled_there = subst
      (λ x. IsChanged old (with_entry table q s entry_there)
      (with_entry reached (old.states.new q) (old.symbols.new s) x)) same_entry
      (filled_changed old table reached on.is_machine on.completed.is_machine on.completed.is_changed q s
      entry_there named_here.0 named_here.1)

  abbrev swaps : Change
  swaps = normal.change table states symbols uses.first w l small low swap unseen

  renamed : IsChanged swaps filled_line (with_entry table q s entry_there)
  renamed = subst
      (λ x. IsChanged swaps filled_line (with_entry table q s (Go w x (to.State l))))
      (turned-twice swap there)
      (filled table states symbols uses.first w l small low swap unseen on.is_machine q s
      (undefined_within table states symbols uses.first n q s undefined) named_here (turned swap there))

  both_changes : IsChanged (composed swaps old) filled_line filled_changed_machine
  both_changes = is_composed swaps old filled_line (with_entry table q s entry_there) filled_changed_machine
      renamed filled_there

  listed : IsAlwaysListed bounds filled_line
  listed lines is_list has =
      let same_states = length-with_entry table q s filling in
      let same_symbols = symbols_of-with_entry table q s filling in
      let list : IsInNormalForm lines (length table) (symbols_of table) =
      subst (λ x. IsInNormalForm lines (length table) x) same_symbols
      (subst (λ x. IsInNormalForm lines x (symbols_of filled_line)) same_states is_list) in
      let here = on.listed lines list has in
      let halts = subst (λ x. HaltsAt x n) (sym here.is_table) (halts_there table n q s undefined) in
      let within = subst (λ x. Inside x bounds n) (sym here.is_table) inside in
      let says = has.has here.line n here.listed halts within in
      let goes : Asks table q s (Lists lines) =
      subst (λ x. Asks x q s (Lists lines)) here.is_table
      (list.goes_on here.line n says.0 q s here.listed says.1
      (subst (λ x. HaltsOnUndefined x n q s) (sym here.is_table) undefined)
      (subst (λ x. HasOtherUndefined x q s) (sym here.is_table) other)) in
      let least = uses.least goes.states goes.symbols goes.uses in
      let few = least.0 in
      let few_symbols = least.1 in
      let fits = small in
      let fits_too = low in
      elim (goes.each (min w symbols) (min l states) (turned swap there) (omega (arith, fits))
      (omega (arith, few_symbols)) (omega (arith, fits_too)) (omega (arith, few))) [
        | inl lists ↦ lists
        | inr left ↦ absurd (right left.0 left.1)
      ]

  walked : IsInWalk bounds filled_line
  walked =
      let fits = small in
      let fits_too = low in
      subst (IsBelow bounds filled_line)
      (sym (ap₂ blank_table (length-with_entry table q s filling) (symbols_of-with_entry table q s filling)))
      (walk_on bounds table filled_line (blank_table (length table) (symbols_of table)) (record {
        steps = n;
        state = q;
        symbol = s;
        undefined = undefined;
        inside = inside;
        other = other;
        states = states;
        symbols = symbols;
        uses = uses;
        write = min w symbols;
        to = min l states;
        move = turned swap there;
        has_symbol = omega (arith, fits);
        has_state = omega (arith, fits_too);
        few_symbols = omega arith;
        few_states = omega arith;
        right = right;
        is_child = refl;
      }) on.walked)

  pub goes_on : new.mirrored ≡ either swap old.mirrored
      → ((x : ℕ) → new.states.new x ≡ old.states.new (swapped (min l states) l x))
      → ((x : ℕ) → new.symbols.new x ≡ old.symbols.new (swapped (min w symbols) w x))
      → IsOnWay new bounds filled_line machine
  goes_on mirrors renames renames_too =
      let fits = small in
      let fits_too = low in
      let as_state = named old bounds table machine is on q s named_here.0 named_here.1 write t move e in
      let low_there = below old bounds table machine is on q s named_here.0 named_here.1 write t move e in
      let small_there = inner old bounds table machine is on q s named_here.0 named_here.1 write t move e in
      let both = named_here in
      let one = on.completed.is_changed.states in
      let two = on.completed.is_changed.symbols in
      record {
        is_machine = machine-with_entry table on.is_machine q s filling both.0
            (omega (arith, fits), omega (arith, fits_too));
        states = length-with_entry table q s filling ∙ on.states;
        symbols = symbols_of-with_entry table q s filling ∙ on.symbols;
        completed = record {
          changed = filled_changed_machine;
          is_machine = machine-with_entry reached on.completed.is_machine (old.states.new q)
              (old.symbols.new s) (Go write move (to.State t)) low_there
              (let h = as_state.0 in omega (arith, h, two), let h = as_state.1 in omega (arith, h, one));
          is_changed = renamed_alike (composed swaps old) new mirrors renames renames_too filled_line
              filled_changed_machine both_changes;
          completes = still_completes reached machine on.completed.is_machine on.completed.completes
              (old.states.new q) (old.symbols.new s) (Go write move (to.State t)) low_there small_there e;
        };
        no_Z = λ i j a d. (no_Z-with_entry table on.is_machine q s (min w symbols) (min l states)
            (turned swap there) both.0 both.1 (record { none = on.no_Z })).none i j a d;
        listed = listed;
        walked = walked;
      }

-- what a verdict on the line tells

module _ (change : Change) (bounds : Bounds) (table machine : Table) (is : IsMachine machine)
    (line : IsLineOf change bounds table machine) where
  abbrev changed_line : Table
  changed_line = line.on_way.completed.changed

  no_entry_into_Z : HasNoZ table
  no_entry_into_Z = record { none = line.on_way.no_Z }

  never_halts : (verdict : Verdict) → Claim table verdict → SaysNever verdict → Never machine
  never_halts verdict claim says = never_there change table machine line.on_way.completed
      (claims_never_halt table verdict line.on_way.is_machine says claim)

  module _ (n ones : ℕ) (claim : Claim table (Halt n ones)) (inside : Inside table bounds n)
      (there : HaltsInTable table n) where
    abbrev p : ℕ
    p = change.states.new there.state

    abbrev r : ℕ
    r = change.symbols.new there.symbol

    below_too : p < length changed_line
    below_too = omega (
      arith,
      (line.on_way.completed.is_changed.states_named there.state).0 there.below,
      line.on_way.completed.is_changed.states,
    )

    inner_too : r < symbols_of changed_line
    inner_too = omega (
      arith,
      (line.on_way.completed.is_changed.symbols_named there.symbol).0 there.inside,
      line.on_way.completed.is_changed.symbols,
    )

    undefined_too : HaltsOnUndefined changed_line n p r
    undefined_too = undefined_changed change table changed_line line.on_way.completed.is_changed n there.state
        there.symbol there.undefined

    scored : IsScore changed_line n ones
    scored = score_image change table changed_line n
        (λ m h. conf_image change table changed_line line.on_way.completed.is_changed m) ones claim.1

    -- the last `---`, filled by an entry that leads to a state
    module _ (write t : ℕ) (move : Dir) (e : entry_of machine p r ≡ Go write move (to.State t)) where
      abbrev full : Table
      full = with_entry changed_line p r (Go write move (to.State t))

      names : (write < symbols_of changed_line) × (t < length changed_line)
      names =
          let h = below_too in
          let i = inner_too in
          let one = line.on_way.completed.is_changed.states in
          let two = line.on_way.completed.is_changed.symbols in
          let both : IsEntryOf (length machine) (symbols_of machine) (entry_of machine p r) =
          entry_named _ _ machine p r is (omega (arith, h, one, line.on_way.states))
          (omega (arith, i, two, line.on_way.symbols)) in
          let named : (write < symbols_of machine) × (t < length machine) =
          subst (IsEntryOf (length machine) (symbols_of machine)) e both in
          (omega (arith, named.0, line.on_way.symbols, two), omega (arith, named.1, line.on_way.states, one))

      full_machine : IsMachine full
      full_machine = machine-with_entry changed_line line.on_way.completed.is_machine p r (Go write move (to.State t))
          below_too names

      no_Z_there : HasNoZ changed_line
      no_Z_there = no_Z_before (back change) changed_line table
          (changed_back change table changed_line line.on_way.completed.is_changed) no_entry_into_Z

      never_stops : Never machine
      never_stops = elim (cases_eq (undefined_entries full) 0) [
        | inl none ↦ completions_never_halt full machine
            (still_completes changed_line machine line.on_way.completed.is_machine line.on_way.completed.completes p r
            (Go write move (to.State t)) below_too inner_too e)
            (full_never_halts full full_machine
            (no_Z-with_entry changed_line line.on_way.completed.is_machine p r write t move below_too inner_too no_Z_there)
            none)
        | inr more ↦ absurd (line.last n there.state there.symbol write t move there.undefined inside
            (other_undefined_changed change table changed_line line.on_way.completed.is_changed there.state there.symbol
            (other_undefined changed_line line.on_way.completed.is_machine p r write move (to.State t) below_too inner_too
            (some_undefined full full_machine (omega (arith, more))))) e)
      ]

    by_entry : (entry : Entry) → entry_of machine p r ≡ entry → FromUndefined machine n ones r entry
    by_entry Undefined e =
        still_halts changed_line machine line.on_way.completed.completes n p r undefined_too e ones scored
    by_entry (Go write move to.Halt) e =
        halts_next changed_line machine line.on_way.completed.completes n p r undefined_too write move e ones scored
    by_entry (Go write move (to.State t)) e = never_stops write t move e

    halts_through : HaltsThrough change table machine n ones
    halts_through = record {
      state = there.state;
      symbol = there.symbol;
      undefined = there.undefined;
      does = by_entry (entry_of machine p r) refl;
    }

pub lines_keep_pairs : LinesKeepPairs
lines_keep_pairs change table machine bounds plan (Cycler a b) is done pair verdict =
    completions_keep_verdicts done.changed machine bounds plan (changed_verdict change (Cycler a b)) done.completes tt
    (changes_keep_verdicts change table done.changed bounds plan (Cycler a b) is done.is_machine done.is_changed
    verdict)
lines_keep_pairs change table machine bounds plan (Translated side a b extent) is done pair verdict =
    completions_keep_verdicts done.changed machine bounds plan
    (changed_verdict change (Translated side a b extent)) done.completes tt
    (changes_keep_verdicts change table done.changed bounds plan (Translated side a b extent) is done.is_machine
    done.is_changed verdict)
lines_keep_pairs change table machine bounds plan verdict is done pair given = absurd pair

pub lines_keep_answers : LinesKeepAnswers
lines_keep_answers change table machine bounds (Cycler a b) is done pair answer =
    completions_keep_answers done.changed machine bounds (changed_verdict change (Cycler a b)) done.completes tt
    (changes_keep_answers change table done.changed bounds (Cycler a b) Ok is done.is_machine done.is_changed
    answer)
lines_keep_answers change table machine bounds (Translated side a b extent) is done pair answer =
    completions_keep_answers done.changed machine bounds
    (changed_verdict change (Translated side a b extent)) done.completes tt
    (changes_keep_answers change table done.changed bounds (Translated side a b extent) Ok is done.is_machine
    done.is_changed answer)
lines_keep_answers change table machine bounds verdict is done pair given = absurd pair

pub lines_settle : LinesSettle
lines_settle change bounds table machine (Halt n ones) is line claim = λ inside.
    halts_through change bounds table machine is line n ones claim inside
    (halts_on_undefined table line.on_way.is_machine (no_entry_into_Z change bounds table machine is line) n claim.0)
lines_settle change bounds table machine (Cycler a b) is line claim =
    completions_keep_claims line.on_way.completed.changed machine (Cycler a b) line.on_way.completed.completes tt
    (changes_keep_claims change table line.on_way.completed.changed (Cycler a b) line.on_way.is_machine
    line.on_way.completed.is_machine line.on_way.completed.is_changed claim)
lines_settle change bounds table machine (Translated side a b extent) is line claim =
    completions_keep_claims line.on_way.completed.changed machine
    (changed_verdict change (Translated side a b extent)) line.on_way.completed.completes tt
    (changes_keep_claims change table line.on_way.completed.changed (Translated side a b extent) line.on_way.is_machine
    line.on_way.completed.is_machine line.on_way.completed.is_changed claim)
lines_settle change bounds table machine (Backward levels nodes) is line claim =
    never_halts change bounds table machine is line (Backward levels nodes) claim tt
lines_settle change bounds table machine (Undecided why) is line claim = tt
