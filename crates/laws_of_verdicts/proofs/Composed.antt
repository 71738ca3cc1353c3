-- One change after another, and changes of machines with one entry more.
use Rattle.std.proofs.Common.{◌≡◌, ◌↔◌, ℕ, ◌<◌, Bool, true, false, Some, length, inl, inr}
use Rattle.std.proofs.Common.{refl, ap, ap₂, sym, ◌∙◌, arith}
use Rattle.bb_machine.specs.declared.entry.Dir.{Dir}
use Rattle.bb_machine.specs.declared.entry.Dir.TheVariants as dir
use Rattle.bb_machine.specs.declared.entry.Entry.{Entry}
use Rattle.bb_machine.specs.declared.entry.Entry.TheVariants.{Undefined, Go}
use Rattle.bb_machine.specs.declared.entry.Next.{Next}
use Rattle.bb_machine.specs.declared.entry.Next.TheVariants.{State, Halt}
use Rattle.bb_machine.specs.Machine.{Table, IsMachine, entry_of, symbols_of}
use Rattle.bb_sim.specs.Configuration.{Configuration}
use Rattle.bb_sim.specs.Run.{Never, conf}
use Rattle.laws_of_verdicts.specs.Change.{Change, IsChanged, Renaming, changed_entry, changed_next, either}
use Rattle.laws_of_verdicts.specs.Change.{turned}
use Rattle.laws_of_verdicts.specs.Closed.{with_entry}
use Rattle.laws_of_verdicts.specs.LineOf.{CompletesChanged}
use Rattle.laws_of_verdicts.specs.UndefinedEntry.{HaltsOnUndefined, HasOtherUndefined}
use Rattle.laws_of_verdicts.proofs.ChangedRuns.{ImageOf, back, changed_back, cell_at, conf_image, image_of}
use Rattle.laws_of_verdicts.proofs.ChangedNotions.{halts_image}
use Rattle.laws_of_verdicts.proofs.Completions.{completions_never_halt, conf_kept}
use Rattle.laws_of_verdicts.proofs.Fillings.{HasNoZ, entry-either, entry-other, entry-same, length-with_entry}
use Rattle.laws_of_verdicts.proofs.Fillings.{symbols_of-with_entry}

-- one change after another

abbrev both_names : Renaming → Renaming → Renaming
both_names a b = record {
  new = λ n. b.new (a.new n);
  old = λ n. a.old (b.old n);
  old_of_new = λ n. ap a.old (b.old_of_new (a.new n)) ∙ a.old_of_new n;
  new_of_old = λ n. ap b.new (a.new_of_old (b.old n)) ∙ b.new_of_old n;
}

abbrev pub composed : Change → Change → Change
composed a b = record {
  mirrored = either a.mirrored b.mirrored;
  states = both_names a.states b.states;
  symbols = both_names a.symbols b.symbols;
  keeps_A = ap b.states.new a.keeps_A ∙ b.keeps_A;
  keeps_0 = ap b.symbols.new a.keeps_0 ∙ b.keeps_0;
}

turned-composed : (m n : Bool) (to : Dir) → turned (either m n) to ≡ turned n (turned m to)
turned-composed false n to = refl
turned-composed true false to = refl
turned-composed true true dir.L = refl
turned-composed true true dir.R = refl

next-composed : (a b : Change) (to : Next) → changed_next (composed a b) to
    ≡ changed_next b (changed_next a to)
next-composed a b (State q) = refl
next-composed a b Halt = refl

entry-composed : (a b : Change) (entry : Entry) → changed_entry (composed a b) entry
    ≡ changed_entry b (changed_entry a entry)
entry-composed a b Undefined = refl
entry-composed a b (Go write to then) =
    ap₂ (Go (b.symbols.new (a.symbols.new write))) (turned-composed a.mirrored b.mirrored to)
    (next-composed a b then)

pub is_composed : (a b : Change) (one two three : Table) → IsChanged a one two → IsChanged b two three
    → IsChanged (composed a b) one three
is_composed a b one two three first second = record {
  states = second.states ∙ first.states;
  symbols = second.symbols ∙ first.symbols;
  states_named = λ q. named (first.states_named q) (second.states_named (a.states.new q)) first.states;
  symbols_named = λ s. named (first.symbols_named s) (second.symbols_named (a.symbols.new s)) first.symbols;
  entries = λ q s. second.entries (a.states.new q) (a.symbols.new s)
      ∙ ap (changed_entry b) (first.entries q s) ∙ sym (entry-composed a b (entry_of one q s));
} where
  named : {x y z m n : ℕ} → (x < m) ↔ (y < m) → (y < n) ↔ (z < n) → n ≡ m → (x < m) ↔ (z < m)
  named one two e = (
    λ h. let there = one.0 h in let then = two.0 (omega (arith, there, e)) in omega (arith, then, e),
    λ h. let there = two.1 (omega (arith, h, e)) in one.1 (omega (arith, there, e)),
  )

-- a change of the filled machine

pub filled_changed : (change : Change) (table changed : Table) → IsMachine table → IsMachine changed
    → IsChanged change table changed → (q s : ℕ) (entry : Entry) → q < length table → s < symbols_of table
    → IsChanged change (with_entry table q s entry)
    (with_entry changed (change.states.new q) (change.symbols.new s) (changed_entry change entry))
filled_changed change table changed machine machine_too is q s entry below inside = record {
  states = length-with_entry changed p t made ∙ is.states ∙ sym (length-with_entry table q s entry);
  symbols = symbols_of-with_entry changed p t made ∙ is.symbols ∙ sym (symbols_of-with_entry table q s entry);
  states_named = λ i. rw (length-with_entry table q s entry) (is.states_named i);
  symbols_named = λ j. rw (symbols_of-with_entry table q s entry) (is.symbols_named j);
  entries = λ i j. elim (entry-either table machine q s entry below inside i j) [
    | inl here ↦
        ap₂ (λ x y. entry_of (with_entry changed p t made) (change.states.new x) (change.symbols.new y))
        here.0 here.1
        ∙ entry-same changed machine_too p t made below_too inside_too
        ∙ ap (changed_entry change) (sym here.2)
    | inr there ↦
        entry-other changed p t (change.states.new i) (change.symbols.new j) made below_too
        (λ same same_too. there.0 (one_name change.states i q same) (one_name change.symbols j s same_too))
        ∙ is.entries i j ∙ ap (changed_entry change) (sym there.1)
  ];
} where
  p : ℕ
  p = change.states.new q

  t : ℕ
  t = change.symbols.new s

  made : Entry
  made = changed_entry change entry

  below_too : change.states.new q < length changed
  below_too = let h = (is.states_named q).0 below in let e = is.states in omega (arith, h, e)

  inside_too : change.symbols.new s < symbols_of changed
  inside_too = let h = (is.symbols_named s).0 inside in let e = is.symbols in omega (arith, h, e)

  one_name : (names : Renaming) (x y : ℕ) → names.new x ≡ names.new y → x ≡ y
  one_name names x y e = sym (names.old_of_new x) ∙ ap names.old e ∙ names.old_of_new y

-- what a change keeps

pub never_changed : (change : Change) (table changed : Table) → IsChanged change table changed → Never table
    → Never changed
never_changed change table changed is never = record {
  never = λ n halts. never.never n (halts_image (back change) changed table
      (changed_back change table changed is) n halts);
}

-- each configuration of a machine has its image in the run of one that completes it after a change
pub line_image : (change : Change) (table machine : Table) → CompletesChanged change table machine → (n : ℕ)
    (c : Configuration) → conf table n ≡ Some c → ImageOf change c (conf machine n)
line_image change table machine done n c at =
    let image = image_of change (conf table n) (conf done.changed n) c
    (conf_image change table done.changed done.is_changed n) at in
    record {
      there = image.there;
      exists = conf_kept done.changed machine done.completes n image.there image.exists;
      image = image.image;
    }

-- so this one never halts either
pub never_there : (change : Change) (table machine : Table) → CompletesChanged change table machine → Never table
    → Never machine
never_there change table machine done never = completions_never_halt done.changed machine done.completes
    (never_changed change table done.changed done.is_changed never)

pub undefined_changed : (change : Change) (table changed : Table) → IsChanged change table changed → (n q s : ℕ)
    → HaltsOnUndefined table n q s → HaltsOnUndefined changed n (change.states.new q) (change.symbols.new s)
undefined_changed change table changed is n q s undefined =
    let there = image_of change _ _ undefined.last (conf_image change table changed is n) undefined.exists in
    record {
      last = there.there;
      exists = there.exists;
      in_state = there.image.state ∙ ap (changed_next change) undefined.in_state;
      at_symbol = cell_at change undefined.last there.there there.image undefined.last.head there.there.head
          there.image.head ∙ ap change.symbols.new undefined.at_symbol;
      undefined = is.entries q s ∙ ap (changed_entry change) undefined.undefined;
    }

pub other_undefined_changed : (change : Change) (table changed : Table) → IsChanged change table changed
    → (q s : ℕ) → HasOtherUndefined changed (change.states.new q) (change.symbols.new s) → HasOtherUndefined table q s
other_undefined_changed change table changed is q s undefined =
    let undone = changed_back change table changed is in
    record {
      other_state = change.states.old undefined.other_state;
      other_symbol = change.symbols.old undefined.other_symbol;
      state_named =
          omega (arith, (undone.states_named undefined.other_state).0 undefined.state_named, is.states);
      symbol_named =
          omega (arith, (undone.symbols_named undefined.other_symbol).0 undefined.symbol_named, is.symbols);
      other = λ same same_too. undefined.other
          (sym (change.states.new_of_old undefined.other_state) ∙ ap change.states.new same)
          (sym (change.symbols.new_of_old undefined.other_symbol) ∙ ap change.symbols.new same_too);
      undefined = undone.entries undefined.other_state undefined.other_symbol ∙ ap (changed_entry (back change)) undefined.undefined;
    }

-- the machine has no entry into Z where the changed one has none
pub no_Z_before : (change : Change) (table changed : Table) → IsChanged change table changed → HasNoZ changed
    → HasNoZ table
no_Z_before change table changed is no_Z = record {
  none = λ q s write to e. no_Z.none (change.states.new q) (change.symbols.new s)
      (change.symbols.new write) (turned change.mirrored to)
      (is.entries q s ∙ ap (changed_entry change) e);
}
