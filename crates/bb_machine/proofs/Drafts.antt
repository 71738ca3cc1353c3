-- What a draft counts, after each of its changes.
use Rattle.std.proofs.Common.{◌≡◌, ℕ, ◌+◌, ◌<◌, ◌≤◌, ◌↔◌, List, [], ◌∷◌, ◌++◌, length, max, refl, sym, ◌∙◌}
use Rattle.std.proofs.Common.{subst, append_assoc, arith}
use Rattle.std.proofs.lemmas.List.{append-nil, length-append}
use Rattle.std.proofs.lemmas.List.Concat.{flat_map-append}
use Rattle.std.specs.List.{AllByRecursion, flat_map}
use Rattle.bb_machine.specs.declared.machine.TheConstants.{MAX_STATES, MAX_SYMBOLS}
use Rattle.bb_machine.specs.declared.machine.reader.Draft.{Draft}
use Rattle.bb_machine.specs.declared.entry.Entry.{Entry}
use Rattle.bb_machine.specs.Entry.{IsEntryOf}
use Rattle.bb_machine.specs.Machine.{IsGroup}
use Rattle.bb_machine.specs.inside.Draft.{Begun, begun_entries, symbols_limit, IsBegunWithin, IsDraft}
use Rattle.bb_machine.specs.inside.Draft.{IsWhole}
use Rattle.bb_machine.specs.inside.Draft.{IsWholeWithin}
use Rattle.bb_machine.proofs.Groups.{every-append, every-push, every-prefix, every-at}
use Rattle.bb_machine.proofs.Viable.{begun_push, begun_close}

-- what each group's entries name, all entries name
group_entries : (s k : ℕ) (gs : List (List Entry)) → AllByRecursion (IsGroup s k) gs
    → AllByRecursion (IsEntryOf s k) (flat_map (λ g. g) gs)
group_entries s k [] _ = tt
group_entries s k (g ∷ gs) p =
    every-append (IsEntryOf s k) g (flat_map (λ g. g) gs) p.0.entries (group_entries s k gs p.1)

pub draft_push : (d : Draft) (b : Begun) (e : Entry) (symbols k : ℕ) → IsDraft d b
    → d.filled < d.symbols → IsEntryOf MAX_STATES d.symbols e
    → ((m : ℕ) → IsEntryOf MAX_STATES m e ↔ (symbols ≤ m)) → k ≡ max d.named_symbols symbols
    → IsDraft (record {
      states = d.states;
      symbols = d.symbols;
      filled = d.filled + 1;
      named_symbols = k;
    }) (record { groups = b.groups; group = b.group ++ e ∷ [] })
draft_push d b e symbols k draft room is names k_is =
    record {
      begun = begun_push MAX_STATES MAX_SYMBOLS b draft.begun e
          (omega (arith, draft.filled_is, draft.symbols_is)) (rw draft.symbols_is is);
      states_is = draft.states_is;
      symbols_is = draft.symbols_is;
      filled_is = omega (arith, length-append b.group (e ∷ []), draft.filled_is);
      named = λ m. rw (← append_assoc (flat_map (λ g. g) b.groups) b.group (e ∷ [])) (there m, back m);
    }
  where
    there : (m : ℕ) → AllByRecursion (IsEntryOf MAX_STATES m) (begun_entries b ++ e ∷ []) → k ≤ m
    there m all =
        let before =
        (draft.named m).0 (every-prefix (IsEntryOf MAX_STATES m) (begun_entries b) (e ∷ []) all) in
        let last = (names m).0 (every-at (IsEntryOf MAX_STATES m) (begun_entries b) e [] all) in
        omega arith

    back : (m : ℕ) → k ≤ m → AllByRecursion (IsEntryOf MAX_STATES m) (begun_entries b ++ e ∷ [])
    back m few =
        every-push (IsEntryOf MAX_STATES m) (begun_entries b) e ((draft.named m).1 (omega arith))
        ((names m).1 (omega arith))

closed_symbols : (gs : List (List Entry)) (last : List Entry) → IsWholeWithin MAX_STATES gs last
    → symbols_limit MAX_SYMBOLS (gs ++ last ∷ []) ≡ length last
closed_symbols [] last whole = refl
closed_symbols (g ∷ gs) last whole = sym whole

pub draft_close : (d : Draft) (b : Begun) → IsDraft d b → IsWhole b → d.states < MAX_STATES
    → IsDraft (record {
      states = d.states + 1;
      symbols = d.filled;
      filled = 0;
      named_symbols = d.named_symbols;
    }) (record { groups = b.groups ++ b.group ∷ []; group = [] })
draft_close d b draft whole room =
    record {
      begun = begun_close MAX_STATES MAX_SYMBOLS b.groups b.group draft.begun
          (omega (arith, draft.states_is)) whole;
      states_is = omega (arith, length-append b.groups (b.group ∷ []), draft.states_is);
      symbols_is = closed_symbols b.groups b.group whole ∙ draft.filled_is;
      filled_is = refl;
      named = λ m.
          rw (
            append-nil (flat_map (λ g. g) (b.groups ++ b.group ∷ [])),
            flat_map-append (λ (g : List Entry). g) b.groups (b.group ∷ []),
            append-nil b.group,
          ) (draft.named m);
    }

later_on : (gs : List (List Entry)) (last : List Entry) → 0 < length gs → IsWholeWithin MAX_STATES gs last
    ↔ (length last ≡ symbols_limit MAX_SYMBOLS gs)
later_on [] last some = absurd (omega arith)
later_on (g ∷ gs) last some = (λ p. p, λ p. p)

-- after the first group, a whole group is as long as it
pub later_whole : (d : Draft) (b : Begun) → IsDraft d b → 1 < d.states → IsWhole b ↔ (d.filled ≡ d.symbols)
later_whole d b draft later =
    let on = later_on b.groups b.group (omega (arith, draft.states_is)) in (
      λ whole. sym draft.filled_is ∙ (on.0 whole ∙ draft.symbols_is),
      λ same. on.1 (draft.filled_is ∙ (same ∙ sym draft.symbols_is)),
    )

whole_entries : (s k : ℕ) (gs : List (List Entry)) (last : List Entry)
    → IsBegunWithin s k (record { groups = gs; group = last }) → IsWholeWithin s gs last
    → AllByRecursion (IsEntryOf s (length last)) (flat_map (λ g. g) gs ++ last)
whole_entries s k [] last begun whole = whole.1
whole_entries s k (g ∷ gs) last begun whole =
    subst (λ z. AllByRecursion (IsEntryOf s z) (flat_map (λ g. g) (g ∷ gs) ++ last)) (sym whole)
    (every-append (IsEntryOf s (length g)) (flat_map (λ g. g) (g ∷ gs)) last
    (group_entries s (length g) (g ∷ gs) begun.groups) begun.entries)

first_on : (gs : List (List Entry)) (last : List Entry) → length gs ≡ 0 → 2 ≤ length last
    → AllByRecursion (IsEntryOf MAX_STATES (length last)) (flat_map (λ g. g) gs ++ last)
    → IsWholeWithin MAX_STATES gs last
first_on [] last _ two all = (two, all)
first_on (g ∷ gs) last none _ _ = absurd (omega arith)

first_two : (gs : List (List Entry)) (last : List Entry) → length gs ≡ 0 → IsWholeWithin MAX_STATES gs last
    → 2 ≤ length last
first_two [] last _ whole = whole.0
first_two (g ∷ gs) last none _ = absurd (omega arith)

-- a first group is whole with two or more entries, which write only as many symbols
pub first_whole : (d : Draft) (b : Begun) → IsDraft d b → d.states ≤ 1
    → IsWhole b ↔ ((2 ≤ d.filled) × (d.named_symbols ≤ d.filled))
first_whole d b draft first = (there, back)
  where
    none : length b.groups ≡ 0
    none = omega (arith, draft.states_is)

    there : IsWhole b → (2 ≤ d.filled) × (d.named_symbols ≤ d.filled)
    there whole =
        let few : d.named_symbols ≤ length b.group =
        (draft.named (length b.group)).0
        (whole_entries MAX_STATES MAX_SYMBOLS b.groups b.group draft.begun whole) in (
          omega (arith, first_two b.groups b.group none whole, draft.filled_is),
          omega (arith, few, draft.filled_is),
        )

    back : (2 ≤ d.filled) × (d.named_symbols ≤ d.filled) → IsWhole b
    back parts =
        let all = (draft.named (length b.group)).1 (omega (arith, parts.1, draft.filled_is)) in
        first_on b.groups b.group none (omega (arith, parts.0, draft.filled_is)) all
