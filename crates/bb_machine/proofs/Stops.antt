-- Where no machine's text goes on.
use Rattle.std.proofs.Common.{◌≡◌, ◌≢◌, ℕ, ◌+◌, ◌-◌, ◌<◌, ◌≤◌, List, [], ◌∷◌, ◌++◌, length, take, drop}
use Rattle.std.proofs.Common.{get_or, refl, sym, ◌∙◌, ap, subst, inl, inr, append_assoc, add-one, arith}
use Rattle.std.proofs.lemmas.List.{append-nil, length-append, length-take-le}
use Rattle.std.proofs.lemmas.Bool.{cases_lt}
use Rattle.std.proofs.Math.Seq.{take-add}
use Rattle.std.specs.List.{AllByRecursion}
use Rattle.bb_machine.specs.declared.entry.Entry.{Entry}
use Rattle.bb_machine.specs.declared.entry.Entry.TheVariants.{Undefined, Go}
use Rattle.bb_machine.specs.Entry.{entry_text, IsEntryOf}
use Rattle.bb_machine.specs.Machine.{symbols_of, IsGroup, IsMachineWithin, group_text, text}
use Rattle.bb_machine.specs.Column.{BeginsWith, IsViableWithin}
use Rattle.bb_machine.specs.inside.Draft.{Begun, begun_text, symbols_limit, IsBegunWithin, IsWholeWithin}
use Rattle.bb_machine.specs.inside.Draft.{table_of}
use Rattle.bb_machine.specs.inside.Draft.{IsStopWithin, IsEntryStop}
use Rattle.bb_machine.proofs.Texts.{tail_text, GoesOn, text_peel, bar_peel}
use Rattle.bb_machine.proofs.Groups.{every-at, entry_weaker, entries_weaker, groups_plain, machine_plain}
use Rattle.bb_machine.proofs.Groups.{symbols_within}
use Rattle.bb_machine.proofs.Viable.{viable_begun, viable_prefix, begun_push, begun_text-push}

pub entry_length : (e : Entry) → length (entry_text e) ≡ 3
entry_length Undefined = refl
entry_length (Go w d n) = refl

-- of two prefixes of a list the shorter begins the longer
begins_by : (a b c d : List ℕ) → a ++ b ≡ c ++ d → length c ≤ length a → BeginsWith a c
begins_by a b [] d _ _ = (a, refl)
begins_by [] b (y ∷ c) d _ le = absurd (omega arith)
begins_by (x ∷ a) b (y ∷ c) d eq le =
    let heads : x ≡ y = cc in
    let tails : a ++ b ≡ c ++ d = cc in
    let rest = begins_by a b c d tails (omega arith) in
    (rest.0, cc)

-- a text that goes on after a whole group goes on with a `_`
bar_after : (entries : List Entry) (rest : List (List Entry)) (x : ℕ) (ys : List ℕ) → length entries ≡ 0
    → group_text entries ++ tail_text rest ≡ x ∷ ys → x ≡ 95
bar_after [] [] x ys _ eq = cc
bar_after [] (r ∷ rest) x ys _ eq = cc
bar_after (e ∷ entries) rest x ys none eq = absurd (omega arith)

-- a text that goes on with another byte goes on with an entry
pub record GoesOnByEntry (entries : List Entry) (rest : List (List Entry)) (bytes : List ℕ) : Type 0 where
  pub entry : Entry
  pub others : List Entry
  pub is : entries ≡ entry ∷ others
  pub after : List ℕ
  pub text_is : entry_text entry ++ after ≡ bytes

entry_after : (entries : List Entry) (rest : List (List Entry)) (x : ℕ) (ys : List ℕ) → x ≢ 95
    → group_text entries ++ tail_text rest ≡ x ∷ ys → GoesOnByEntry entries rest (x ∷ ys)
entry_after [] rest x ys no_bar eq = absurd (no_bar (bar_after [] rest x ys refl eq))
entry_after (e ∷ entries) rest x ys no_bar eq =
    record {
      entry = e;
      others = entries;
      is = refl;
      after = group_text entries ++ tail_text rest;
      text_is = sym (append_assoc (entry_text e) (group_text entries) (tail_text rest)) ∙ eq;
    }

pub whole_by : (s n : ℕ) (cs : List (List Entry)) (g : List Entry) (rest : List (List Entry)) → n ≤ s
    → 2 ≤ symbols_of (cs ++ g ∷ rest) → IsGroup n (symbols_of (cs ++ g ∷ rest)) g → IsWholeWithin s cs g
whole_by s n [] g rest le two group =
    (two, entries_weaker n s (length g) (length g) le (omega arith) g group.entries)
whole_by s n (c ∷ cs) g rest le two group = group.full

pub whole_text_by : (b : Begun) (gs : List (List Entry)) (entries : List Entry) (rest : List (List Entry))
    → gs ≡ b.groups ++ (b.group ++ entries) ∷ rest → group_text entries ++ tail_text rest ≡ []
    → gs ≡ table_of b
whole_text_by b gs [] [] is _ = is ∙ ap (λ x. b.groups ++ x ∷ []) (append-nil b.group)
whole_text_by b gs [] (r ∷ rest) is eq = cc
whole_text_by b gs (Undefined ∷ entries) rest is eq = cc
whole_text_by b gs (Go w d n ∷ entries) rest is eq = cc

module _ (s k : ℕ) (few_states : s ≤ 25) (few_symbols : k ≤ 10) (b : Begun) (begun : IsBegunWithin s k b)
    (gs : List (List Entry)) (machine : IsMachineWithin s k gs) where
  -- a machine whose text begins with what was read
  pub goes_on : (more : List ℕ) → text gs ≡ begun_text b ++ more → GoesOn b gs more
  goes_on more eq =
      let symbols : symbols_limit k b.groups ≤ 10 = omega (arith, begun.symbols) in
      text_peel b gs more (groups_plain s (symbols_limit k b.groups) few_states symbols b.groups begun.groups)
      (entries_weaker s 25 (symbols_limit k b.groups) 10 few_states symbols b.group begun.entries)
      (machine_plain s k few_states few_symbols gs machine) machine.some_state eq

  last_group : (more : List ℕ) (on : GoesOn b gs more) → IsGroup (length gs) (symbols_of gs)
      (b.group ++ on.entries)
  last_group more on =
      every-at (IsGroup (length gs) (symbols_of gs)) b.groups (b.group ++ on.entries) on.rest
      (subst (λ x. AllByRecursion (IsGroup (length gs) (symbols_of gs)) x) on.is machine.groups)

  symbols_left : (more : List ℕ) (on : GoesOn b gs more) → symbols_of gs ≤ symbols_limit k b.groups
  symbols_left more on =
      rw on.is (symbols_within k b.groups (b.group ++ on.entries) on.rest (rw on.is at machine.symbols))

  -- before a `_` the group is whole, and there is room for another
  pub bar_follows : (ys : List ℕ) → text gs ≡ begun_text b ++ 95 ∷ ys
      → (length b.groups + 1 < s) × IsWholeWithin s b.groups b.group
  bar_follows ys eq =
      let on = goes_on (95 ∷ ys) eq in
      let bar = bar_peel on.entries on.rest ys on.plain on.text_is in
      let rest : List (List Entry) = bar.next ∷ bar.others in
      let group_is : b.group ++ on.entries ≡ b.group = ap (λ x. b.group ++ x) bar.at_end
      ∙ append-nil b.group in
      let whole : List (List Entry) = b.groups ++ b.group ∷ rest in
      let is : gs ≡ whole = on.is
      ∙ (ap (λ x. b.groups ++ x ∷ on.rest) group_is ∙ ap (λ x. b.groups ++ b.group ∷ x) bar.is) in
      let here = subst (λ x. IsMachineWithin s k x) is machine in (
        omega (arith, here.states, length-append b.groups (b.group ∷ rest)),
        whole_by s (length whole) b.groups b.group rest here.states here.two_symbols
            (every-at (IsGroup (length whole) (symbols_of whole)) b.groups b.group rest here.groups),
      )

  -- after a full group only a `_` can follow
  pub full_follows : (x : ℕ) (ys : List ℕ) → length b.group ≡ symbols_limit k b.groups
      → text gs ≡ begun_text b ++ x ∷ ys → x ≡ 95
  full_follows x ys full eq =
      let on = goes_on (x ∷ ys) eq in
      let group = last_group (x ∷ ys) on in
      let left = symbols_left (x ∷ ys) on in
      bar_after on.entries on.rest x ys (omega (arith, length-append b.group on.entries, group.full))
      on.text_is

  -- what follows, other than a `_`, is an entry of few symbols
  pub entry_follows : (x : ℕ) (ys : List ℕ) → x ≢ 95 → text gs ≡ begun_text b ++ x ∷ ys
      → (e : Entry) × IsEntryOf s (symbols_limit k b.groups) e × BeginsWith (x ∷ ys) (entry_text e)
  entry_follows x ys no_bar eq =
      let on = goes_on (x ∷ ys) eq in
      let by = entry_after on.entries on.rest x ys no_bar on.text_is in
      let entries = rw by.is at (last_group (x ∷ ys) on).entries in
      let entry = every-at (IsEntryOf (length gs) (symbols_of gs)) b.group by.entry by.others entries in (
        by.entry,
        entry_weaker (length gs) s (symbols_of gs) (symbols_limit k b.groups) machine.states
            (symbols_left (x ∷ ys) on) by.entry entry,
        (by.after, sym by.text_is),
      )

  -- a machine's whole text: the table of what was read
  pub whole_text : text gs ≡ begun_text b → gs ≡ table_of b
  whole_text eq =
      let on = goes_on [] (eq ∙ sym (append-nil (begun_text b))) in
      whole_text_by b gs on.entries on.rest on.is on.text_is

-- what stops one byte further, stops
stop_by : (s k : ℕ) (before bytes : List ℕ) (n : ℕ) → n ≤ length bytes
    → IsViableWithin s k (before ++ take n bytes)
    → (n < length bytes → IsViableWithin s k (before ++ take (n + 1) bytes) → ⊥)
    → IsStopWithin s k before bytes n
stop_by s k before bytes n within holds further =
    record {
      within = within;
      holds = holds;
      longest = λ m fits v.
          elim (cases_lt n m) [
            | inl above ↦ absurd (further (omega arith) (shorter m above v))
            | inr below ↦ below
          ];
    }
  where
    shorter : (m : ℕ) → n < m → IsViableWithin s k (before ++ take m bytes)
        → IsViableWithin s k (before ++ take (n + 1) bytes)
    shorter m above v =
        let e : (n + 1) + (m - (n + 1)) ≡ m = omega arith in
        let parts : take m bytes ≡ take (n + 1) bytes ++ take (m - (n + 1)) (drop (n + 1) bytes) =
        ap (λ j. take j bytes) (sym e) ∙ take-add (n + 1) (m - (n + 1)) bytes in
        viable_prefix s k (before ++ take (n + 1) bytes) _ (rw (parts, ← append_assoc) at v)

module _ (s k : ℕ) (few_states : s ≤ 25) (few_symbols : k ≤ 10) (b : Begun)
    (begun : IsBegunWithin s k b) where
  viable_here : IsViableWithin s k (begun_text b ++ [])
  viable_here = rw (append-nil (begun_text b)) (viable_begun s k b begun)

  viable_entry : (e : Entry) (prefix : List ℕ) → length b.group < symbols_limit k b.groups
      → IsEntryOf s (symbols_limit k b.groups) e → BeginsWith (entry_text e) prefix
      → IsViableWithin s k (begun_text b ++ prefix)
  viable_entry e prefix room is begins =
      let longer = viable_begun s k _ (begun_push s k b begun e room is) in
      viable_prefix s k (begun_text b ++ prefix) begins.0
      (subst (λ x. IsViableWithin s k x) (begun_text-push b e
      ∙ (ap (λ x. begun_text b ++ x) begins.1 ∙ sym (append_assoc (begun_text b) prefix begins.0))) longer)

  -- the bytes ahead begin with a `_` for which it is too early, or for which there is no room
  pub bar_stop : (bytes : List ℕ) → 0 < length bytes → get_or bytes 0 0 ≡ 95
      → (length b.groups + 1 < s → IsWholeWithin s b.groups b.group → ⊥)
      → IsStopWithin s k (begun_text b) bytes 0
  bar_stop [] some _ _ = absurd (omega arith)
  bar_stop (x ∷ ys) _ is refused =
      stop_by s k (begun_text b) (x ∷ ys) 0 (omega arith) viable_here
      (λ _ v.
      let follows = bar_follows s k few_states few_symbols b begun v.0 v.1 v.2.0 (v.2.1
      ∙ (append_assoc (begun_text b) (x ∷ []) v.2.0 ∙ ap (λ z. begun_text b ++ z ∷ v.2.0) is)) in
      refused follows.0 follows.1)

  -- the bytes ahead begin with an entry for which the group has no room
  pub full_stop : (bytes : List ℕ) → 0 < length bytes → get_or bytes 0 0 ≢ 95
      → length b.group ≡ symbols_limit k b.groups → IsStopWithin s k (begun_text b) bytes 0
  full_stop [] some _ _ = absurd (omega arith)
  full_stop (x ∷ ys) _ no_bar full =
      stop_by s k (begun_text b) (x ∷ ys) 0 (omega arith) viable_here
      (λ _ v.
      no_bar (full_follows s k few_states few_symbols b begun v.0 v.1 x v.2.0 full
      (v.2.1 ∙ append_assoc (begun_text b) (x ∷ []) v.2.0)))

  -- the bytes ahead are no entry
  pub entry_stop : (bytes : List ℕ) (n : ℕ) → 0 < length bytes → get_or bytes 0 0 ≢ 95
      → length b.group < symbols_limit k b.groups → IsEntryStop s (symbols_limit k b.groups) bytes n
      → IsStopWithin s k (begun_text b) bytes n
  entry_stop [] n some _ _ _ = absurd (omega arith)
  entry_stop (x ∷ ys) n _ no_bar room stop =
      stop_by s k (begun_text b) (x ∷ ys) n stop.within
      (viable_entry stop.holds.0 (take n (x ∷ ys)) room stop.holds.1 stop.holds.2)
      (λ inside v.
      let prefix_is : take (n + 1) (x ∷ ys) ≡ x ∷ take n ys = rw add-one refl in
      let follows =
      entry_follows s k few_states few_symbols b begun v.0 v.1 x (take n ys ++ v.2.0) no_bar (v.2.1
      ∙ (append_assoc (begun_text b) (take (n + 1) (x ∷ ys)) v.2.0
      ∙ ap (λ z. begun_text b ++ (z ++ v.2.0)) prefix_is)) in
      let short : length (take (n + 1) (x ∷ ys)) ≤ length (entry_text follows.0) =
      omega (arith, length-take-le (n + 1) (x ∷ ys), entry_length follows.0, stop.part) in
      stop.longest inside (
        follows.0,
        follows.1,
        begins_by (entry_text follows.0) follows.2.0 (take (n + 1) (x ∷ ys)) v.2.0
            (sym (ap (λ z. z ++ v.2.0) prefix_is ∙ follows.2.1)) short,
      ))
