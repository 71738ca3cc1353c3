-- From the places of a mask to the rows of a line, and from the rows to a table of two symbols.
use Rattle.std.proofs.Common.{◌≡◌, ℕ, zero, suc, ◌+◌, ◌-◌, ◌*◌, ◌/◌, ◌%◌, ◌<◌, ◌≤◌, ◌↔◌, ◌^◌, List, []}
use Rattle.std.proofs.Common.{◌∷◌, ◌++◌, length, get_or, drop, slice_index, ap, ◌∙◌, refl, sym, subst, arith}
use Rattle.std.proofs.Common.{inl, inr}
use Rattle.std.specs.Int.{bit_at}
use Rattle.std.proofs.lemmas.Bool.{cases_lt}
use Rattle.std.proofs.lemmas.List.{drop-drop, get_or-drop}
use Rattle.std.proofs.lemmas.Nat.Bits.{bit_at_lowest, bit_at-suc, bit_at-zero}
use Rattle.bb_machine.specs.declared.machine.TheConstants.{MAX_STATES}
use Rattle.bb_machine.specs.declared.entry.Entry.{Entry}
use Rattle.bb_machine.specs.Entry.{entry_text}
use Rattle.bb_machine.specs.Machine.{IsGroup, group_text, text}
use Rattle.bb_machine.specs.Rows.{IsTable}
use Rattle.bb_machine.specs.Column.{BeginsWith}
use Rattle.bb_machine.specs.inside.Places.{HasEntry, HasLink}
use Rattle.bb_machine.proofs.Checked.{stands_by, begins_by, group_there, entry_there, bar_there}
use Rattle.bb_machine.proofs.Checked.{IsGroupSoFar, group_grows, group_whole}
use Rattle.bb_machine.proofs.Checked.{IsTableSoFar, groups_grow, table_whole}

-- a mask has all these places
abbrev Has : ℕ → ℕ → Type 0
Has mask places = (k : ℕ) → bit_at places k ≡ 1 → bit_at mask k ≡ 1

abbrev And : ℕ → Type 0 → Type 0 → Type 0
And zero X Y = Y
And (suc n) X Y = X × Y

-- what holds at each of the places, which are below n
abbrev AtPlaces : ℕ → ℕ → (ℕ → Type 0) → Type 0
AtPlaces zero places P = Unit {0}
AtPlaces (suc n) places P = And (places % 2) (P 0) (AtPlaces n (places / 2) (λ k. P (suc k)))

here : (bit : ℕ) (X Y : Type 0) → And bit X Y → bit ≡ 1 → X
here zero X Y all is = absurd (omega (arith, is))
here (suc n) X Y all is = all.0

others : (bit : ℕ) (X Y : Type 0) → And bit X Y → Y
others zero X Y all = all
others (suc n) X Y all = all.1

at_each : (n places : ℕ) (P : ℕ → Type 0) → places < 2 ^ n → AtPlaces n places P → (k : ℕ)
    → bit_at places k ≡ 1 → P k
at_each zero places P few all k set =
    let none : places ≡ 0 = omega (arith, few) in
    absurd (omega (arith, set, bit_at-zero k, ap (λ p. bit_at p k) none))
at_each (suc n) places P few all zero set =
    here (places % 2) (P 0) (AtPlaces n (places / 2) (λ k. P (suc k))) all (sym (bit_at_lowest places) ∙ set)
at_each (suc n) places P few all (suc k) set =
    at_each n (places / 2) (λ j. P (suc j)) (omega (arith, few))
    (others (places % 2) (P 0) (AtPlaces n (places / 2) (λ j. P (suc j))) all) k
    (sym (bit_at-suc places k) ∙ set)

-- an entry, or a `_`, stands where the mask has a place
abbrev AreEntries : ℕ → List ℕ → ℕ → Type 0
AreEntries states line mask = (k : ℕ) → k < 16 → (bit_at mask k ≡ 1) ↔ HasEntry states line k

abbrev AreBars : List ℕ → ℕ → Type 0
AreBars line mask = (k : ℕ) → k < 16 → (bit_at mask k ≡ 1) ↔ (slice_index line k ≡ 95)

module _ (states : ℕ) (line : List ℕ) (mask : ℕ) where
  pub first_entries : AreEntries states line mask → HasEntry states line 0 → HasLink states line 0
      → HasLink states line 1 → Has mask 17545
  first_entries entry first one two =
      let e0 = (entry 0 (omega arith)).1 first in
      let e3 = (entry 3 (omega arith)).1 one.second in
      let e7 = (entry 7 (omega arith)).1 one.next in
      let e10 = (entry 10 (omega arith)).1 two.second in
      let e14 = (entry 14 (omega arith)).1 two.next in
      at_each 15 17545 (λ k. bit_at mask k ≡ 1) (omega arith) (e0, (e3, (e7, (e10, (e14, tt)))))

  pub first_bars : AreBars line mask → HasLink states line 0 → HasLink states line 1 → Has mask 8256
  first_bars bar one two =
      let b6 = (bar 6 (omega arith)).1 one.bar in
      let b13 = (bar 13 (omega arith)).1 two.bar in
      at_each 14 8256 (λ k. bit_at mask k ≡ 1) (omega arith) (b6, (b13, tt))

  module _ (bytes : List ℕ) (row : ℕ) (is : bytes ≡ drop (7 * row + 2) line) where
    moved : (k n : ℕ) → (7 * row + 2) + k ≡ n → drop k bytes ≡ drop n line
    moved k n to = ap (drop k) is ∙ drop-drop k (7 * row + 2) line ∙ ap (λ m. drop m line) to

    pub here_entry : AreEntries states bytes mask → (k n : ℕ) → k < 16 → (7 * row + 2) + k ≡ n
        → (bit_at mask k ≡ 1) ↔ HasEntry states line n
    here_entry entry k n below to = (
      λ set. let e = (entry k below).0 set in
          (e.0, e.1, (e.2.0, sym (moved k n to) ∙ e.2.1)),
      λ e. (entry k below).1 (e.0, e.1, (e.2.0, moved k n to ∙ e.2.1)),
    )

    pub here_bar : AreBars bytes mask → (k n : ℕ) → k < 16 → (7 * row + 2) + k ≡ n
        → (bit_at mask k ≡ 1) ↔ (slice_index line n ≡ 95)
    here_bar bar k n below to =
        let same : get_or bytes k 0 ≡ get_or line n 0 =
        ap (λ xs. get_or xs k 0) is ∙ get_or-drop (7 * row + 2) line k 0 ∙ ap (λ m. get_or line m 0) to in (
          λ set. sym same ∙ (bar k below).0 set,
          λ found. (bar k below).1 (same ∙ found),
        )

    pub next_entries : AreEntries states bytes mask → HasLink states line row → HasLink states line (row + 1)
        → HasEntry states line (7 * row + 17) → Has mask 37154
    next_entries entry one two last =
        let e1 = (here_entry entry 1 (7 * row + 3) (omega arith) (omega arith)).1 one.second in
        let e5 = (here_entry entry 5 (7 * row + 7) (omega arith) (omega arith)).1 one.next in
        let e8 = (here_entry entry 8 (7 * (row + 1) + 3) (omega arith) (omega arith)).1 two.second in
        let e12 = (here_entry entry 12 (7 * (row + 1) + 7) (omega arith) (omega arith)).1 two.next in
        let e15 = (here_entry entry 15 (7 * row + 17) (omega arith) (omega arith)).1 last in
        at_each 16 37154 (λ k. bit_at mask k ≡ 1) (omega arith) (e1, (e5, (e8, (e12, (e15, tt)))))

    pub next_bars : AreBars bytes mask → HasLink states line row → HasLink states line (row + 1)
        → Has mask 2064
    next_bars bar one two =
        let b4 = (here_bar bar 4 (7 * row + 6) (omega arith) (omega arith)).1 one.bar in
        let b11 = (here_bar bar 11 (7 * (row + 1) + 6) (omega arith) (omega arith)).1 two.bar in
        at_each 12 2064 (λ k. bit_at mask k ≡ 1) (omega arith) (b4, (b11, tt))

module _ (states : ℕ) (line : List ℕ) (entries bars : ℕ) where
  pub first_rows : AreEntries states line entries → AreBars line bars → Has entries 17545 → Has bars 8256
      → HasEntry states line 0 × HasLink states line 0 × HasLink states line 1
  first_rows entry bar all between = (
    (entry 0 (omega arith)).0 (all 0 refl),
    record {
      second = (entry 3 (omega arith)).0 (all 3 refl);
      bar = (bar 6 (omega arith)).0 (between 6 refl);
      next = (entry 7 (omega arith)).0 (all 7 refl);
    },
    record {
      second = (entry 10 (omega arith)).0 (all 10 refl);
      bar = (bar 13 (omega arith)).0 (between 13 refl);
      next = (entry 14 (omega arith)).0 (all 14 refl);
    },
  )

  module _ (bytes : List ℕ) (row : ℕ) (is : bytes ≡ drop (7 * row + 2) line) where
    pub next_rows : AreEntries states bytes entries → AreBars bytes bars → Has entries 37154 → Has bars 2064
        → HasLink states line row × HasLink states line (row + 1) × HasEntry states line (7 * row + 17)
    next_rows entry bar all between = (
      record {
        second = (entry_here 1 (7 * row + 3) (omega arith) (omega arith)).0 (all 1 refl);
        bar = (bar_here 4 (7 * row + 6) (omega arith) (omega arith)).0 (between 4 refl);
        next = (entry_here 5 (7 * row + 7) (omega arith) (omega arith)).0 (all 5 refl);
      },
      record {
        second = (entry_here 8 (7 * (row + 1) + 3) (omega arith) (omega arith)).0 (all 8 refl);
        bar = (bar_here 11 (7 * (row + 1) + 6) (omega arith) (omega arith)).0 (between 11 refl);
        next = (entry_here 12 (7 * (row + 1) + 7) (omega arith) (omega arith)).0 (all 12 refl);
      },
      (entry_here 15 (7 * row + 17) (omega arith) (omega arith)).0 (all 15 refl),
    )
      where
        entry_here : (k n : ℕ) → k < 16 → (7 * row + 2) + k ≡ n
            → (bit_at entries k ≡ 1) ↔ HasEntry states line n
        entry_here = here_entry states line entries bytes row is entry

        bar_here : (k n : ℕ) → k < 16 → (7 * row + 2) + k ≡ n
            → (bit_at bars k ≡ 1) ↔ (slice_index line n ≡ 95)
        bar_here = here_bar states line bars bytes row is bar

-- a group of two entries
group_of : (states : ℕ) (line : List ℕ) (at : ℕ) → HasEntry states line at → HasEntry states line (at + 3)
    → (g : List Entry) × IsGroup states 2 g × BeginsWith (drop at line) (group_text g)
group_of states line at one two =
    let bytes = drop at line in
    let none : IsGroupSoFar states 2 0 bytes [] = record { count = refl; entries = tt; reads = refl } in
    let first = group_grows states 2 0 bytes [] one.0 none one.1
    (stands_by bytes bytes 0 refl (entry_text one.0) one.2) in
    let second = group_grows states 2 1 bytes (one.0 ∷ []) two.0 first two.1
    (stands_by bytes (drop (at + 3) line) 3 (sym (drop-drop 3 at line)) (entry_text two.0) two.2) in
    let whole = group_whole states 2 bytes (one.0 ∷ two.0 ∷ []) second in
    (one.0 ∷ two.0 ∷ [], whole.0, whole.1)

module _ (states : ℕ) (line : List ℕ) (long : length line + 1 ≡ states * 7) where
  module _ (some : 0 < states) (few : states ≤ MAX_STATES) (first : HasEntry states line 0)
      (links : (r : ℕ) → r + 1 < states → HasLink states line r)
      (last : HasEntry states line (7 * (states - 1) + 3)) where
    one_of : (r : ℕ) → r < states → HasEntry states line (r * 7)
    one_of zero below = first
    one_of (suc r) below =
        subst (HasEntry states line) (omega arith) (links r (omega arith)).next

    two_of : (r : ℕ) → r < states → HasEntry states line (r * 7 + 3)
    two_of r below =
        elim (cases_lt (r + 1) states) [
          | inl inside ↦ subst (HasEntry states line) (omega arith) (links r inside).second
          | inr end ↦ subst (HasEntry states line) (omega (arith, below, end)) last
        ]

    bar_of : (r : ℕ) → r < states → 0 < r → get_or line (r * 7 - 1) 0 ≡ 95
    bar_of zero below later = absurd (omega (arith, later))
    bar_of (suc r) below later =
        subst (λ n. get_or line n 0 ≡ 95) (omega arith) (links r (omega arith)).bar

    so_far : (n : ℕ) → n ≤ states → (gs : List (List Entry)) × IsTableSoFar states 2 n line gs
    so_far zero within = ([], record { count = refl; groups = tt; reads = refl })
    so_far (suc n) within =
        let before = so_far n (omega arith) in
        let g = group_of states line (n * 7) (one_of n (omega arith)) (two_of n (omega arith)) in
        let more = groups_grow states 2 n line before.0 g.0 before.1 g.1
        (stands_by line (drop (n * 7) line) (n * 7) refl (group_text g.0) g.2) (omega (arith, long, within))
        (bar_of n (omega arith)) in
        let next : n + 1 ≡ suc n = omega arith in
        (before.0 ++ g.0 ∷ [], subst (λ m. IsTableSoFar states 2 m line (before.0 ++ g.0 ∷ [])) next more)

    -- a line whose rows stand is the text of a machine
    pub table_from : (gs : List (List Entry)) × IsTable states 2 gs × (text gs ≡ line)
    table_from =
        let all = so_far states (omega arith) in
        let whole = table_whole states 2 line all.0 some few (omega arith) (omega arith) long all.1 in
        (all.0, whole.0, whole.1)

  module _ (gs : List (List Entry)) (table : IsTable states 2 gs) (is : text gs ≡ line) where
    -- the entries of a machine's text, and the bars between them
    pub entry_of : (r i n : ℕ) → r < states → i < 2 → r * 7 + 3 * i ≡ n → HasEntry states line n
    entry_of r i n below inside to =
        let bytes = drop (r * 7) line in
        let g = group_there states 2 line gs table is r below in
        let begins = begins_by line bytes (r * 7) refl (group_text g.0) g.2 in
        let e = entry_there states 2 i bytes g.0 g.1 begins inside in
        let there = begins_by bytes (drop (3 * i) bytes) (3 * i) refl (entry_text e.0) e.2 in
        (e.0, e.1, (there.0, sym (drop-drop (3 * i) (r * 7) line ∙ ap (λ m. drop m line) to) ∙ there.1))

    pub link_of : (r : ℕ) → r + 1 < states → HasLink states line r
    link_of r inside =
        let bar = bar_there states 2 line gs table is (r + 1) inside (omega arith) in
        record {
          second = entry_of r 1 (7 * r + 3) (omega arith) (omega arith) (omega arith);
          bar = subst (λ n. get_or line n 0 ≡ 95) (omega arith) bar;
          next = entry_of (r + 1) 0 (7 * r + 7) inside (omega arith) (omega arith);
        }

    -- so all that is looked at stands in a machine's text
    pub first_stand : 3 ≤ states → HasEntry states line 0 × HasLink states line 0 × HasLink states line 1
    first_stand enough = (
      entry_of 0 0 0 (omega arith) (omega arith) (omega arith),
      link_of 0 (omega arith),
      link_of 1 (omega arith),
    )

    pub rows_stand : (row : ℕ) → row + 3 ≤ states
        → HasLink states line row × HasLink states line (row + 1) × HasEntry states line (7 * row + 17)
    rows_stand row enough = (
      link_of row (omega arith),
      link_of (row + 1) (omega arith),
      entry_of (row + 2) 1 (7 * row + 17) (omega arith) (omega arith) (omega arith),
    )

-- two more rows after those so far
pub two_more : (states : ℕ) (line : List ℕ) (n : ℕ) → ((r : ℕ) → r < n → HasLink states line r)
    → HasLink states line n → HasLink states line (n + 1) → (r : ℕ) → r < n + 2 → HasLink states line r
two_more states line n before one two r below =
    elim (cases_lt r n) [
      | inl earlier ↦ before r earlier
      | inr later ↦
          elim (cases_lt r (n + 1)) [
            | inl low ↦ subst (HasLink states line) (omega (arith, later, low)) one
            | inr high ↦ subst (HasLink states line) (omega (arith, below, high)) two
          ]
    ]
