-- Where entries stand in a text, and in the slots that are filled from it.
use Rattle.std.proofs.Common.{ap, ◌≡◌, ℕ, zero, suc, ◌+◌, ◌-◌, ◌*◌, ◌<◌, ◌≤◌, List, [], ◌∷◌, ◌++◌, length}
use Rattle.std.proofs.Common.{take, drop, get_or, set, refl, sym, ◌∙◌, append_assoc, zero-mul, arith}
use Rattle.std.proofs.lemmas.List.{length-append, drop-drop, take_rest, length-map, map-set, take_more}
use Rattle.std.proofs.lemmas.List.{get_or-append-add, get_or-drop}
use Rattle.std.proofs.lemmas.List.Elements.{All-from_recursion}
use Rattle.std.proofs.Math.Seq.{drop-append-add}
use Rattle.std.proofs.Math.Nat.{mul-le-mul}
use Rattle.std.specs.List.{AllByRecursion}
use Rattle.bb_machine.specs.declared.machine.TheConstants.{MAX_STATES, MAX_SYMBOLS, SLOTS, STRIDE}
use Rattle.bb_machine.specs.declared.machine.Slot.{Slot}
use Rattle.bb_machine.specs.declared.entry.Entry.{Entry}
use Rattle.bb_machine.specs.declared.entry.Entry.TheVariants.{Undefined}
use Rattle.bb_machine.specs.Entry.{entry_text, IsEntryOf}
use Rattle.bb_machine.specs.Machine.{IsGroup, group_text, text}
use Rattle.bb_machine.specs.Rows.{entry_in, entries_in, table_in, IsTable}
use Rattle.bb_machine.specs.Column.{BeginsWith}
use Rattle.bb_machine.proofs.Texts.{tail_text}
use Rattle.bb_machine.proofs.Stops.{entry_length}
use Rattle.bb_machine.proofs.Groups.{entry_weaker, entries_weaker}
use Rattle.bb_machine.proofs.Lengths.{length-group_text, length-text}
use Rattle.bb_machine.proofs.Tables.{rows-set, rows-more, row-more}

entry_on : (g : List Entry) (rest : List ℕ) (i : ℕ) → i < length g
    → BeginsWith (drop (3 * i) (group_text g ++ rest)) (entry_text (get_or g i Undefined))
entry_on [] rest i below = absurd (omega arith)
entry_on (e ∷ g) rest zero below = (group_text g ++ rest, append_assoc (entry_text e) (group_text g) rest)
entry_on (e ∷ g) rest (suc i) below =
    let more = entry_on g rest i (omega arith) in
    let offset : 3 * suc i ≡ length (entry_text e) + 3 * i = omega (arith, entry_length e) in (
      more.0,
      rw (
        offset,
        append_assoc (entry_text e) (group_text g) rest,
        drop-append-add (entry_text e) (group_text g ++ rest) (3 * i),
      ) more.1,
    )

-- an entry's text in that of its group
pub entry_stands : (g : List Entry) (bytes : List ℕ) (i : ℕ) → i < length g → BeginsWith bytes (group_text g)
    → BeginsWith (drop (3 * i) bytes) (entry_text (get_or g i Undefined))
entry_stands g bytes i below begins = rw begins.1 (entry_on g begins.0 i below)

tail_on : (s k : ℕ) (gs : List (List Entry)) (q : ℕ) → q < length gs → AllByRecursion (IsGroup s k) gs
    → BeginsWith (drop (q * (3 * k + 1)) (tail_text gs)) (95 ∷ group_text (get_or gs q []))
tail_on s k [] q below _ = absurd (omega arith)
tail_on s k (g ∷ gs) zero below _ = (tail_text gs, simp zero-mul)
tail_on s k (g ∷ gs) (suc q) below p =
    let more = tail_on s k gs q (omega arith) p.1 in
    let offset : suc q * (3 * k + 1) ≡ length (95 ∷ group_text g) + q * (3 * k + 1) =
    omega (arith, length-group_text g, p.0.full) in
    (more.0, rw (offset, drop-append-add (95 ∷ group_text g) (tail_text gs) (q * (3 * k + 1))) more.1)

-- a group's text in that of its table
pub group_stands : (s k : ℕ) (gs : List (List Entry)) (q : ℕ) → q < length gs
    → AllByRecursion (IsGroup s k) gs
    → BeginsWith (drop (q * (3 * k + 1)) (text gs)) (group_text (get_or gs q []))
group_stands s k [] q below _ = absurd (omega arith)
group_stands s k (g ∷ gs) zero below _ = (tail_text gs, simp zero-mul)
group_stands s k (g ∷ gs) (suc q) below p =
    let more = tail_on s k gs q (omega arith) p.1 in
    let offset : suc q * (3 * k + 1) ≡ length (group_text g) + (q * (3 * k + 1) + 1) =
    omega (arith, length-group_text g, p.0.full) in (
      more.0,
      rw (
        offset,
        drop-append-add (group_text g) (tail_text gs) (q * (3 * k + 1) + 1),
        ← drop-drop 1 (q * (3 * k + 1)) (tail_text gs),
        more.1,
      ) refl,
    )

-- the `_` before a group's text
pub bar_stands : (s k : ℕ) (gs : List (List Entry)) (q : ℕ) → 0 < q → q < length gs
    → AllByRecursion (IsGroup s k) gs → get_or (text gs) (q * (3 * k + 1) - 1) 0 ≡ 95
bar_stands s k [] q later below _ = absurd (omega arith)
bar_stands s k (g ∷ gs) zero later below _ = absurd (omega arith)
bar_stands s k (g ∷ gs) (suc q) later below p =
    let bar = tail_on s k gs q (omega arith) p.1 in
    let at : suc q * (3 * k + 1) - 1 ≡ length (group_text g) + (q * (3 * k + 1) + 0) =
    omega (arith, length-group_text g, p.0.full) in
    ap (λ n. get_or (group_text g ++ tail_text gs) n 0) at
    ∙ (get_or-append-add (group_text g) (tail_text gs) (q * (3 * k + 1) + 0) 0
    ∙ (sym (get_or-drop (q * (3 * k + 1)) (tail_text gs) 0 0) ∙ ap (λ z. get_or z 0 0) bar.1))

-- one more entry of a row
pub row_grows : (ps : List Slot) (row symbols symbol : ℕ) (p : Slot) (g : List Entry) → length ps ≡ SLOTS
    → row < MAX_STATES → symbols ≤ MAX_SYMBOLS → symbol < symbols → length g ≡ symbols
    → entry_in p ≡ get_or g symbol Undefined
    → take symbol (drop (row * STRIDE) (entries_in ps)) ≡ take symbol g
    → take (symbol + 1) (drop (row * STRIDE) (entries_in (set ps (row * STRIDE + symbol) p)))
    ≡ take (symbol + 1) g
row_grows ps row symbols symbol p g all below few inside long is so_far =
    let room : row * STRIDE + symbol < length (entries_in ps) = omega (arith, length-map ps entry_in) in
    rw (
      map-set entry_in ps (row * STRIDE + symbol) p,
      row-more (row * STRIDE) symbol (entries_in ps) (entry_in p) room,
      so_far,
      is,
      take_more g symbol Undefined (omega arith),
    ) refl

pub rows_stay : (ps : List Slot) (row symbols symbol : ℕ) (p : Slot) → symbols ≤ MAX_SYMBOLS
    → table_in row symbols (set ps (row * STRIDE + symbol) p) ≡ table_in row symbols ps
rows_stay ps row symbols symbol p few =
    rw (
      map-set entry_in ps (row * STRIDE + symbol) p,
      rows-set STRIDE row symbols (entries_in ps) symbol (entry_in p) (omega arith),
    )

-- one more row of a table
pub table_grows : (old new : List Slot) (row symbols : ℕ) (gs : List (List Entry)) → row < length gs
    → table_in row symbols old ≡ take row gs → table_in row symbols new ≡ table_in row symbols old
    → take symbols (drop (row * STRIDE) (entries_in new)) ≡ get_or gs row []
    → table_in (row + 1) symbols new ≡ take (row + 1) gs
table_grows old new row symbols gs below so_far stays filled =
    rw (rows-more STRIDE row symbols (entries_in new), stays, so_far, filled, take_more gs row [] below)
    refl

module _ (gs : List (List Entry)) (states symbols : ℕ) (table : IsTable states symbols gs) where
  pub table_groups : AllByRecursion (IsGroup states symbols) gs
  table_groups = rw (table.states_is, table.symbols_is) at table.machine.groups

  pub table_group : (q : ℕ) → q < states → IsGroup MAX_STATES symbols (get_or gs q [])
  table_group q below =
      let group = All-from_recursion (IsGroup states symbols) gs table_groups q []
      (omega (arith, table.states_is)) in
      record {
        full = group.full;
        entries = entries_weaker states MAX_STATES symbols symbols
            (omega (arith, table.machine.states, table.states_is)) (omega arith) _ group.entries;
      }

  -- a group begins inside the text
  pub table_inside : (q : ℕ) → q < states → q * (3 * symbols + 1) ≤ length (text gs)
  table_inside q below =
      let fits : (q + 1) * (3 * symbols + 1) ≤ length gs * (3 * symbols + 1) =
      mul-le-mul (omega (arith, table.states_is)) (omega arith) in
      omega (arith, fits, length-text states symbols gs table.machine.some_state table_groups)

-- an entry begins inside the text
pub entry_inside : (g : List Entry) (bytes : List ℕ) (symbols i : ℕ) → IsGroup MAX_STATES symbols g
    → i < symbols → BeginsWith bytes (group_text g) → 3 * i ≤ length bytes
entry_inside g bytes symbols i group below begins =
    omega (arith, ap length begins.1, length-append (group_text g) begins.0, length-group_text g, group.full)

-- an entry of a group, as it is read where it stands
pub entry_read : (g : List Entry) (bytes : List ℕ) (symbols i : ℕ) → IsGroup MAX_STATES symbols g
    → symbols ≤ MAX_SYMBOLS → i < symbols → BeginsWith bytes (group_text g)
    → IsEntryOf MAX_STATES MAX_SYMBOLS (get_or g i Undefined)
    × BeginsWith (take (length bytes - 3 * i) (drop (3 * i) bytes)) (entry_text (get_or g i Undefined))
entry_read g bytes symbols i group few below begins =
    let inside : i < length g = omega (arith, group.full) in
    let named = All-from_recursion (IsEntryOf MAX_STATES symbols) g group.entries i Undefined inside in (
      entry_weaker MAX_STATES MAX_STATES symbols MAX_SYMBOLS (omega arith) few (get_or g i Undefined) named,
      rw (take_rest bytes (3 * i)) (entry_stands g bytes i inside begins),
    )

-- a group of a table, as it is read where it stands
pub group_read : (gs : List (List Entry)) (line : List ℕ) (states symbols q : ℕ) → IsTable states symbols gs
    → text gs ≡ line → q < states
    → IsGroup MAX_STATES symbols (get_or gs q [])
    × BeginsWith (take (length line - q * (3 * symbols + 1)) (drop (q * (3 * symbols + 1)) line))
    (group_text (get_or gs q []))
group_read gs line states symbols q table is below = (
  table_group gs states symbols table q below,
  rw (take_rest line (q * (3 * symbols + 1)), ← is)
      (group_stands states symbols gs q (omega (arith, table.states_is))
      (table_groups gs states symbols table)),
)
