-- What is known of a line whose entries and bars were looked at one after another.
use Rattle.std.proofs.Common.{ap, ◌≡◌, ℕ, ◌+◌, ◌-◌, ◌*◌, ◌<◌, ◌≤◌, List, [], ◌∷◌, ◌++◌, length}
use Rattle.std.proofs.Common.{take, drop, get_or, sym, ◌∙◌, ◌≢◌, ◌⊎◌, inl, inr, append_assoc, add-zero, arith}
use Rattle.std.proofs.Common.{zero-mul, refl}
use Rattle.std.proofs.Math.Nat.{mul-le-mul}
use Rattle.std.proofs.lemmas.List.{append-nil, length-append, take-append-drop, take_rest}
use Rattle.std.proofs.lemmas.List.{get_or-append-add, get_or_append_left, get_or-drop, take_more, drop-drop}
use Rattle.std.proofs.lemmas.List.Elements.{All-from_recursion}
use Rattle.std.proofs.lemmas.List.Concat.{flat_map-append}
use Rattle.std.proofs.Math.Seq.{take-add, take-append_seam, take-length}
use Rattle.std.specs.List.{AllByRecursion}
use Rattle.bb_machine.specs.declared.machine.TheConstants.{MAX_STATES, MAX_SYMBOLS}
use Rattle.bb_machine.specs.declared.entry.Entry.{Entry}
use Rattle.bb_machine.specs.declared.entry.Entry.TheVariants.{Undefined, Go}
use Rattle.bb_machine.specs.Entry.{entry_text, IsEntryOf}
use Rattle.bb_machine.specs.Machine.{IsGroup, IsMachine, group_text, symbols_of, text}
use Rattle.bb_machine.specs.Rows.{IsTable}
use Rattle.bb_machine.specs.Column.{BeginsWith}
use Rattle.bb_machine.proofs.Stops.{entry_length}
use Rattle.bb_machine.proofs.Groups.{entry_weaker, every-push, machine_by}
use Rattle.bb_machine.proofs.Texts.{tail_text}
use Rattle.bb_machine.proofs.Lengths.{length-group_text, text-push}
use Rattle.bb_machine.proofs.Filled.{bar_stands, entry_stands, group_read, table_groups}

-- what comes after the first n bytes begins with others
abbrev StandsAt : List ℕ → ℕ → List ℕ → Type 0
StandsAt bytes n part = BeginsWith (take (length bytes - n) (drop n bytes)) part

begins_with : (bytes part : List ℕ) (n : ℕ) → StandsAt bytes n part
    → take (n + length part) bytes ≡ take n bytes ++ part
begins_with bytes part n begins =
    let is : drop n bytes ≡ part ++ begins.0 = sym (take_rest bytes n) ∙ begins.1 in
    take-add n (length part) bytes
    ∙ ap (λ z. take n bytes ++ z) (ap (take (length part)) is ∙ take-append_seam part begins.0)

module _ (line rest : List ℕ) (at : ℕ) (is : rest ≡ drop at line) where
  pub stands_by : (part : List ℕ) → BeginsWith rest part → StandsAt line at part
  stands_by part begins = (begins.0, take_rest line at ∙ (sym is ∙ begins.1))

  pub begins_by : (part : List ℕ) → StandsAt line at part → BeginsWith rest part
  begins_by part stands = (stands.0, is ∙ (sym (take_rest line at) ∙ stands.1))

  pub first_by : get_or rest 0 0 ≡ get_or line at 0
  first_by =
      ap (λ z. get_or z 0 0) is
      ∙ (get_or-drop at line 0 0 ∙ ap (λ n. get_or line n 0) (add-zero at))

  pub rest_by : (n : ℕ) → take (length rest - n) (drop n rest) ≡ drop (at + n) line
  rest_by n = take_rest rest n ∙ (ap (drop n) is ∙ drop-drop n at line)

-- where a group begins: after the `_` before it, if there is one
module _ (line rest bytes : List ℕ) (row width : ℕ) (is : rest ≡ drop (row * width - 1) line) where
  pub group_first : row ≤ 0 → bytes ≡ rest → bytes ≡ drop (row * width) line
  group_first first same =
      let none : row ≡ 0 = omega arith in
      let zero : row * width ≡ 0 = rw none (zero-mul width) in
      same ∙ (is ∙ rw zero refl)

  pub group_later : 0 < row → 0 < width → bytes ≡ take (length rest - 1) (drop 1 rest)
      → bytes ≡ drop (row * width) line
  group_later later wide same =
      let some : 1 * width ≤ row * width = mul-le-mul later (omega arith) in
      let next : (row * width - 1) + 1 ≡ row * width = omega (arith, some, wide) in
      same ∙ (rest_by line rest (row * width - 1) is 1 ∙ ap (λ n. drop n line) next)

-- the first entries of a group, whose text the first bytes are
pub record IsGroupSoFar (states symbols n : ℕ) (bytes : List ℕ) (g : List Entry) : Type 0 where
  pub count : length g ≡ n
  pub entries : AllByRecursion (IsEntryOf states symbols) g
  pub reads : group_text g ≡ take (3 * n) bytes

pub group_grows : (states symbols n : ℕ) (bytes : List ℕ) (g : List Entry) (e : Entry)
    → IsGroupSoFar states symbols n bytes g → IsEntryOf states symbols e
    → StandsAt bytes (3 * n) (entry_text e) → IsGroupSoFar states symbols (n + 1) bytes (g ++ e ∷ [])
group_grows states symbols n bytes g e so_far named begins =
    let three : 3 * n + length (entry_text e) ≡ 3 * (n + 1) = omega (arith, entry_length e) in
    let more = rw three at (begins_with bytes (entry_text e) (3 * n) begins) in
    record {
      count = omega (arith, length-append g (e ∷ []), so_far.count);
      entries = every-push (IsEntryOf states symbols) g e so_far.entries named;
      reads = rw (flat_map-append entry_text g (e ∷ []), append-nil (entry_text e), so_far.reads) (sym more);
    }

pub group_whole : (states symbols : ℕ) (bytes : List ℕ) (g : List Entry)
    → IsGroupSoFar states symbols symbols bytes g → IsGroup states symbols g × BeginsWith bytes (group_text g)
group_whole states symbols bytes g so_far = (
  record { full = so_far.count; entries = so_far.entries },
  (drop (3 * symbols) bytes, rw so_far.reads (sym (take-append-drop (3 * symbols) bytes))),
)

-- an entry of a group, where it stands
pub entry_there : (states symbols i : ℕ) (bytes : List ℕ) (g : List Entry) → IsGroup states symbols g
    → BeginsWith bytes (group_text g) → i < symbols
    → (e : Entry) × IsEntryOf states symbols e × StandsAt bytes (3 * i) (entry_text e)
entry_there states symbols i bytes g group begins below =
    let inside : i < length g = omega (arith, group.full) in (
      get_or g i Undefined,
      All-from_recursion (IsEntryOf states symbols) g group.entries i Undefined inside,
      rw (take_rest bytes (3 * i)) (entry_stands g bytes i inside begins),
    )

-- the first groups of a table, whose text the first bytes of the line are
pub record IsTableSoFar (states symbols n : ℕ) (line : List ℕ) (gs : List (List Entry)) : Type 0 where
  pub count : length gs ≡ n
  pub groups : AllByRecursion (IsGroup states symbols) gs
  pub reads : text gs ≡ take (n * (3 * symbols + 1) - 1) line

-- the bytes before a place and a group that begins there
group_after : (states symbols n : ℕ) (line : List ℕ) (g : List Entry) → IsGroup states symbols g
    → StandsAt line (n * (3 * symbols + 1)) (group_text g)
    → take ((n + 1) * (3 * symbols + 1) - 1) line ≡ take (n * (3 * symbols + 1)) line ++ group_text g
group_after states symbols n line g group begins =
    let at : ℕ = n * (3 * symbols + 1) in
    let end : at + length (group_text g) ≡ (n + 1) * (3 * symbols + 1) - 1 =
    omega (arith, length-group_text g, group.full) in
    rw end at (begins_with line (group_text g) at begins)

pub groups_grow : (states symbols n : ℕ) (line : List ℕ) (gs : List (List Entry)) (g : List Entry)
    → IsTableSoFar states symbols n line gs → IsGroup states symbols g
    → StandsAt line (n * (3 * symbols + 1)) (group_text g) → n * (3 * symbols + 1) ≤ length line
    → (0 < n → get_or line (n * (3 * symbols + 1) - 1) 0 ≡ 95)
    → IsTableSoFar states symbols (n + 1) line (gs ++ g ∷ [])
groups_grow states symbols n line gs g so_far group begins inside bar =
    record {
      count = omega (arith, length-append gs (g ∷ []), so_far.count);
      groups = every-push (IsGroup states symbols) gs g so_far.groups group;
      reads = reads_on gs so_far.count so_far.reads;
    }
  where
    reads_on : (hs : List (List Entry)) → length hs ≡ n → text hs ≡ take (n * (3 * symbols + 1) - 1) line
        → text (hs ++ g ∷ []) ≡ take ((n + 1) * (3 * symbols + 1) - 1) line
    reads_on [] none is =
        let at = ap (λ m. m * (3 * symbols + 1)) (sym none) ∙ zero-mul (3 * symbols + 1) in
        append-nil (group_text g) ∙ sym (rw at at (group_after states symbols n line g group begins))
    reads_on (h ∷ hs) some is =
        let at : ℕ = n * (3 * symbols + 1) in
        let later : 0 < n = omega (arith, some) in
        let before : (at - 1) + 1 ≡ at = omega (arith, later) in
        let last : take at line ≡ take (at - 1) line ++ get_or line (at - 1) 0 ∷ [] =
        rw before at (take_more line (at - 1) 0 (omega (arith, before, inside))) in
        text-push (h ∷ hs) g (omega arith)
        ∙ (ap (λ z. z ++ 95 ∷ group_text g) is
        ∙ (sym (append_assoc (take (at - 1) line) (95 ∷ []) (group_text g))
        ∙ (ap (λ z. (take (at - 1) line ++ z ∷ []) ++ group_text g) (sym (bar later))
        ∙ (ap (λ z. z ++ group_text g) (sym last) ∙ sym (group_after states symbols n line g group begins)))))

pub table_whole : (states symbols : ℕ) (line : List ℕ) (gs : List (List Entry)) → 0 < states
    → states ≤ MAX_STATES → 2 ≤ symbols → symbols ≤ MAX_SYMBOLS
    → length line + 1 ≡ states * (3 * symbols + 1) → IsTableSoFar states symbols states line gs
    → IsTable states symbols gs × (text gs ≡ line)
table_whole states symbols line gs some few two most long so_far =
    let width : symbols_of gs ≡ symbols = first_full gs (omega (arith, some, so_far.count)) so_far.groups in
    let end : states * (3 * symbols + 1) - 1 ≡ length line = omega (arith, long) in (
      record {
        machine = machine_by MAX_STATES MAX_SYMBOLS symbols states gs some few two most so_far.count width
            so_far.groups;
        states_is = so_far.count;
        symbols_is = width;
      },
      so_far.reads ∙ (ap (λ n. take n line) end ∙ take-length line),
    )
  where
    first_full : (hs : List (List Entry)) → 0 < length hs → AllByRecursion (IsGroup states symbols) hs
        → symbols_of hs ≡ symbols
    first_full [] none _ = absurd (omega arith)
    first_full (h ∷ hs) _ groups = groups.0.full

module _ (states symbols : ℕ) (line : List ℕ) (gs : List (List Entry)) (table : IsTable states symbols gs)
    (is : text gs ≡ line) (q : ℕ) (below : q < states) where
  -- a group of a table, where it stands
  pub group_there : (g : List Entry) × IsGroup states symbols g
      × StandsAt line (q * (3 * symbols + 1)) (group_text g)
  group_there = (
    get_or gs q [],
    All-from_recursion (IsGroup states symbols) gs (table_groups gs states symbols table) q []
        (omega (arith, table.states_is, below)),
    (group_read gs line states symbols q table is below).1,
  )

  -- the `_` before it
  pub bar_there : 0 < q → get_or line (q * (3 * symbols + 1) - 1) 0 ≡ 95
  bar_there later =
      rw is at
      (bar_stands states symbols gs q later (omega (arith, table.states_is, below))
      (table_groups gs states symbols table))

module _ (line : List ℕ) where
  -- after the first group's text comes a `_`, or nothing
  pub group_end : (gs : List (List Entry)) → IsMachine gs → text gs ≡ line
      → (length line ≡ 3 * symbols_of gs) ⊎ (get_or line (3 * symbols_of gs) 0 ≡ 95)
  group_end [] machine is = absurd (omega (arith, machine.some_state))
  group_end (g ∷ []) machine is =
      inl (omega (arith, ap length is, ap length (append-nil (group_text g)), length-group_text g))
  group_end (g ∷ h ∷ gs) machine is =
      let end : length (group_text g) + 0 ≡ 3 * length g = omega (arith, length-group_text g) in
      inr
      (ap (λ z. get_or z (3 * length g) 0) (sym is)
      ∙ (ap (λ n. get_or (group_text g ++ tail_text (h ∷ gs)) n 0) (sym end)
      ∙ get_or-append-add (group_text g) (tail_text (h ∷ gs)) 0 0))

  -- an entry begins with `-` or a digit
  first_byte : (e : Entry) → IsEntryOf MAX_STATES MAX_SYMBOLS e → get_or (entry_text e) 0 0 ≢ 95
  first_byte Undefined named is = omega (arith, is)
  first_byte (Go w d n) named is = omega (arith, is, named.0)

  -- inside the first group no entry begins with a `_`
  pub inside_group : (gs : List (List Entry)) → IsMachine gs → text gs ≡ line → (n : ℕ) → n < symbols_of gs
      → (3 * n < length line) × (get_or line (3 * n) 0 ≢ 95)
  inside_group [] machine is n below = absurd (omega arith)
  inside_group (g ∷ gs) machine is n below =
      let begins = entry_stands g line n below (tail_text gs, sym is) in
      let e : Entry = get_or g n Undefined in
      let s : ℕ = length (g ∷ gs) in
      let named = All-from_recursion (IsEntryOf s (length g)) g machine.groups.0.entries n Undefined below in
      let plain = entry_weaker s MAX_STATES (length g) MAX_SYMBOLS machine.states machine.symbols e named in
      let first : get_or line (3 * n) 0 ≡ get_or (entry_text e) 0 0 =
      ap (λ i. get_or line i 0) (sym (add-zero (3 * n))) ∙ sym (get_or-drop (3 * n) line 0 0)
      ∙ ap (λ z. get_or z 0 0) begins.1
      ∙ get_or_append_left (entry_text e) begins.0 0 0 (omega (arith, entry_length e)) in
      let long : 3 * length g ≤ length line =
      omega (arith, ap length is, length-append (group_text g) (tail_text gs), length-group_text g) in
      (omega (arith, long, below), λ bar. first_byte e plain (sym first ∙ bar))
