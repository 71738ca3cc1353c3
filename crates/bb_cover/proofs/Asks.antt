-- The entries with which a walk goes on, by their places.
use Rattle.std.proofs.Common.{◌≡◌, ℕ, zero, suc, ◌+◌, ◌-◌, ◌*◌, ◌/◌, ◌%◌, ◌<◌, ◌≤◌, Bool, true, false, cond}
use Rattle.std.proofs.Common.{[]}
use Rattle.std.proofs.Common.{◌∷◌, ◌++◌, length, get_or, inl, inr, refl, ap, sym, subst, ◌∙◌, arith}
use Rattle.std.proofs.Common.{length-append}
use Rattle.std.proofs.lemmas.Bool.{cases_eq, cases_lt}
use Rattle.std.proofs.lemmas.List.{get_or_append_left, get_or-append_right, get_or_push}
use Rattle.std.proofs.Math.Nat.{mul-le-mul_left}
use Rattle.bb_machine.specs.declared.entry.Dir.{Dir}
use Rattle.bb_machine.specs.declared.entry.Dir.TheVariants as dir
use Rattle.bb_machine.specs.declared.entry.Entry.{Entry}
use Rattle.bb_machine.specs.declared.entry.Entry.TheVariants.{Undefined, Go}
use Rattle.bb_machine.specs.declared.entry.Next.TheVariants.{State}
use Rattle.laws_of_verdicts.specs.Walk.{entries_of, entries_to, entries_with}

-- the entry leads to a state
pub record LeadsOn (entry : Entry) : Type 0 where
  pub write : ℕ
  pub move : Dir
  pub to : ℕ
  pub is : entry ≡ Go write move (State to)

length-entries_to : (write : ℕ) (move : Dir) (states : ℕ) → length (entries_to write move states) ≡ states
length-entries_to write move zero = refl
length-entries_to write move (suc n) =
    let rest = length-entries_to write move n in
    length-append (entries_to write move n) (Go write move (State n) ∷ []) ∙ omega (arith, rest)

entry_to : (write : ℕ) (move : Dir) (states to : ℕ) → to < states
    → get_or (entries_to write move states) to Undefined ≡ Go write move (State to)
entry_to write move zero to less = absurd (omega (arith, less))
entry_to write move (suc n) to less =
    let long = length-entries_to write move n in
    elim (cases_eq to n) [
      | inl same ↦ subst (λ k. get_or (entries_to write move n ++ Go write move (State n) ∷ []) k Undefined
          ≡ Go write move (State k)) (sym same)
          (get_or_push (entries_to write move n) (Go write move (State n)) Undefined n long)
      | inr apart ↦
          let low : to < n = omega (arith, less, apart) in
          get_or_append_left (entries_to write move n) (Go write move (State n) ∷ []) Undefined to
          (omega (arith, low, long))
          ∙ entry_to write move n to low
    ]

abbrev pub width : Bool → ℕ → ℕ
width is_root states = cond is_root states (states + states)

width_between : (is_root : Bool) (states : ℕ)
    → (states ≤ width is_root states) × (width is_root states ≤ states + states)
width_between true states = (omega arith, omega arith)
width_between false states = (omega arith, omega arith)

length-entries_with : (is_root : Bool) (states write : ℕ)
    → length (entries_with is_root states write) ≡ width is_root states
length-entries_with true states write =
    let right = length-entries_to write dir.R states in
    length-append (entries_to write dir.R states) [] ∙ omega (arith, right)
length-entries_with false states write =
    let right = length-entries_to write dir.R states in
    let left = length-entries_to write dir.L states in
    length-append (entries_to write dir.R states) (entries_to write dir.L states) ∙ omega (arith, right, left)

entry_right : (is_root : Bool) (states write place : ℕ) → place < states
    → get_or (entries_with is_root states write) place Undefined ≡ Go write dir.R (State place)
entry_right is_root states write place low =
    get_or_append_left (entries_to write dir.R states) (cond is_root [] (entries_to write dir.L states))
    Undefined place (omega (arith, length-entries_to write dir.R states, low))
    ∙ entry_to write dir.R states place low

entry_left : (is_root : Bool) (states write place : ℕ) → states ≤ place → place < width is_root states
    → get_or (entries_with is_root states write) place Undefined ≡ Go write dir.L (State (place - states))
entry_left true states write place high low = absurd (omega (arith, high, low))
entry_left false states write place high low =
    let long = length-entries_to write dir.R states in
    get_or-append_right (entries_to write dir.R states) (entries_to write dir.L states) states place Undefined
    long high
    ∙ entry_to write dir.L states (place - states) (omega (arith, high, low))

pub length-entries_of : (is_root : Bool) (states symbols : ℕ)
    → length (entries_of is_root states symbols) ≡ symbols * width is_root states
length-entries_of is_root states zero = omega arith
length-entries_of is_root states (suc k) =
    let rest = length-entries_of is_root states k in
    let last = length-entries_with is_root states k in
    length-append (entries_of is_root states k) (entries_with is_root states k) ∙ omega (arith, rest, last)

-- the one at so many whole widths and a place
entry_at : (is_root : Bool) (states symbols write place : ℕ) → write < symbols
    → place < width is_root states
    → get_or (entries_of is_root states symbols) (write * width is_root states + place) Undefined
    ≡ get_or (entries_with is_root states write) place Undefined
entry_at is_root states zero write place less low = absurd (omega (arith, less))
entry_at is_root states (suc k) write place less low =
    let long = length-entries_of is_root states k in
    let w = width is_root states in
    elim (cases_eq write k) [
      | inl same ↦
          let here : w * write ≡ w * k = ap (λ n. w * n) same in
          let past : write * w + place - k * w ≡ place = omega (arith, here) in
          get_or-append_right (entries_of is_root states k) (entries_with is_root states k) (k * w)
          (write * w + place) Undefined long (omega (arith, here))
          ∙ ap (λ n. get_or (entries_with is_root states k) n Undefined) past
          ∙ ap (λ n. get_or (entries_with is_root states n) place Undefined) (sym same)
      | inr apart ↦
          let low_too : write + 1 ≤ k = omega (arith, less, apart) in
          let fits : w * (write + 1) ≤ w * k = mul-le-mul_left w low_too in
          get_or_append_left (entries_of is_root states k) (entries_with is_root states k) Undefined
          (write * w + place) (omega (arith, long, fits, low))
          ∙ entry_at is_root states k write place (omega (arith, less, apart)) low
    ]

-- by an index

module _ (is_root : Bool) (states symbols index : ℕ)
    (inside : index < length (entries_of is_root states symbols)) where
  pub some_width : 0 < width is_root states
  some_width = elim (cases_eq (width is_root states) 0) [
    | inl none ↦
        let zero_long : symbols * width is_root states ≡ symbols * 0 = ap (λ n. symbols * n) none in
        absurd (omega (arith, inside, length-entries_of is_root states symbols, zero_long))
    | inr some ↦ omega (arith, some)
  ]

  pub few_writes : index / width is_root states < symbols
  few_writes = elim (cases_lt (index / width is_root states) symbols) [
    | inl less ↦ less
    | inr more ↦
        let w = width is_root states in
        let fits : w * symbols ≤ w * (index / w) = mul-le-mul_left w more in
        absurd (omega (arith, inside, length-entries_of is_root states symbols, fits, some_width))
  ]

  split : get_or (entries_of is_root states symbols) index Undefined
      ≡ get_or (entries_with is_root states (index / width is_root states)) (index % width is_root states)
      Undefined
  split =
      let w = width is_root states in
      let parts : index ≡ index / w * w + index % w = omega (arith, some_width) in
      ap (λ n. get_or (entries_of is_root states symbols) n Undefined) parts
      ∙ entry_at is_root states symbols (index / w) (index % w) few_writes (omega (arith, some_width))

  pub by_index_right : index % width is_root states < states
      → Go (index / width is_root states) dir.R (State (index % width is_root states))
      ≡ get_or (entries_of is_root states symbols) index Undefined
  by_index_right low =
      sym (split
      ∙ entry_right is_root states (index / width is_root states) (index % width is_root states) low)

  pub by_index_left : states ≤ index % width is_root states
      → Go (index / width is_root states) dir.L (State (index % width is_root states - states))
      ≡ get_or (entries_of is_root states symbols) index Undefined
  by_index_left high =
      sym (split
      ∙ entry_left is_root states (index / width is_root states) (index % width is_root states) high
      (omega (arith, some_width)))

  pub few_places : index % width is_root states < states + states
  few_places =
      let low : index % width is_root states < width is_root states = omega (arith, some_width) in
      omega (arith, low, (width_between is_root states).1)

  pub leads_on : LeadsOn (get_or (entries_of is_root states symbols) index Undefined)
  leads_on = elim (cases_lt (index % width is_root states) states) [
    | inl low ↦ record { write = _; move = _; to = _; is = sym (by_index_right low) }
    | inr high ↦ record { write = _; move = _; to = _; is = sym (by_index_left high) }
  ]

pub some_entries : (is_root : Bool) (states symbols : ℕ) → 0 < states → 0 < symbols
    → 0 < length (entries_of is_root states symbols)
some_entries is_root states symbols some some_too =
    let one : width is_root states * 1 ≤ width is_root states * symbols =
    mul-le-mul_left (width is_root states) (omega (arith, some_too)) in
    omega (arith, length-entries_of is_root states symbols, (width_between is_root states).0, one, some)

pub few_entries : (is_root : Bool) (states symbols : ℕ) → states ≤ 25 → symbols ≤ 10
    → length (entries_of is_root states symbols) ≤ 500
few_entries is_root states symbols few few_too =
    let fits : symbols * width is_root states ≤ symbols * 50 =
    mul-le-mul_left symbols (omega (arith, (width_between is_root states).1, few)) in
    omega (arith, length-entries_of is_root states symbols, fits, few_too)
