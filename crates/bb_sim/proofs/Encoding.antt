-- A configuration whose head, and whose cells that aren't 0, are in a stretch of cells, as one number.
use Rattle.std.proofs.Common.{◌≡◌, ◌≢◌, ℕ, zero, suc, ◌+◌, ◌*◌, ◌^◌, ◌<◌, ◌⊎◌, inl, inr, ℤ, pos}
use Rattle.std.proofs.Common.{◌+ℤ◌, ◌-ℤ◌, ◌<ℤ◌, ◌≤ℤ◌, refl, ap, sym, ◌∙◌, arith}
use Rattle.std.proofs.Math.Nat.{pow-succ', pow-zero}
use Rattle.std.proofs.lemmas.Bool.{cases_lt}
use Rattle.std.proofs.lemmas.Int.{ints}
use Rattle.std.proofs.lemmas.Nat.{mul-add-lt}
use Rattle.std.specs.Int.RustNames.{unsigned_abs}
use Rattle.bb_machine.specs.declared.entry.Next.{Next}
use Rattle.bb_machine.specs.declared.entry.Next.TheVariants.{State, Halt}
use Rattle.bb_machine.specs.Entry.{IsNextOf}
use Rattle.bb_tape.specs.Content.{Content, cell}
use Rattle.bb_tape.proofs.Facts.{abs_is, same_content}
use Rattle.bb_sim.specs.Configuration.{Configuration}
use Rattle.bb_sim.proofs.RunLaws.{le_or_gt}

-- of two numbers that are put together as one, the second below m, each is known again
parts : (a b m r s : ℕ) → r < m → s < m → a * m + r ≡ b * m + s → (a ≡ b) × (r ≡ s)
parts zero zero m r s hr hs e = (refl, omega (arith, e))
parts zero (suc b) m r s hr hs e = absurd (omega (arith, hr, e))
parts (suc a) zero m r s hr hs e = absurd (omega (arith, hs, e))
parts (suc a) (suc b) m r s hr hs e =
    let before = parts a b m r s hr hs (omega (arith, e)) in (ap suc before.0, before.1)

module _ (symbols : ℕ) where
  -- the cells from low on, so many of them, as the digits of a number
  digits : Content → ℤ → ℕ → ℕ
  digits content low zero = 0
  digits content low (suc n) = digits content low n * symbols + cell content (low +ℤ pos n)

  digits-below : (content : Content) (low : ℤ) (n : ℕ) → ((p : ℤ) → cell content p < symbols)
      → digits content low n < symbols ^ n
  unfolding digits
  digits-below content low zero few = let power = pow-zero symbols in omega (arith, power)
  digits-below content low (suc n) few =
      let before = digits-below content low n few in
      let power = pow-succ' symbols n in
      let less = mul-add-lt (digits content low n) symbols (cell content (low +ℤ pos n)) (symbols ^ n) before
      (few (low +ℤ pos n)) in
      rw power less

  -- equal numbers are of equal cells
  cells_by_digits : (a b : Content) (low : ℤ) (n : ℕ) → ((p : ℤ) → cell a p < symbols)
      → ((p : ℤ) → cell b p < symbols) → digits a low n ≡ digits b low n
      → (k : ℕ) → k < n → cell a (low +ℤ pos k) ≡ cell b (low +ℤ pos k)
  unfolding digits
  cells_by_digits a b low zero few_a few_b e k less = absurd (omega (arith, less))
  cells_by_digits a b low (suc n) few_a few_b e k less =
      let both = parts (digits a low n) (digits b low n) symbols (cell a (low +ℤ pos n))
      (cell b (low +ℤ pos n)) (few_a (low +ℤ pos n)) (few_b (low +ℤ pos n)) e in
      elim (cases_lt k n) [
        | inl lower ↦ cells_by_digits a b low n few_a few_b both.0 k lower
        | inr last ↦ let same : k ≡ n = omega (arith, less, last) in rw same both.1
      ]

-- p is one of so many positions from low on
pub record IsIn (low : ℤ) (cells : ℕ) (p : ℤ) : Type 0 where
  pub from : low ≤ℤ p
  pub to : p <ℤ (low +ℤ pos cells)

-- how far such a position is from low
pub offset : ℤ → ℤ → ℕ
offset low p = unsigned_abs (p -ℤ low)

offset-is : (low p : ℤ) (cells : ℕ) → IsIn low cells p → low +ℤ pos (offset low p) ≡ p
unfolding offset
offset-is low p cells inside =
    omega (arith, ints, abs_is (p -ℤ low) (omega (arith, ints, inside.from)))

offset-below : (low p : ℤ) (cells : ℕ) → IsIn low cells p → offset low p < cells
offset-below low p cells inside =
    omega (arith, ints, offset-is low p cells inside, inside.to)

-- a position is one of them or not
in_or_out : (low : ℤ) (cells : ℕ) (p : ℤ) → IsIn low cells p ⊎ (IsIn low cells p → ⊥)
in_or_out low cells p = elim (le_or_gt low p) [
  | inl from ↦ elim (le_or_gt (low +ℤ pos cells) p) [
    | inl past ↦ inr (λ inside. let to = inside.to in omega (arith, ints, past, to))
    | inr to ↦ inl (record { from = from; to = to })
  ]
  | inr below ↦ inr (λ inside. let from = inside.from in omega (arith, ints, below, from))
]

module _ (states symbols : ℕ) (low : ℤ) (cells : ℕ) where
  -- such a configuration: its state and its symbols are the machine's, and outside the stretch it is blank
  pub record IsHeld (c : Configuration) : Type 0 where
    pub state : IsNextOf states c.state
    pub symbols_named : (p : ℤ) → cell c.tape p < symbols
    pub blank_outside : (p : ℤ) → (IsIn low cells p → ⊥) → cell c.tape p ≡ 0

  code_of : Next → ℤ → Content → ℕ
  code_of Halt head tape = 0
  code_of (State q) head tape =
      (q * cells + offset low head) * symbols ^ cells + digits symbols tape low cells

  -- the number: its state, where in the stretch its head is, and the cells of the stretch
  pub code : Configuration → ℕ
  code c = code_of c.state c.head c.tape

  pub code-below : (c : Configuration) → IsHeld c → c.state ≢ Halt → IsIn low cells c.head
      → code c < states * cells * symbols ^ cells
  unfolding code code_of
  code-below c held runs inside = by_state c.state refl where
    by_state : (state : Next) → c.state ≡ state → code c < states * cells * symbols ^ cells
    by_state Halt e = absurd (runs e)
    by_state (State q) e =
        let named : q < states = rw e at held.state in
        let near = offset-below low c.head cells inside in
        let place = mul-add-lt q cells (offset low c.head) states named near in
        let read = digits-below symbols c.tape low cells held.symbols_named in
        let whole = mul-add-lt (q * cells + offset low c.head) (symbols ^ cells)
        (digits symbols c.tape low cells) (cells * states) place read in
        rw e (omega (arith, whole))

  -- configurations with one number are one
  pub same_by_code : (a b : Configuration) → IsHeld a → IsHeld b → a.state ≢ Halt → b.state ≢ Halt
      → IsIn low cells a.head → IsIn low cells b.head → code a ≡ code b → a ≡ b
  unfolding code code_of
  same_by_code a b held_a held_b runs_a runs_b inside_a inside_b e = by_states a.state b.state refl refl where
    by_states : (one other : Next) → a.state ≡ one → b.state ≡ other → a ≡ b
    by_states Halt other is_one is_other = absurd (runs_a is_one)
    by_states (State q) Halt is_one is_other = absurd (runs_b is_other)
    by_states (State q) (State r) is_one is_other =
        let codes = sym (ap (λ s. code_of s a.head a.tape) is_one) ∙ e
        ∙ ap (λ s. code_of s b.head b.tape) is_other in
        let read_a = digits-below symbols a.tape low cells held_a.symbols_named in
        let read_b = digits-below symbols b.tape low cells held_b.symbols_named in
        let both = parts (q * cells + offset low a.head) (r * cells + offset low b.head) (symbols ^ cells)
        (digits symbols a.tape low cells) (digits symbols b.tape low cells) read_a read_b codes in
        let places = parts q r cells (offset low a.head) (offset low b.head)
        (offset-below low a.head cells inside_a) (offset-below low b.head cells inside_b) both.0 in
        let states_same : a.state ≡ b.state = is_one ∙ ap State places.0 ∙ sym is_other in
        let heads_same : a.head ≡ b.head =
        sym (offset-is low a.head cells inside_a) ∙ ap (λ k. low +ℤ pos k) places.1
        ∙ offset-is low b.head cells inside_b in
        let tapes_same : a.tape ≡ b.tape = same_content a.tape b.tape (λ p. elim (in_or_out low cells p) [
          | inl inside ↦
              let at = offset-is low p cells inside in
              let equal = cells_by_digits symbols a.tape b.tape low cells held_a.symbols_named
              held_b.symbols_named both.1 (offset low p) (offset-below low p cells inside) in
              rw at at equal
          | inr out ↦ held_a.blank_outside p out ∙ sym (held_b.blank_outside p out)
        ]) in
        ap (λ (c : Next × ℤ × Content). record { state = c.0; head = c.1; tape = c.2 })
        (cc (states_same, heads_same, tapes_same))
