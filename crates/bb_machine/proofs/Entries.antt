-- Where bytes are no entry's text.
use Rattle.std.proofs.Common.{◌≡◌, ◌≢◌, ℕ, ◌+◌, ◌<◌, ◌≤◌, List, [], ◌∷◌, ◌++◌, length, take, drop, get_or}
use Rattle.std.proofs.Common.{refl, sym, ◌∙◌, ap, arith}
use Rattle.std.proofs.lemmas.List.{get_or-take, length-take-le}
use Rattle.std.proofs.lemmas.List.Prefix.{front_reads}
use Rattle.bb_machine.specs.declared.entry.Dir.{Dir}
use Rattle.bb_machine.specs.declared.entry.Dir.TheVariants.{L, R}
use Rattle.bb_machine.specs.declared.entry.Next.{Next}
use Rattle.bb_machine.specs.declared.entry.Next.TheVariants.{Halt}
use Rattle.bb_machine.specs.declared.entry.Entry.{Entry}
use Rattle.bb_machine.specs.declared.entry.Entry.TheVariants.{Undefined, Go}
use Rattle.bb_machine.specs.Entry.{dir_letter, next_letter, entry_text, IsNextOf, IsEntryOf}
use Rattle.bb_machine.specs.Column.{BeginsWith}
use Rattle.bb_machine.specs.inside.Draft.{BeginsEntry, IsEntryStop}

-- a prefix of a list has its elements
reads : (whole bytes : List ℕ) (n i : ℕ) → BeginsWith whole (take (n + 1) bytes) → n < length bytes → i ≤ n
    → get_or whole i 0 ≡ get_or bytes i 0
reads whole bytes n i begins inside low =
    let long : length (take (n + 1) bytes) ≡ n + 1 = length-take-le (n + 1) bytes (omega arith) in
    front_reads 0 whole (take (n + 1) bytes) begins.0 begins.1 i (omega arith)
    ∙ get_or-take (n + 1) bytes i 0 (omega arith)

one : (bytes : List ℕ) → get_or bytes 0 0 ≢ 0 → (take 1 bytes ≡ get_or bytes 0 0 ∷ []) × (1 ≤ length bytes)
one [] some = absurd (some refl)
one (x ∷ bytes) some = (refl, omega arith)

two : (bytes : List ℕ) → get_or bytes 1 0 ≢ 0 → (take 2 bytes ≡ get_or bytes 0 0 ∷ get_or bytes 1 0 ∷ [])
    × (2 ≤ length bytes)
two [] some = absurd (some refl)
two (x ∷ []) some = absurd (some refl)
two (x ∷ y ∷ bytes) some = (refl, omega arith)

-- the first three bytes and the others
pub three : (bytes : List ℕ) → 3 ≤ length bytes
    → bytes ≡ get_or bytes 0 0 ∷ get_or bytes 1 0 ∷ get_or bytes 2 0 ∷ drop 3 bytes
three [] room = absurd (omega arith)
three (x ∷ []) room = absurd (omega arith)
three (x ∷ y ∷ []) room = absurd (omega arith)
three (x ∷ y ∷ z ∷ bytes) room = refl

-- an entry that goes somewhere stands where its letters do
pub letters_make : (bytes : List ℕ) (states symbols w : ℕ) (d : Dir) (n : Next) → 3 ≤ length bytes
    → w < symbols → IsNextOf states n → 48 + w ≡ get_or bytes 0 0 → dir_letter d ≡ get_or bytes 1 0
    → next_letter n ≡ get_or bytes 2 0
    → (e : Entry) × IsEntryOf states symbols e × BeginsWith bytes (entry_text e)
letters_make bytes states symbols w d n room below named first second third =
    let is : bytes ≡ get_or bytes 0 0 ∷ get_or bytes 1 0 ∷ get_or bytes 2 0 ∷ drop 3 bytes =
    three bytes room in
    let letters : get_or bytes 0 0 ∷ get_or bytes 1 0 ∷ get_or bytes 2 0 ∷ drop 3 bytes
    ≡ (48 + w) ∷ dir_letter d ∷ next_letter n ∷ drop 3 bytes = cc in
    (Go w d n, (below, named), (drop 3 bytes, is ∙ letters))

-- the letters of an entry that goes somewhere
pub record HasLetters (bytes : List ℕ) (states symbols : ℕ) : Type 0 where
  pub digit : (w : ℕ) × (w < symbols) × (48 + w ≡ get_or bytes 0 0)
  pub dir : (d : Dir) × (dir_letter d ≡ get_or bytes 1 0)
  pub next : (n : Next) × IsNextOf states n × (next_letter n ≡ get_or bytes 2 0)

pub letters_of : (bytes : List ℕ) (states symbols : ℕ) → get_or bytes 0 0 ≢ 45 → (e : Entry)
    → IsEntryOf states symbols e → BeginsWith bytes (entry_text e) → HasLetters bytes states symbols
letters_of bytes states symbols no_dash Undefined named begins =
    absurd (no_dash (ap (λ x. get_or x 0 0) begins.1))
letters_of bytes states symbols no_dash (Go w d n) named begins =
    record {
      digit = (w, named.0, sym (ap (λ x. get_or x 0 0) begins.1));
      dir = (d, sym (ap (λ x. get_or x 1 0) begins.1));
      next = (n, named.1, sym (ap (λ x. get_or x 2 0) begins.1));
    }

module _ (s k : ℕ) (bytes : List ℕ) where
  -- an entry's text has the first bytes, and the next one
  abbrev Goes : Entry → ℕ → Type 0
  Goes e n = (i : ℕ) → i ≤ n → get_or (entry_text e) i 0 ≡ get_or bytes i 0

  -- the first bytes begin an entry, and with the next one neither `---` nor another
  stop_at : (n : ℕ) → n ≤ length bytes → n < 3 → BeginsEntry s k (take n bytes) → (Goes Undefined n → ⊥)
      → ((w : ℕ) (d : Dir) (x : Next) → w < k → IsNextOf s x → Goes (Go w d x) n → ⊥)
      → IsEntryStop s k bytes n
  stop_at n within part holds dashes letters =
      record {
        within = within;
        part = part;
        holds = holds;
        longest = λ inside more. next more.0 more.1 (λ i low.
            reads (entry_text more.0) bytes n i more.2 inside low);
      }
    where
      next : (e : Entry) → IsEntryOf s k e → Goes e n → ⊥
      next Undefined _ same = dashes same
      next (Go w d x) is same = letters w d x is.0 is.1 same

  -- neither `-` nor a symbol
  pub stop_first : get_or bytes 0 0 ≢ 45 → ((w : ℕ) → w < k → 48 + w ≢ get_or bytes 0 0)
      → IsEntryStop s k bytes 0
  stop_first no_dash no_digit =
      stop_at 0 (omega arith) (omega arith) (Undefined, tt, (entry_text Undefined, refl))
      (λ same. no_dash (sym (same 0 (omega arith))))
      (λ w d x below _ same. no_digit w below (same 0 (omega arith)))

  -- a `-` with no other after it
  pub stop_dash : get_or bytes 0 0 ≡ 45 → get_or bytes 1 0 ≢ 45 → IsEntryStop s k bytes 1
  stop_dash dash no_dash =
      let prefix = one bytes (λ none. omega arith) in
      let is : take 1 bytes ≡ 45 ∷ [] = cc in
      stop_at 1 prefix.1 (omega arith) (Undefined, tt, (45 ∷ 45 ∷ [], ap (λ x. x ++ 45 ∷ 45 ∷ []) (sym is)))
      (λ same. no_dash (sym (same 1 (omega arith))))
      (λ w d x _ _ same. omega (arith, dash, same 0 (omega arith)))

  -- two `-` with no third
  pub stop_dashes : get_or bytes 0 0 ≡ 45 → get_or bytes 1 0 ≡ 45 → get_or bytes 2 0 ≢ 45
      → IsEntryStop s k bytes 2
  stop_dashes dash dashes no_dash =
      let prefix = two bytes (λ none. omega arith) in
      let is : take 2 bytes ≡ 45 ∷ 45 ∷ [] = cc in
      stop_at 2 prefix.1 (omega arith) (Undefined, tt, (45 ∷ [], ap (λ x. x ++ 45 ∷ []) (sym is)))
      (λ same. no_dash (sym (same 2 (omega arith))))
      (λ w d x _ _ same. omega (arith, dash, same 0 (omega arith)))

  -- a symbol with no direction
  pub stop_second : (w : ℕ) → w < k → 48 + w ≡ get_or bytes 0 0
      → ((d : Dir) → dir_letter d ≢ get_or bytes 1 0) → IsEntryStop s k bytes 1
  stop_second w below digit no_dir =
      let prefix = one bytes (λ none. omega arith) in
      let is : take 1 bytes ≡ (48 + w) ∷ [] = cc in
      stop_at 1 prefix.1 (omega arith)
      (Go w L Halt, (below, tt), (76 ∷ 90 ∷ [], ap (λ x. x ++ 76 ∷ 90 ∷ []) (sym is)))
      (λ same. omega (arith, digit, same 0 (omega arith)))
      (λ v d x _ _ same. no_dir d (same 1 (omega arith)))

  -- a symbol and a direction with no state
  pub stop_third : (w : ℕ) (d : Dir) → w < k → 48 + w ≡ get_or bytes 0 0 → dir_letter d ≡ get_or bytes 1 0
      → ((n : Next) → IsNextOf s n → next_letter n ≢ get_or bytes 2 0) → IsEntryStop s k bytes 2
  stop_third w d below digit dir no_next =
      let prefix = two bytes (λ none. dir_some d (dir ∙ none)) in
      let is : take 2 bytes ≡ (48 + w) ∷ dir_letter d ∷ [] = cc in
      stop_at 2 prefix.1 (omega arith)
      (Go w d Halt, (below, tt), (90 ∷ [], ap (λ x. x ++ 90 ∷ []) (sym is)))
      (λ same. omega (arith, digit, same 0 (omega arith)))
      (λ v a x _ next same. no_next x next (same 2 (omega arith)))
    where
      dir_some : (a : Dir) → dir_letter a ≡ 0 → ⊥
      dir_some L none = omega arith
      dir_some R none = omega arith
