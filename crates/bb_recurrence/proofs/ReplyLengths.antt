-- How long a reply is, by the length of its line.
use Rattle.std.proofs.Common.{◌≡◌, ℕ, ℤ, pos, negsuc, neg_ℤ, zero, suc, ◌+◌, ◌-◌, ◌*◌, ◌≤◌, ◌^◌, ◌≤ℤ◌}
use Rattle.std.proofs.Common.{Bool, true, false, List, [], ◌∷◌, ◌++◌, length, Option, Some, None, MatchOption}
use Rattle.std.proofs.Common.{refl, ap, inl, inr, codes, decimal, length-append, arith}
use Rattle.std.proofs.lemmas.Fmt.{length-decimal-le, length_signed_le}
use Rattle.std.proofs.lemmas.Int.{ints}
use Rattle.std.specs.Fmt.{signed_decimal}
use Rattle.std.specs.Int.Signed.{mag}
use Rattle.std.specs.List.{AllByRecursion, flat_map}
use Rattle.bb_machine.specs.declared.entry.Entry.{Entry}
use Rattle.bb_machine.specs.declared.entry.Entry.TheVariants.{Undefined, Go}
use Rattle.bb_machine.specs.Limits.{Bounds, IsAccepted}
use Rattle.bb_machine.specs.Machine.{IsGroup, IsMachine, Table, group_text, symbols_of, text}
use Rattle.bb_sim.specs.Run.{Never}
use Rattle.bb_sim.specs.Span.{Inside, counted_head, greatest, least}
use Rattle.bb_sim.specs.Configuration.{start}
use Rattle.bb_sim.proofs.Facts.{cells_between-is, conf-start, span_is_reached}
use Rattle.bb_cert.specs.declared.checker.answer.Answer.{Answer}
use Rattle.bb_cert.specs.declared.checker.answer.Answer.TheVariants as answer
use Rattle.bb_cert.specs.declared.verdict.Verdict.{Verdict}
use Rattle.bb_cert.specs.checker.Answer.{Applies, IsAnswer, Rule, answer_by, answer_text, claim_holds}
use Rattle.bb_cert.specs.verdict.Line.{verdict_text}
use Rattle.bb_cert.specs.claims.Claim.{Claim}
use Rattle.bb_cert.specs.records.Record.{head_at}
use Rattle.bb_cert.proofs.Facts.{head_at-is, runs_before, steps_of_never}
use Rattle.laws_of_recurrence.specs.Recurrence.{CyclersRepeat, RepeatsExactly, TranslatedCyclersRepeat}
use Rattle.laws_of_recurrence.specs.Shift.{IsShift}
use Rattle.laws_of_recurrence.specs.Uses.{IsQuasihalt, TablePart, of_state}
use Rattle.laws_of_recurrence.proofs.Facts.{last_before_start}
use Rattle.bb_recurrence.specs.declared.uses.LastUse.{LastUse}
use Rattle.bb_recurrence.specs.declared.uses.LastUse.TheVariants as last
use Rattle.bb_recurrence.specs.Finding.{NamesPair}
use Rattle.bb_recurrence.specs.Laws.{RecurrenceRepliesAreShort}
use Rattle.bb_recurrence.specs.LastUses.{IsUse, of_entry}
use Rattle.bb_recurrence.specs.Parts.{AreUses, entries_before, row_before, states_before}
use Rattle.bb_recurrence.specs.RecurrenceReply.{AreNumbers, Numbers, entries_text, numbers_text}
use Rattle.bb_recurrence.specs.RecurrenceReply.{printed_entries, quasihalt_text, recurrence_text, use_text, uses_text}
use Rattle.bb_recurrence.proofs.ConfirmedPairs.{IsConfirmed, confirmed}

-- ---- a machine's text

group_length : (g : List Entry) → length (group_text g) ≡ 3 * length g
group_length [] = refl
group_length (Undefined ∷ g) = let rest = group_length g in omega arith
group_length (Go write to state ∷ g) = let rest = group_length g in omega arith

tail_length : (states symbols : ℕ) (gs : Table) → AllByRecursion (IsGroup states symbols) gs
    → length (flat_map (λ g. (95 ∷ []) ++ group_text g) gs) ≡ length gs * (3 * symbols + 1)
tail_length states symbols [] are = omega arith
tail_length states symbols (g ∷ gs) are =
    let rest = tail_length states symbols gs are.1 in
    let both = length-append (group_text g) (flat_map (λ h. (95 ∷ []) ++ group_text h) gs) in
    let full = are.0.full in
    omega (arith, rest, both, group_length g, full)

pub text_length : (gs : Table) → IsMachine gs → length (text gs) + 1 ≡ length gs * (3 * symbols_of gs + 1)
text_length [] machine = let some = machine.some_state in absurd (omega (arith, some))
text_length (g ∷ gs) machine =
    omega (arith, tail_length (length (g ∷ gs)) (symbols_of (g ∷ gs)) (g ∷ gs) machine.groups)

-- ---- the numbers

claim_of : (table : Table) (bounds : Bounds) (verdict : Verdict) (rule : Rule) → answer.Ok ≡ answer_by rule
    → Applies table bounds verdict rule → Claim table verdict
claim_of table bounds verdict claim_holds is applies = applies
claim_of table bounds verdict rule is applies = absurd cc

confirmed_by : CyclersRepeat → TranslatedCyclersRepeat → (table : Table) (bounds : Bounds) (verdict : Verdict)
    (a b : ℕ) → NamesPair verdict a b → IsAnswer table bounds verdict answer.Ok → IsConfirmed table bounds a b
confirmed_by cyclers translated table bounds verdict a b names ok =
    confirmed cyclers translated table bounds verdict a b names ok
    (claim_of table bounds verdict ok.rule ok.is ok.applies)

mag_within : (z : ℤ) (n : ℕ) → neg_ℤ (pos n) ≤ℤ z → z ≤ℤ pos n → mag z ≤ n
mag_within (pos m) n low high = omega (arith, ints)
mag_within (negsuc m) n low high = omega (arith, ints)

-- the head is no farther from the start than the cells of the span
head_within : (table : Table) (bounds : Bounds) (m n : ℕ) → Never table → Inside table bounds n → m ≤ n
    → (neg_ℤ (pos bounds.cells) ≤ℤ head_at table m) × (head_at table m ≤ℤ pos bounds.cells)
head_within table bounds m n never inside before =
    let reached = span_is_reached table n in
    let here = reached.between m (head_at table m) before
    (runs_before table m (suc m) (omega arith) (steps_of_never table never (suc m))) in
    let begun = reached.between 0 (head_at table 0) (omega arith)
    (runs_before table 0 1 (omega arith) (steps_of_never table never 1)) in
    let at_start = head_at-is table 0 start (conf-start table) in
    let ordered : least (counted_head table) n ≤ℤ greatest (counted_head table) n =
    omega (arith, ints, here.0, here.1) in
    let width = cells_between-is (least (counted_head table) n) (greatest (counted_head table) n) ordered in
    let few = inside.within_cells in (
      omega (arith, ints, here.0, here.1, begun.0, begun.1, at_start, width, few),
      omega (arith, ints, here.0, here.1, begun.0, begun.1, at_start, width, few),
    )

five_lengths : (a b c d e : List ℕ) → length (a ++ b ++ c ++ d ++ e)
    ≡ length a + (length b + (length c + (length d + length e)))
five_lengths a b c d e =
    let one = length-append (a ++ b ++ c ++ d) e in
    let two = length-append (a ++ b ++ c) d in
    omega (arith, one, two, length-append (a ++ b) c, length-append a b)

six_lengths : (a b c d e f : List ℕ) → length (a ++ b ++ c ++ d ++ e ++ f)
    ≡ length a + (length b + (length c + (length d + (length e + length f))))
six_lengths a b c d e f =
    let others = five_lengths a b c d e in omega (arith, others, length-append (a ++ b ++ c ++ d ++ e) f)

-- numbers of at most 13 digits, in a reply to a confirmed pair
module _ (table : Table) (bounds : Bounds) (accepted : IsAccepted bounds) (a b : ℕ)
    (pair : IsConfirmed table bounds a b) (start period : ℕ) (exact : RepeatsExactly table start period) where
  few_steps : b ≤ 10 ^ 12
  few_steps =
      let within = pair.inside.within_steps in
      let most = accepted.steps in
      omega (arith, within, most)

  early : start ≤ 10 ^ 12
  early =
      let no_later = exact.least_start a (b - a) pair.repeats in
      let order = pair.order in
      omega (arith, few_steps, no_later, order)

  short : period ≤ 10 ^ 12
  short = let no_more = exact.least_period a (b - a) pair.repeats in omega (arith, few_steps, no_more)

  digits : (n : ℕ) → n ≤ 10 ^ 12 → length (decimal n) ≤ 13
  digits n few = length-decimal-le 13 n (omega arith) (omega (arith, few)) (omega (arith, few))

  shift_length : (shift : ℤ) → IsShift table start period shift → length (signed_decimal shift) ≤ 14
  shift_length shift is =
      let never = exact.repeats.never in
      let no_later = exact.least_start a (b - a) pair.repeats in
      let no_more = exact.least_period a (b - a) pair.repeats in
      let order = pair.order in
      let one = head_within table bounds start b never pair.inside (omega (arith, no_later, order)) in
      let two = head_within table bounds (start + period) b never pair.inside
      (omega (arith, no_later, no_more, order)) in
      let most = accepted.cells in
      let small = mag_within shift (bounds.cells + bounds.cells)
      (omega (arith, ints, one.0, one.1, two.0, two.1, is))
      (omega (arith, ints, one.0, one.1, two.0, two.1, is)) in
      length_signed_le 13 shift (omega (arith, small, most)) (omega (arith, small, most))

  use_length : (part : TablePart) (last_use : LastUse) → IsUse table part last_use → length (use_text last_use) ≤ 13
  use_length part last.Never is = omega arith
  use_length part (last.Step n) is =
      let before = last_before_start table part start period n exact.repeats is in
      digits n (omega (arith, before, early))
  use_length part last.Forever is = omega arith

  uses_length : (parts : List TablePart) (uses : List LastUse) → AreUses table parts uses
      → length (uses_text uses) ≤ 14 * length parts
  uses_length [] [] are = omega arith
  uses_length [] (last_use ∷ uses) are = absurd are
  uses_length (part ∷ parts) [] are = absurd are
  uses_length (part ∷ parts) (last_use ∷ uses) are =
      let one = use_length part last_use are.0 in
      let rest = uses_length parts uses are.1 in
      let both = length-append (codes " " ++ use_text last_use) (uses_text uses) in
      omega (arith, one, rest, both)

  quasihalt_length : (steps : Option ℕ)
      → MatchOption steps ((n : ℕ) → IsQuasihalt table n → ⊥) (λ n. IsQuasihalt table n)
      → length (quasihalt_text steps) ≤ 25
  quasihalt_length None is = omega arith
  quasihalt_length (Some n) is =
      let before = last_before_start table _ start period is.step exact.repeats is.last in
      let ends = is.last_of_steps in
      let few = digits n (omega (arith, before, early, ends)) in
      let both = length-append (codes " quasihalts ") (decimal n) in
      omega (arith, few, both)

  numbers_length : (shift : ℤ) → IsShift table start period shift → length (numbers_text start period shift) ≤ 50
  numbers_length shift is =
      let one = digits start early in
      let two = digits period short in
      let three = shift_length shift is in
      let whole : length (numbers_text start period shift)
      ≡ length (codes " recurs ") + (length (decimal start) + (length (codes " ") + (length (decimal period)
      + (length (codes " ") + length (signed_decimal shift))))) =
      six_lengths (codes " recurs ") (decimal start) (codes " ") (decimal period) (codes " ") (signed_decimal shift) in
      omega (arith, one, two, three, whole)

-- ---- the parts

states_count : (n : ℕ) → length (states_before n) ≡ n
states_count zero = refl
states_count (suc n) = let rest = states_count n in
    omega (arith, rest, length-append (states_before n) (of_state n ∷ []))

row_count : (state n : ℕ) → length (row_before state n) ≡ n
row_count state zero = refl
row_count state (suc n) = let rest = row_count state n in
    omega (arith, rest, length-append (row_before state n) (of_entry state n ∷ []))

entries_count : (symbols n : ℕ) → length (entries_before symbols n) ≡ n * symbols
entries_count symbols zero = omega arith
entries_count symbols (suc n) =
    let rest = entries_count symbols n in
    omega (arith, rest, row_count n symbols, length-append (entries_before symbols n) (row_before n symbols))

printed_count : (entries : Bool) (table : Table)
    → length (printed_entries entries table) ≤ length table * symbols_of table
printed_count false table = omega arith
printed_count true table = omega (arith, entries_count (symbols_of table) (length table))

entries_length : (entries : Bool) (uses : List LastUse) (n : ℕ) → length (uses_text uses) ≤ n
    → length (entries_text entries uses) ≤ n + 8
entries_length false uses n few = omega arith
entries_length true uses n few =
    let both = length-append (codes " entries") (uses_text uses) in omega (arith, few, both)

-- ---- the reply

spread : (states symbols : ℕ) → states * (3 * symbols + 1) ≡ 3 * (states * symbols) + states
spread zero symbols = omega arith
spread (suc states) symbols = let rest = spread states symbols in omega (arith, rest)

twice : (states symbols : ℕ) → 2 ≤ symbols → 2 * states ≤ states * symbols
twice zero symbols two = omega arith
twice (suc states) symbols two = let rest = twice states symbols two in omega (arith, rest, two)

numbers_short : (table : Table) (bounds : Bounds) (entries : Bool) → IsAccepted bounds → (a b : ℕ)
    → IsConfirmed table bounds a b → (numbers : Numbers) → AreNumbers table entries numbers → IsMachine table
    → length (recurrence_text table entries numbers) ≤ 7 * length (text table) + 89
numbers_short table bounds entries accepted a b pair n are machine =
    let numbered = numbers_length table bounds accepted a b pair n.start n.period are.exact n.shift are.shift in
    let used = uses_length table bounds accepted a b pair n.start n.period are.exact
    (states_before (length table)) n.states are.states in
    let halted = quasihalt_length table bounds accepted a b pair n.start n.period are.exact n.quasihalt
    are.quasihalt in
    let entered = uses_length table bounds accepted a b pair n.start n.period are.exact
    (printed_entries entries table) n.entries are.entries in
    let listed = entries_length entries n.entries _ entered in
    let counted = printed_count entries table in
    let states = states_count (length table) in
    let named = text_length table machine in
    let is = spread (length table) (symbols_of table) in
    let wide = twice (length table) (symbols_of table) machine.two_symbols in
    let whole : length (recurrence_text table entries n)
    ≡ length (text table) + (length (numbers_text n.start n.period n.shift) + (length (uses_text n.states)
    + (length (quasihalt_text n.quasihalt) + length (entries_text entries n.entries)))) =
    five_lengths (text table) (numbers_text n.start n.period n.shift) (uses_text n.states)
    (quasihalt_text n.quasihalt) (entries_text entries n.entries) in
    omega (arith, numbered, used, halted, listed, counted, states, named, is, wide, whole)

word_length : (given : Answer) → length (answer_text given) ≤ 4
word_length answer.Ok = omega arith
word_length answer.Bad = omega arith
word_length answer.Over = omega arith
word_length answer.Open = omega arith

pub replies_short : CyclersRepeat → TranslatedCyclersRepeat → RecurrenceRepliesAreShort
replies_short cyclers translated bounds entries line reply accepted (inl r) =
    let pair = confirmed_by cyclers translated r.table bounds r.verdict r.pair.0 r.pair.1 r.pair.2 r.is_ok in
    let few = numbers_short r.table bounds entries accepted _ _ pair r.numbers r.are_numbers r.of.0 in
    let whole = length-append (text r.table) (verdict_text r.verdict) in
    omega (arith, few, whole, ap length r.is_reply, ap length r.of.2)
replies_short cyclers translated bounds entries line reply accepted (inr (inl r)) =
    omega (arith, word_length r.given, ap length r.is_reply)
replies_short cyclers translated bounds entries line reply accepted (inr (inr (inl r))) =
    omega (arith, ap length r.is_reply)
replies_short cyclers translated bounds entries line reply accepted (inr (inr (inr r))) =
    omega (arith, ap length r.is_reply)
