-- Why a line has one reply, and how its numbers depend on one another.
use Rattle.std.proofs.Common.{◌≡◌, ℕ, zero, suc, ◌+◌, ◌<◌, ◌≤◌, ◌⊎◌, max, Bool, List, [], ◌∷◌, ◌++◌, length}
use Rattle.std.proofs.Common.{Option, Some, None, MatchOption, inl, inr, refl, sym, ap, subst, ◌∙◌, arith}
use Rattle.std.proofs.lemmas.Bool.{cases_lt}
use Rattle.bb_machine.specs.Limits.{Bounds}
use Rattle.bb_machine.specs.Machine.{IsMachine, Table}
use Rattle.bb_cert.specs.declared.checker.answer.Answer.{Answer}
use Rattle.bb_cert.specs.declared.checker.answer.Answer.TheVariants.{Ok}
use Rattle.bb_cert.specs.declared.verdict.Verdict.{Verdict}
use Rattle.bb_cert.specs.declared.verdict.reader.Line.{Line}
use Rattle.bb_cert.specs.declared.verdict.reader.Line.TheVariants.{Claim}
use Rattle.bb_cert.specs.checker.Answer.{IsAnswer, answer_text}
use Rattle.bb_cert.specs.verdict.Line.{IsLineOf}
use Rattle.bb_sim.specs.Run.{Never}
use Rattle.bb_cert.proofs.Facts.{answer_is_unique, line_unique}
use Rattle.bb_run.specs.CheckKeptBytes.{long_line}
use Rattle.laws_of_recurrence.specs.Uses.{IsLastUse, IsQuasihalt, TablePart, of_state}
use Rattle.laws_of_recurrence.proofs.Facts.{exact_is_unique, kinds_of_use_differ, last_use_is_unique}
use Rattle.laws_of_recurrence.proofs.Facts.{quasihalt_is_unique}
use Rattle.bb_recurrence.specs.declared.uses.LastUse.{LastUse}
use Rattle.bb_recurrence.specs.declared.uses.LastUse.TheVariants as last
use Rattle.bb_recurrence.specs.Finding.{IsPair, NamesNone}
use Rattle.bb_recurrence.specs.LastUses.{IsUse}
use Rattle.bb_recurrence.specs.Laws.{LongLinesAreUnread, NumbersAreUnique, QuasihaltIsGreatestUse}
use Rattle.bb_recurrence.specs.Laws.{RecurrenceReplyIsUnique, steps_past}
use Rattle.bb_recurrence.specs.Parts.{AreUses, states_before}
use Rattle.bb_recurrence.specs.RecurrenceReply.{AreNumbers, ClaimsNoPair, IsNumbersReply}
use Rattle.bb_recurrence.specs.RecurrenceReply.{recurrence_text}
use Rattle.bb_recurrence.proofs.EntryUses.{names_table}
use Rattle.bb_recurrence.proofs.Quasihalts.{below_states}
use Rattle.bb_recurrence.proofs.RecurrenceSummaries.{one_table, one_verdict}

-- ---- one use

use_is_one : (table : Table) (part : TablePart) (a b : LastUse) → IsUse table part a → IsUse table part b → a ≡ b
use_is_one table part last.Never last.Never one two = refl
use_is_one table part last.Never (last.Step n) one two = absurd ((kinds_of_use_differ table part n).0 one two)
use_is_one table part last.Never last.Forever one two = absurd ((kinds_of_use_differ table part 0).1 one two)
use_is_one table part (last.Step n) last.Never one two = absurd ((kinds_of_use_differ table part n).0 two one)
use_is_one table part (last.Step n) (last.Step m) one two =
    ap last.Step (last_use_is_unique table part n m one two)
use_is_one table part (last.Step n) last.Forever one two = absurd ((kinds_of_use_differ table part n).2 one two)
use_is_one table part last.Forever last.Never one two = absurd ((kinds_of_use_differ table part 0).1 two one)
use_is_one table part last.Forever (last.Step n) one two = absurd ((kinds_of_use_differ table part n).2 two one)
use_is_one table part last.Forever last.Forever one two = refl

uses_are_one : (table : Table) (parts : List TablePart) (a b : List LastUse) → AreUses table parts a
    → AreUses table parts b → a ≡ b
uses_are_one table [] [] [] one two = refl
uses_are_one table [] [] (y ∷ b) one two = absurd two
uses_are_one table [] (x ∷ a) b one two = absurd one
uses_are_one table (part ∷ parts) [] b one two = absurd one
uses_are_one table (part ∷ parts) (x ∷ a) [] one two = absurd two
uses_are_one table (part ∷ parts) (x ∷ a) (y ∷ b) one two =
    ap (λ (z : LastUse). z ∷ a) (use_is_one table part x y one.0 two.0)
    ∙ ap (λ (z : List LastUse). y ∷ z) (uses_are_one table parts a b one.1 two.1)

abbrev pub IsPrintedQuasihalt : Table → Option ℕ → Type 0
IsPrintedQuasihalt table quasihalt =
    MatchOption quasihalt ((steps : ℕ) → IsQuasihalt table steps → ⊥) (λ steps. IsQuasihalt table steps)

quasihalt_is_one : (table : Table) (a b : Option ℕ) → IsPrintedQuasihalt table a → IsPrintedQuasihalt table b
    → a ≡ b
quasihalt_is_one table None None one two = refl
quasihalt_is_one table None (Some m) one two = absurd (one m two)
quasihalt_is_one table (Some n) None one two = absurd (two n one)
quasihalt_is_one table (Some n) (Some m) one two = ap Some (quasihalt_is_unique table n m one two)

-- ---- one text

pub numbers_are_unique : NumbersAreUnique
numbers_are_unique table entries a b one two =
    let exact = exact_is_unique table a.start a.period b.start b.period one.exact two.exact in
    let shift : a.shift ≡ b.shift = (let s = one.shift in let t = two.shift in
    rw (exact.0, exact.1) at s ∙ sym t) in
    let states = uses_are_one table _ a.states b.states one.states two.states in
    let quasihalt = quasihalt_is_one table a.quasihalt b.quasihalt one.quasihalt two.quasihalt in
    let used = uses_are_one table _ a.entries b.entries one.entries two.entries in
    rw (exact.0, exact.1, shift, states, quasihalt, used) refl

-- ---- one reply

module _ (bounds : Bounds) (line : List ℕ) (s t : Table) (v w : Verdict) (one : IsLineOf (Claim s v) line)
    (two : IsLineOf (Claim t w) line) where
  -- a pair is confirmed or not
  one_answer : (a b : Answer) → IsAnswer s bounds v a → IsAnswer t bounds w b → a ≡ b
  one_answer a b is_a is_b =
      let e = one_table line s t v w one two in
      let f = one_verdict line s t v w one two in
      answer_is_unique t bounds w a b (rw (e, f) at is_a) is_b

-- and a line claims one thing
no_pair_of : (line : List ℕ) (table : Table) (verdict : Verdict) (said : Line) → IsLineOf (Claim table verdict) line
    → IsPair verdict → IsLineOf said line → ClaimsNoPair said → ⊥
no_pair_of line table verdict said of pair of_said none =
    let same : said ≡ Claim table verdict = line_unique said (Claim table verdict) line of_said of in
    let never : NamesNone verdict = subst ClaimsNoPair same none in
    never pair.0 pair.1 pair.2

same_numbers : (bounds : Bounds) (entries : Bool) (line a b : List ℕ) → IsNumbersReply bounds entries line a
    → IsNumbersReply bounds entries line b → a ≡ b
same_numbers bounds entries line a b p q =
    let same = one_table line p.table q.table p.verdict q.verdict p.of q.of in
    let of : AreNumbers q.table entries p.numbers = rw same at p.are_numbers in
    p.is_reply ∙ ap (λ (t : Table). recurrence_text t entries p.numbers) same
    ∙ numbers_are_unique q.table entries p.numbers q.numbers of q.are_numbers ∙ sym q.is_reply

pub recurrence_reply_is_unique : RecurrenceReplyIsUnique
recurrence_reply_is_unique bounds entries line a b (inl p) (inl q) = same_numbers bounds entries line a b p q
recurrence_reply_is_unique bounds entries line a b (inl p) (inr (inl q)) =
    absurd (q.not_ok (one_answer bounds line q.table p.table q.verdict p.verdict q.of p.of q.given Ok q.is_answer
    p.is_ok))
recurrence_reply_is_unique bounds entries line a b (inl p) (inr (inr (inl q))) =
    absurd (no_pair_of line p.table p.verdict q.said p.of p.pair q.of q.no_pair)
recurrence_reply_is_unique bounds entries line a b (inl p) (inr (inr (inr q))) =
    absurd (q.no_line (Claim p.table p.verdict) p.of)
recurrence_reply_is_unique bounds entries line a b (inr (inl p)) (inl q) =
    absurd (p.not_ok (one_answer bounds line p.table q.table p.verdict q.verdict p.of q.of p.given Ok p.is_answer
    q.is_ok))
recurrence_reply_is_unique bounds entries line a b (inr (inl p)) (inr (inl q)) =
    p.is_reply ∙ ap answer_text (one_answer bounds line p.table q.table p.verdict q.verdict p.of q.of p.given q.given
    p.is_answer q.is_answer) ∙ sym q.is_reply
recurrence_reply_is_unique bounds entries line a b (inr (inl p)) (inr (inr (inl q))) =
    absurd (no_pair_of line p.table p.verdict q.said p.of p.pair q.of q.no_pair)
recurrence_reply_is_unique bounds entries line a b (inr (inl p)) (inr (inr (inr q))) =
    absurd (q.no_line (Claim p.table p.verdict) p.of)
recurrence_reply_is_unique bounds entries line a b (inr (inr (inl p))) (inl q) =
    absurd (no_pair_of line q.table q.verdict p.said q.of q.pair p.of p.no_pair)
recurrence_reply_is_unique bounds entries line a b (inr (inr (inl p))) (inr (inl q)) =
    absurd (no_pair_of line q.table q.verdict p.said q.of q.pair p.of p.no_pair)
recurrence_reply_is_unique bounds entries line a b (inr (inr (inl p))) (inr (inr (inl q))) =
    p.is_reply ∙ sym q.is_reply
recurrence_reply_is_unique bounds entries line a b (inr (inr (inl p))) (inr (inr (inr q))) =
    absurd (q.no_line p.said p.of)
recurrence_reply_is_unique bounds entries line a b (inr (inr (inr p))) (inl q) =
    absurd (p.no_line (Claim q.table q.verdict) q.of)
recurrence_reply_is_unique bounds entries line a b (inr (inr (inr p))) (inr (inl q)) =
    absurd (p.no_line (Claim q.table q.verdict) q.of)
recurrence_reply_is_unique bounds entries line a b (inr (inr (inr p))) (inr (inr (inl q))) =
    absurd (p.no_line q.said q.of)
recurrence_reply_is_unique bounds entries line a b (inr (inr (inr p))) (inr (inr (inr q))) =
    p.is_reply ∙ sym q.is_reply

pub long_lines_are_unread : LongLinesAreUnread
long_lines_are_unread bounds entries line reply long (inl p) =
    absurd (long_line line long (Claim p.table p.verdict) p.of)
long_lines_are_unread bounds entries line reply long (inr (inl p)) =
    absurd (long_line line long (Claim p.table p.verdict) p.of)
long_lines_are_unread bounds entries line reply long (inr (inr (inl p))) = absurd (long_line line long p.said p.of)
long_lines_are_unread bounds entries line reply long (inr (inr (inr p))) = p.is_reply

-- ---- the greatest last use

-- a part is one of these
abbrev pub HasPart : TablePart → List TablePart → Type 0
HasPart part [] = ⊥
HasPart part (other ∷ parts) = (part ≡ other) ⊎ HasPart part parts

has_left : (part : TablePart) (a b : List TablePart) → HasPart part a → HasPart part (a ++ b)
has_left part [] b has = absurd has
has_left part (other ∷ a) b (inl same) = inl same
has_left part (other ∷ a) b (inr has) = inr (has_left part a b has)

has_right : (part : TablePart) (a b : List TablePart) → HasPart part b → HasPart part (a ++ b)
has_right part [] b has = has
has_right part (other ∷ a) b has = inr (has_right part a b has)

has_state : (k q : ℕ) → q < k → HasPart (of_state q) (states_before k)
has_state zero q below = absurd (omega (arith, below))
has_state (suc k) q below = elim (cases_lt q k) [
  | inl less ↦ has_left (of_state q) (states_before k) (of_state k ∷ []) (has_state k q less)
  | inr more ↦
      let same : q ≡ k = omega (arith, below, more) in
      has_right (of_state q) (states_before k) (of_state k ∷ []) (inl (ap of_state same))
]

-- all of these are states
abbrev pub AreStates : List TablePart → Type 0
AreStates [] = Unit {0}
AreStates (part ∷ parts) = ((q : ℕ) × (part ≡ of_state q)) × AreStates parts

states_both : (a b : List TablePart) → AreStates a → AreStates b → AreStates (a ++ b)
states_both [] b one two = two
states_both (part ∷ a) b one two = (one.0, states_both a b one.1 two)

are_states : (k : ℕ) → AreStates (states_before k)
are_states zero = tt
are_states (suc k) = states_both (states_before k) (of_state k ∷ []) (are_states k) ((k, refl), tt)

no_less : (x : LastUse) (uses : List LastUse) → steps_past uses ≤ steps_past (x ∷ uses)
no_less last.Never uses = omega arith
no_less (last.Step n) uses = omega arith
no_less last.Forever uses = omega arith

first_past : (table : Table) (part : TablePart) (x : LastUse) (uses : List LastUse) (m : ℕ) → IsUse table part x
    → IsLastUse table part m → m < steps_past (x ∷ uses)
first_past table part last.Never uses m is last = absurd ((kinds_of_use_differ table part m).0 is last)
first_past table part (last.Step n) uses m is last =
    let same = last_use_is_unique table part n m is last in
    omega (arith, same)
first_past table part last.Forever uses m is last = absurd ((kinds_of_use_differ table part m).2 last is)

-- each last use is before
past_each : (table : Table) (parts : List TablePart) (uses : List LastUse) (part : TablePart) (m : ℕ)
    → AreUses table parts uses → HasPart part parts → IsLastUse table part m → m < steps_past uses
past_each table [] uses part m are has last = absurd has
past_each table (other ∷ parts) [] part m are has last = absurd are
past_each table (other ∷ parts) (x ∷ uses) part m are (inl same) last =
    first_past table other x uses m are.0 (subst (λ (p : TablePart). IsLastUse table p m) same last)
past_each table (other ∷ parts) (x ∷ uses) part m are (inr has) last =
    let before = past_each table parts uses part m are.1 has last in
    let more = no_less x uses in
    omega (arith, before, more)

-- and some is reached
abbrev pub IsReached : Table → ℕ → Type 0
IsReached table steps = (steps ≡ 0) ⊎ ((q : ℕ) × (m : ℕ) × (steps ≡ m + 1) × IsLastUse table (of_state q) m)

reached_first : (table : Table) (q : ℕ) (x : LastUse) (uses : List LastUse) → IsUse table (of_state q) x
    → IsReached table (steps_past uses) → IsReached table (steps_past (x ∷ uses))
reached_first table q last.Never uses is reached = reached
reached_first table q last.Forever uses is reached = reached
reached_first table q (last.Step n) uses is reached = elim (cases_lt (steps_past uses) (n + 1)) [
  | inl less ↦ inr (q, n, omega (arith, less), is)
  | inr more ↦
      let same : max (n + 1) (steps_past uses) ≡ steps_past uses = omega (arith, more) in
      rw same reached
]

reached_of : (table : Table) (parts : List TablePart) (uses : List LastUse) → AreStates parts
    → AreUses table parts uses → IsReached table (steps_past uses)
reached_of table [] [] states are = inl refl
reached_of table [] (x ∷ uses) states are = absurd are
reached_of table (part ∷ parts) [] states are = absurd are
reached_of table (part ∷ parts) (x ∷ uses) states are =
    reached_first table states.0.0 x uses (subst (λ (p : TablePart). IsUse table p x) states.0.1 are.0)
    (reached_of table parts uses states.1 are.1)

-- so it is that number
greatest : (table : Table) → IsMachine table → Never table → (quasihalt : Option ℕ) (uses : List LastUse)
    → AreUses table (states_before (length table)) uses → IsPrintedQuasihalt table quasihalt
    → MatchOption quasihalt (steps_past uses ≡ 0) (λ steps. (0 < steps) × (steps ≡ steps_past uses))
greatest table machine never quasihalt uses are is = go quasihalt is where
  reached : IsReached table (steps_past uses)
  reached = reached_of table (states_before (length table)) uses (are_states (length table)) are

  before : (q m : ℕ) → IsLastUse table (of_state q) m → m < steps_past uses
  before q m last =
      let named = names_table table machine m last.used.transition last.used.at in
      past_each table (states_before (length table)) uses (of_state q) m are
      (has_state (length table) q (below_states (length table) q last.used.transition.state last.used.is_in named.0))
      last

  go : (quasihalt : Option ℕ) → IsPrintedQuasihalt table quasihalt
      → MatchOption quasihalt (steps_past uses ≡ 0) (λ steps. (0 < steps) × (steps ≡ steps_past uses))
  go None none = elim reached [
    | inl zero_steps ↦ zero_steps
    | inr found ↦ absurd (none (steps_past uses) (record {
      never = never;
      state = found.0;
      step = found.1;
      last_of_steps = found.2;
      last = found.3;
      latest = before;
    }))
  ]
  go (Some steps) is =
      let is_steps = is.last_of_steps in
      let low = before is.state is.step is.last in (
        omega (arith, is_steps),
        elim reached [
          | inl none ↦ absurd (omega (arith, low, none))
          | inr found ↦
              let latest = is.latest found.0 found.1 found.3 in
              let e = found.2 in
              omega (arith, is_steps, low, latest, e)
        ],
      )

pub quasihalt_is_greatest_use : QuasihaltIsGreatestUse
quasihalt_is_greatest_use table entries numbers machine are =
    greatest table machine are.exact.repeats.never numbers.quasihalt numbers.states are.states are.quasihalt
