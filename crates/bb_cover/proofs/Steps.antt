-- What one line does to a walk.
use Rattle.std.proofs.Common.{◌≡◌, ◌↔◌, ℕ, ◌+◌, ◌⊎◌, Bool, true, false, List, [], ◌∷◌, ◌++◌}
use Rattle.std.proofs.Common.{Option, Some, None, length, map, min, inr, refl, ap, sym, subst, ◌∙◌, arith}
use Rattle.std.specs.Prelude.{IsTrue, is_some}
use Rattle.bb_machine.specs.Machine.{Table, symbols_of}
use Rattle.bb_cert.specs.declared.verdict.Verdict.{Verdict}
use Rattle.bb_cert.specs.declared.verdict.Verdict.TheVariants.{Undecided}
use Rattle.bb_cert.specs.declared.verdict.reader.Line.TheVariants.{Claim, Refusal}
use Rattle.bb_cert.specs.verdict.Line.{IsLineOf}
use Rattle.bb_cert.proofs.Facts.{line_unique}
use Rattle.laws_of_verdicts.specs.Closed.{VerdictLine, with_entry}
use Rattle.laws_of_verdicts.specs.UndefinedEntry.{HaltsOnUndefined}
use Rattle.laws_of_verdicts.specs.NormalForm.{IsEmpty}
use Rattle.laws_of_verdicts.specs.Walk.{FillsUndefinedBy, HaltsOnOneOf, IsWalk, LeadsTo, entries_of}
use Rattle.bb_cover.specs.declared.found.Stop.{Stop}
use Rattle.bb_cover.specs.declared.found.Why.{Why}
use Rattle.bb_cover.specs.declared.undefined.UndefinedEntry.{UndefinedEntry}
use Rattle.bb_cover.specs.declared.list.CoverProgress.{CoverProgress}
use Rattle.bb_cover.specs.declared.task.Task.{Task}
use Rattle.bb_cover.specs.Counts.{saturated}
use Rattle.bb_cover.specs.CoverProgress.{IsWrong, Stopped, Took, TookBy, Visited}
use Rattle.bb_cover.specs.UndefinedEntries.{IsToFill}
use Rattle.bb_cover.specs.Left.{FillsAt}
use Rattle.bb_cover.proofs.Judging.{one_undefined}

-- lines

pub never_both : (bytes : List ℕ) (table : Table) (verdict : Verdict) (column : ℕ)
    → IsLineOf (Claim table verdict) bytes → IsLineOf (Refusal column) bytes → ⊥
never_both bytes table verdict column one two =
    cc (line_unique (Claim table verdict) (Refusal column) bytes one two)

-- which machines a line leads to

same_test : (a b : Bool) (E : Type 0) → (IsTrue a ↔ E) → (IsTrue b ↔ E) → a ≡ b
same_test true true E one two = refl
same_test false false E one two = refl
same_test true false E one two = let wrong = two.1 (one.0 refl) in cc
same_test false true E one two = let wrong = one.1 (two.0 refl) in cc

fills_once : (table : Table) (q s : ℕ) (a b : List Table) → FillsUndefinedBy table q s a → FillsUndefinedBy table q s b
    → a ≡ b
fills_once table q s a b one two =
    let first = one.uses.least two.states two.symbols two.uses.first in
    let second = two.uses.least one.states one.symbols one.uses.first in
    let states : one.states ≡ two.states = omega (arith, first.0, second.0) in
    let symbols : one.symbols ≡ two.symbols = omega (arith, first.1, second.1) in
    let root = same_test one.is_root two.is_root (IsEmpty table) one.root two.root in
    one.machines
    ∙ (λ i. map (with_entry table q s) (entries_of (root i) (min (length table) (states i + 1))
    (min (symbols_of table) (symbols i + 1))))
    ∙ sym two.machines

-- a machine halts on one gap, whoever says so
one_of_undefined_entries : (line : VerdictLine) (q s i j : ℕ) → HaltsOnOneOf line q s → HaltsOnOneOf line i j
    → (q ≡ i) × (s ≡ j)
one_of_undefined_entries line q s i j one two =
    let both = sym one.says ∙ two.says in
    let same : one.steps ≡ two.steps = cc in
    one_undefined line.table two.steps q s i j (subst (λ n. HaltsOnUndefined line.table n q s) same one.undefined) two.undefined

pub leads_to : (line : VerdictLine) (undefined : Option UndefinedEntry) (more : List Table) → IsToFill line undefined
    → FillsAt line.table undefined more → LeadsTo line more
leads_to line None more fill fills =
    record { filled = λ q s halts. absurd (fill q s halts); none = λ _. fills }
leads_to line (Some undefined) more fill fills = record {
  filled = λ q s halts.
      let same = one_of_undefined_entries line undefined.state undefined.symbol q s fill.0 halts in
      subst (λ j. FillsUndefinedBy line.table q j more) same.1
      (subst (λ i. FillsUndefinedBy line.table i undefined.symbol more) same.0 fills);
  none = λ no. absurd (no undefined.state undefined.symbol fill.0);
}

pub leads_nowhere_else : (line : VerdictLine) (undefined : Option UndefinedEntry) (more other : List Table)
    → IsToFill line undefined → FillsAt line.table undefined more → LeadsTo line other → other ≡ more
leads_nowhere_else line None more other fill fills leads = leads.none fill ∙ sym fills
leads_nowhere_else line (Some undefined) more other fill fills leads =
    fills_once line.table undefined.state undefined.symbol other more (leads.filled undefined.state undefined.symbol fill.0) fills

-- a walk that goes on from a machine, and one that begins with it
pub goes_on : (line : VerdictLine) (undefined : Option UndefinedEntry) (more rest : List Table) → IsToFill line undefined
    → FillsAt line.table undefined more → (tail : List VerdictLine)
    → IsWalk (more ++ rest) tail ↔ IsWalk (line.table ∷ rest) (line ∷ tail)
goes_on line undefined more rest fill fills tail = (
  λ walk. (refl, (more, leads_to line undefined more fill fills, walk)),
  λ walk. subst (λ m. IsWalk (m ++ rest) tail)
      (leads_nowhere_else line undefined more walk.1.0 fill fills walk.1.1) walk.1.2,
)

-- an undecided machine leads to no other
pub undecided_nowhere : (table : Table) (why : _) (more : List Table)
    → LeadsTo (record { table = table; verdict = Undecided why }) more → more ≡ []
undecided_nowhere table why more leads = leads.none (λ q s halts. let says = halts.says in cc)

-- a line of a walk that hasn't stopped

none_of : (stop : Option Stop) → is_some stop ≡ false → stop ≡ None
none_of None e = refl
none_of (Some stop) e = cc

pub took : (task : Task) (old : CoverProgress) (bytes : List ℕ) (new : CoverProgress) → is_some old.stop ≡ false
    → (old.stop ≡ None → Visited task old bytes new ⊎ Stopped task old bytes new)
    → Took task old bytes new
took task old bytes new going did =
    let none = none_of old.stop going in
    subst (λ s. TookBy s task old bytes new) (sym none) (did none)

pub stops : (task : Task) (old : CoverProgress) (bytes : List ℕ) (new : CoverProgress) (why : Why)
    → is_some old.stop ≡ false → IsWrong task old.counts.lines old.size old.walk bytes why
    → new ≡ record old { stop = Some (record { line = saturated (old.counts.read + 1); why = why }) }
    → Took task old bytes new
stops task old bytes new why going wrong is = took task old bytes new going (λ _. inr (record {
  why = why;
  wrong = wrong;
  stop = ap (λ (x : CoverProgress). x.stop) is;
  counts = ap (λ (x : CoverProgress). x.counts) is;
}))
