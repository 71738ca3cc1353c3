-- Which verdicts may stand in a list, and on which `---` their machines halt.
use Rattle.std.proofs.Common.{◌≡◌, ℕ, ◌<◌, ◌≤◌, true, false, Option, Some, None, inl, inr, refl, sym, subst}
use Rattle.std.proofs.Common.{ap, ◌∙◌, arith}
use Rattle.std.proofs.lemmas.Bool.{cases_lt}
use Rattle.bb_machine.specs.Limits.{Bounds}
use Rattle.bb_machine.specs.Machine.{Table}
use Rattle.bb_sim.specs.Configuration.{Configuration}
use Rattle.bb_sim.specs.Run.{HaltsAt}
use Rattle.bb_sim.specs.Span.{Inside, span}
use Rattle.bb_cert.proofs.Facts.{answer_is_unique}
use Rattle.bb_tape.specs.Content.{cell}
use Rattle.bb_cert.specs.declared.checker.answer.Answer.{Answer}
use Rattle.bb_cert.specs.declared.checker.answer.Answer.TheVariants as answer
use Rattle.bb_cert.specs.declared.verdict.Verdict.{Verdict}
use Rattle.bb_cert.specs.declared.verdict.Verdict.TheVariants.{Halt, Undecided}
use Rattle.bb_cert.specs.claims.Claim.{Claim}
use Rattle.bb_cert.specs.checker.Answer.{Applies, IsAnswer, IsUndecided, Rule, answer_by, is_fine, rank}
use Rattle.bb_cert.specs.checker.Answer.{undecided, too_much_named, out_of_order, too_much_needed}
use Rattle.bb_cert.specs.checker.Answer.{claim_holds}
use Rattle.laws_of_verdicts.specs.UndefinedEntry.{HaltsOnUndefined, HasOtherUndefined}
use Rattle.bb_cover.specs.declared.undefined.UndefinedEntry.{UndefinedEntry}
use Rattle.bb_cover.specs.declared.halt.Halted.{Halted}
use Rattle.bb_cover.specs.Claims.{IsFineClaim, IsOneOf}
use Rattle.bb_cover.specs.UndefinedEntries.{HaltsOn, IsToFill}
use Rattle.bb_cover.specs.Halts.{EndsSo}

-- a halt that a run makes is confirmed
pub halt_is_ok : (table : Table) (bounds : Bounds) (steps score : ℕ) (halted : Halted)
    → EndsSo table bounds steps halted → halted.score ≡ score
    → IsAnswer table bounds (Halt steps score) answer.Ok
halt_is_ok table bounds steps score halted ends same = record {
  rule = claim_holds;
  is = refl;
  applies = subst (λ n. Claim table (Halt steps n)) same (ends.halts, ends.scores);
  first = first;
} where
  first : (other : Rule) → Applies table bounds (Halt steps score) other → rank claim_holds ≤ rank other
  first undecided applies = absurd applies
  first too_much_named applies = let few = ends.inside.within_steps in absurd (omega (arith, few, applies))
  first out_of_order applies = absurd applies
  first too_much_needed applies = let few = ends.inside.within_cells in absurd (omega (arith, few, applies))
  first other applies = omega arith

-- what the answer `ok` says of a halt
pub record OkHalt (table : Table) (bounds : Bounds) (steps score : ℕ) : Type 0 where
  pub claim : Claim table (Halt steps score)
  pub few_steps : steps ≤ bounds.steps
  pub few_cells : span table steps ≤ bounds.cells

not_more : (n k : ℕ) → (k < n → ⊥) → n ≤ k
not_more n k not = elim (cases_lt k n) [ inl more ↦ absurd (not more) | inr few ↦ few ]

by_rule : (table : Table) (bounds : Bounds) (steps score : ℕ) (rule : Rule) → answer.Ok ≡ answer_by rule
    → Applies table bounds (Halt steps score) rule
    → ((other : Rule) → Applies table bounds (Halt steps score) other → rank rule ≤ rank other)
    → OkHalt table bounds steps score
by_rule table bounds steps score claim_holds is applies first = record {
  claim = applies;
  few_steps = not_more steps bounds.steps (λ more. let low = first too_much_named more in omega (arith, low));
  few_cells = not_more (span table steps) bounds.cells
      (λ more. let low = first too_much_needed more in omega (arith, low));
}
by_rule table bounds steps score rule is applies first = cc

pub ok_halt : (table : Table) (bounds : Bounds) (steps score : ℕ)
    → IsAnswer table bounds (Halt steps score) answer.Ok → OkHalt table bounds steps score
ok_halt table bounds steps score is = by_rule table bounds steps score is.rule is.is is.applies is.first

-- a run that doesn't halt just then refutes it
pub not_there : (table : Table) (bounds : Bounds) (steps score : ℕ)
    → (HaltsAt table steps → Inside table bounds steps → ⊥)
    → IsAnswer table bounds (Halt steps score) answer.Ok → ⊥
not_there table bounds steps score none is =
    let ok = ok_halt table bounds steps score is in
    let halts = ok.claim.0 in
    none halts (record {
      here = halts.last;
      exists = halts.exists;
      within_steps = ok.few_steps;
      within_cells = ok.few_cells;
    })

-- a fine verdict claims what holds
pub fine_claim : (bounds : Bounds) (table : Table) (verdict : Verdict) → IsFineClaim bounds table verdict
    → Claim table verdict
fine_claim bounds table verdict fine = by fine.is_answer.rule fine.is_answer.applies
    (sym (ap is_fine fine.is_answer.is) ∙ fine.fine)
  where
    nothing : (verdict : Verdict) → IsUndecided verdict → Claim table verdict
    nothing (Undecided why) is = tt
    nothing verdict is = absurd is

    by : (rule : Rule) → Applies table bounds verdict rule → is_fine (answer_by rule) ≡ true
        → Claim table verdict
    by undecided applies e = nothing verdict applies
    by claim_holds applies e = applies
    by rule applies e = cc

-- no two answers to a verdict are fine and not
pub fine_or_not : (bounds : Bounds) (table : Table) (verdict : Verdict) → IsFineClaim bounds table verdict
    → (given : Answer) → IsAnswer table bounds verdict given → is_fine given ≡ false → ⊥
fine_or_not bounds table verdict fine given is not =
    let same = answer_is_unique table bounds verdict fine.given given fine.is_answer is in
    let one = fine.fine in
    let both : true ≡ false = sym one ∙ ap is_fine same ∙ not in
    cc

-- a `---` on which the machine halts is one of several, or none is

pub one_undefined : (table : Table) (n q s i j : ℕ) → HaltsOnUndefined table n q s → HaltsOnUndefined table n i j
    → (q ≡ i) × (s ≡ j)
one_undefined table n q s i j undefined undefined_too =
    let same : undefined.last ≡ undefined_too.last = cc in
    let states = sym undefined.in_state ∙ ap (λ (x : Configuration). x.state) same ∙ undefined_too.in_state in
    (cc, sym undefined.at_symbol ∙ ap (λ (x : Configuration). cell x.tape x.head) same ∙ undefined_too.at_symbol)

pub to_fill : (table : Table) (steps score : ℕ) (on found : Option UndefinedEntry) → HaltsOn table steps on
    → IsOneOf table on found → IsToFill (record { table = table; verdict = Halt steps score }) found
to_fill table steps score None None on one = λ state symbol halts.
    let same : steps ≡ halts.steps = let e = halts.says in cc in
    on state symbol (subst (λ n. HaltsOnUndefined table n state symbol) (sym same) halts.undefined)
to_fill table steps score None (Some found) on one = absurd cc
to_fill table steps score (Some undefined) None on one = λ state symbol halts.
    let same : steps ≡ halts.steps = let e = halts.says in cc in
    let here = one_undefined table steps undefined.state undefined.symbol state symbol on.0
    (subst (λ n. HaltsOnUndefined table n state symbol) (sym same) halts.undefined) in
    one (subst (HasOtherUndefined table undefined.state) (sym here.1)
    (subst (λ q. HasOtherUndefined table q symbol) (sym here.0) halts.other))
to_fill table steps score (Some undefined) (Some found) on one =
    subst (λ g. IsToFill (record { table = table; verdict = Halt steps score }) (Some g)) (sym one.0) (
      record { steps = steps; score = score; says = refl; undefined = on.0; other = one.1 },
      on.1,
    )
