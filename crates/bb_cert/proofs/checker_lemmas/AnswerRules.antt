-- Which answer the rules give.
use Rattle.std.proofs.Common.{◌≡◌, ◌≤◌, inl, inr, Some, Result, Ok, Err, refl, ap, sym, ◌∙◌, arith}
use Rattle.std.specs.Prelude.{IfOk}
use Rattle.bb_machine.specs.Limits.{Bounds}
use Rattle.bb_machine.specs.Machine.{Table}
use Rattle.bb_cert.specs.declared.checker.answer.Answer.{Answer}
use Rattle.bb_cert.specs.declared.checker.answer.Answer.TheVariants as answer
use Rattle.bb_cert.specs.declared.verdict.Verdict.{Verdict}
use Rattle.bb_cert.specs.declared.verdict.Verdict.TheVariants.{Halt, Cycler, Translated, Backward, Undecided}
use Rattle.bb_cert.specs.checker.Answer.{Applies, IsAnswer, IsOutOfOrder, IsSettled, IsUndecided}
use Rattle.bb_cert.specs.checker.Answer.{NamesTooMuch, Rule}
use Rattle.bb_cert.specs.checker.Answer.{answer_by, rank}
use Rattle.bb_cert.specs.checker.Answer.Rule.{undecided, too_much_named, out_of_order, too_much_needed}
use Rattle.bb_cert.specs.checker.Answer.Rule.{claim_holds}
use Rattle.bb_cert.specs.checker.Answer.Rule.{all_else}
use Rattle.bb_cert.specs.inside.Checks.{Checks, Settles}
use Rattle.bb_cert.specs.claims.Laws.{AnswerIsUnique}

one_rule : (a b : Rule) → rank a ≤ rank b → rank b ≤ rank a → a ≡ b
one_rule undecided undecided h k = refl
one_rule too_much_named too_much_named h k = refl
one_rule out_of_order out_of_order h k = refl
one_rule too_much_needed too_much_needed h k = refl
one_rule claim_holds claim_holds h k = refl
one_rule all_else all_else h k = refl
one_rule a b h k = absurd (omega (arith, h, k))

pub answer_is_unique : AnswerIsUnique
answer_is_unique table bounds verdict a b one two =
    let same = one_rule one.rule two.rule (one.first two.rule two.applies) (two.first one.rule one.applies) in
    one.is ∙ ap answer_by same ∙ sym two.is

-- nothing undecided names anything
named_nothing : (bounds : Bounds) (verdict : Verdict) → NamesTooMuch bounds verdict → IsUndecided verdict → ⊥
named_nothing bounds (Halt steps score) named none = none
named_nothing bounds (Cycler first second) named none = none
named_nothing bounds (Translated side first second extent) named none = none
named_nothing bounds (Backward levels nodes) named none = none
named_nothing bounds (Undecided why) named none = named

no_pair : (verdict : Verdict) → IsOutOfOrder verdict → IsUndecided verdict → ⊥
no_pair (Halt steps score) order none = none
no_pair (Cycler first second) order none = none
no_pair (Translated side first second extent) order none = none
no_pair (Backward levels nodes) order none = none
no_pair (Undecided why) order none = order

module _ (table : Table) (bounds : Bounds) (verdict : Verdict) where
  first_undecided : (other : Rule) → Applies table bounds verdict other → 1 ≤ rank other
  first_undecided undecided applies = omega arith
  first_undecided too_much_named applies = omega arith
  first_undecided out_of_order applies = omega arith
  first_undecided too_much_needed applies = omega arith
  first_undecided claim_holds applies = omega arith
  first_undecided all_else applies = omega arith

  first_named : (IsUndecided verdict → ⊥) → (other : Rule) → Applies table bounds verdict other
      → 2 ≤ rank other
  first_named claims undecided applies = absurd (claims applies)
  first_named claims too_much_named applies = omega arith
  first_named claims out_of_order applies = omega arith
  first_named claims too_much_needed applies = omega arith
  first_named claims claim_holds applies = omega arith
  first_named claims all_else applies = omega arith

  first_order : (IsUndecided verdict → ⊥) → (NamesTooMuch bounds verdict → ⊥)
      → (other : Rule) → Applies table bounds verdict other → 3 ≤ rank other
  first_order claims within undecided applies = absurd (claims applies)
  first_order claims within too_much_named applies = absurd (within applies)
  first_order claims within out_of_order applies = omega arith
  first_order claims within too_much_needed applies = omega arith
  first_order claims within claim_holds applies = omega arith
  first_order claims within all_else applies = omega arith

  first_unsettled : (IsSettled bounds verdict → ⊥) → (other : Rule) → Applies table bounds verdict other
      → 4 ≤ rank other
  first_unsettled unsettled undecided applies = absurd (unsettled (inl applies))
  first_unsettled unsettled too_much_named applies = absurd (unsettled (inr (inl applies)))
  first_unsettled unsettled out_of_order applies = absurd (unsettled (inr (inr applies)))
  first_unsettled unsettled too_much_needed applies = omega arith
  first_unsettled unsettled claim_holds applies = omega arith
  first_unsettled unsettled all_else applies = omega arith

  -- what is settled without a run
  pub settled_answer : (given : Answer) → Settles bounds verdict (Some given)
      → IsAnswer table bounds verdict given
  settled_answer answer.Open is =
      record { rule = undecided; is = refl; applies = is; first = first_undecided }
  settled_answer answer.Over is =
      record {
        rule = too_much_named;
        is = refl;
        applies = is;
        first = first_named
            (named_nothing bounds verdict is);
      }
  settled_answer answer.Bad is =
      record {
        rule = out_of_order;
        is = refl;
        applies = is.1;
        first = first_order
            (no_pair verdict is.1) is.0;
      }
  settled_answer answer.Ok is = absurd is

  module _ (unsettled : IsSettled bounds verdict → ⊥) where
    first_fitting : (Applies table bounds verdict too_much_needed → ⊥)
        → (other : Rule) → Applies table bounds verdict other → 5 ≤ rank other
    first_fitting fits undecided applies = absurd (unsettled (inl applies))
    first_fitting fits too_much_named applies = absurd (unsettled (inr (inl applies)))
    first_fitting fits out_of_order applies = absurd (unsettled (inr (inr applies)))
    first_fitting fits too_much_needed applies = absurd (fits applies)
    first_fitting fits claim_holds applies = omega arith
    first_fitting fits all_else applies = omega arith

    last_rule : (Applies table bounds verdict too_much_needed → ⊥)
        → (Applies table bounds verdict claim_holds → ⊥)
        → (other : Rule) → Applies table bounds verdict other → 6 ≤ rank other
    last_rule fits fails undecided applies = absurd (unsettled (inl applies))
    last_rule fits fails too_much_named applies = absurd (unsettled (inr (inl applies)))
    last_rule fits fails out_of_order applies = absurd (unsettled (inr (inr applies)))
    last_rule fits fails too_much_needed applies = absurd (fits applies)
    last_rule fits fails claim_holds applies = absurd (fails applies)
    last_rule fits fails all_else applies = omega arith

    -- what was checked
    pub checked_answer : (given : Answer) → Checks table bounds verdict given
        → IsAnswer table bounds verdict given
    checked_answer answer.Over is =
        record { rule = too_much_needed; is = refl; applies = is; first = first_unsettled unsettled }
    checked_answer answer.Ok is =
        record { rule = claim_holds; is = refl; applies = is.1; first = first_fitting is.0 }
    checked_answer answer.Bad is =
        record { rule = all_else; is = refl; applies = tt; first = last_rule is.0 is.1 }
    checked_answer answer.Open is = absurd is

-- what follows of an answer follows where there is one
pub where_ok : {A E : Type 0} (P Q : A → Type 0) (result : Result A E) → ((x : A) → P x → Q x)
    → IfOk result P → IfOk result Q
where_ok P Q (Ok x) each is = each x is
where_ok P Q (Err e) each is = tt
