use Rattle.std.proofs.Common.{refl, sym, ◌∙◌}
use Rattle.std.proofs.lemmas.Bool.Decides.{Decides-eqb}
use Rattle.std.proofs.lemmas.Slice.Eq.{slice_eq-Decides}
use Rattle.bb_cert.specs.declared.verdict.Side.TheVariants.{L, R}
use Rattle.bb_cert.specs.declared.verdict.Verdict.TheVariants.{Halt, Cycler, Translated, Backward, Undecided}
use Rattle.bb_cert.specs.declared.verdict.Why.TheVariants.{Steps, Cells}
use Rattle.bb_run.proofs.words.kind_of_words.Goals as goal

pub returns-then-are_records : goal.returns-then-are_records
returns-then-are_records c =
    let pair = c.are_records.ensures c.if-are_records.true in
    record {
      verdict = Translated R pair.0 pair.1 pair.2;
      numbers = (pair.3, pair.4, pair.5);
      is_text = pair.6;
      is_kind = refl;
    }

pub returns-then-are_records-2 : goal.returns-then-are_records-2
returns-then-are_records-2 c =
    let pair = c.are_records-in-116.ensures c.if-are_records-2.true in
    record {
      verdict = Translated L pair.0 pair.1 pair.2;
      numbers = (pair.3, pair.4, pair.5);
      is_text = pair.6;
      is_kind = refl;
    }

pub returns-then-are_pair : goal.returns-then-are_pair
returns-then-are_pair c =
    let pair = c.are_pair.ensures c.if-are_pair.true in
    record { verdict = Halt pair.0 pair.1; numbers = (pair.2, pair.3); is_text = pair.4; is_kind = refl }

pub returns-then-are_pair-2 : goal.returns-then-are_pair-2
returns-then-are_pair-2 c =
    let pair = c.are_pair-in-99.ensures c.if-are_pair-2.true in
    record { verdict = Cycler pair.0 pair.1; numbers = (pair.2, pair.3); is_text = pair.4; is_kind = refl }

pub returns-then-are_pair-3 : goal.returns-then-are_pair-3
returns-then-are_pair-3 c =
    let pair = c.are_pair-in-98.ensures c.if-are_pair-3.true in
    record { verdict = Backward pair.0 pair.1; numbers = (pair.2, pair.3); is_text = pair.4; is_kind = refl }

pub returns-then-eq : goal.returns-then-eq
returns-then-eq c =
    let same = (slice_eq-Decides Decides-eqb _ _ _ c.eq.ensures).0 c.if-eq.true in
    record {
      verdict = Undecided Steps;
      numbers = tt;
      is_text = sym (same ∙ c.as_slice.ensures);
      is_kind = refl;
    }

pub returns-then-eq-2 : goal.returns-then-eq-2
returns-then-eq-2 c =
    let same = (slice_eq-Decides Decides-eqb _ _ _ c.eq-in_default.ensures).0 c.if-eq-2.true in
    record {
      verdict = Undecided Cells;
      numbers = tt;
      is_text = sym (same ∙ c.as_slice-in_default.ensures);
      is_kind = refl;
    }
