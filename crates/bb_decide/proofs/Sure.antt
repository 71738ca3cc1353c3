-- Why patterns that the limits reach are found, and why larger limits keep what was found.
use Rattle.std.proofs.Common.{◌≡◌, ℕ, ◌+◌, ◌-◌, ◌<◌, Option, Some, None, inl, inr, subst, arith}
use Rattle.bb_machine.specs.Limits.{Bounds}
use Rattle.bb_machine.specs.Machine.{Table}
use Rattle.bb_cert.specs.declared.verdict.Verdict.{Verdict}
use Rattle.bb_cert.specs.declared.verdict.Verdict.TheVariants.{Halt, Cycler, Translated, Backward, Undecided}
use Rattle.bb_cert.specs.records.Agree.{Agree}
use Rattle.bb_cert.specs.claims.Repeat.{Same}
use Rattle.bb_cert.proofs.Facts.{clear_trees_never_halt}
use Rattle.bb_cert.proofs.Facts.{record_has_one_step, record_pair}
use Rattle.bb_cert.proofs.Facts.{repeats_keep_distance, tree_has_one_end}
use Rattle.bb_decide.specs.Cycle.{FindsCycle}
use Rattle.bb_decide.specs.Laws.{AgreeingRecordsAreFound, LargerLimitsKeep, RepeatsAreFound}
use Rattle.bb_decide.specs.Partner.{IsPartner}
use Rattle.bb_decide.specs.Sure.{FindsAgreeingRecords, FindsRepeats, IsLeastPower}
use Rattle.bb_decide.specs.Translation.{FindsTranslation}
use Rattle.bb_decide.proofs.KnownOfVerdicts.{is_halt_within, is_tree, passes_all, trees_are_on}
use Rattle.bb_decide.proofs.SmallLimits.{small_limits_decide, tree_upper}
use Rattle.bb_decide.proofs.Verdicts.{verdict_is_unique}

-- such a power is the partner of what is as far after it as the second number
partner_of_sum : (power first second : ℕ) → 0 < second → IsLeastPower power first second
    → IsPartner power (power + second)
partner_of_sum power first second positive is = record {
  exponent = is.exponent;
  is_power = is.is_power;
  below = omega (arith, positive);
  greatest = let few = is.not_below_second in omega (arith, few);
}

pub repeats_are_found : RepeatsAreFound
repeats_are_found table bounds a p power positive same is inside = record {
  partner = partner_of_sum power a p positive is;
  inside = inside;
  same =
      let on : a + (power - a) ≡ power = omega arith in
      subst (λ n. Same table n (n + p)) on (repeats_keep_distance table a p (power - a) positive same);
}

pub agreeing_records_are_found : AgreeingRecordsAreFound
agreeing_records_are_found table bounds side i r a b power n positive first second agree is record_there
    inside =
    let there = record_pair table side i r a b power positive first second agree is.not_below_first in
    let step = record_has_one_step table side (power + r) there.1 n there.3 record_there in (
      there.0,
      record {
        pair = record {
          first_number = power;
          second_number = power + r;
          partner = partner_of_sum power i r positive is;
          first_record = there.2;
          second_record = record_there;
          agree = subst (Agree table side there.0) step there.4;
        };
        inside = inside;
      },
    )

pub finds_repeats : (table : Table) (bounds : Bounds) (found : Option Verdict) → FindsCycle table bounds found
    → FindsRepeats table bounds found
finds_repeats table bounds None none a p power positive same is inside =
    absurd (none power (power + p) (repeats_are_found table bounds a p power positive same is inside))
finds_repeats table bounds (Some (Cycler first second)) found a p power positive same is inside =
    found.first power (power + p) (repeats_are_found table bounds a p power positive same is inside)
finds_repeats table bounds (Some verdict) found a p power positive same is inside = absurd found

pub finds_agreeing_records : (table : Table) (bounds : Bounds) (found : Option Verdict)
    → FindsTranslation table bounds found → FindsAgreeingRecords table bounds found
finds_agreeing_records table bounds None none side i r a b power n positive first second agree is there
    inside =
    let pair = agreeing_records_are_found table bounds side i r a b power n positive first second agree is
    there inside in
    absurd (none side pair.0 n pair.1)
finds_agreeing_records table bounds (Some (Translated other one two extent)) found side i r a b power n
    positive first second agree is there inside =
    let pair = agreeing_records_are_found table bounds side i r a b power n positive first second agree is
    there inside in
    found.0.first side pair.0 n pair.1
finds_agreeing_records table bounds (Some verdict) found side i r a b power n positive first second agree is
    there inside = absurd found

pub larger_limits_keep : LargerLimitsKeep
larger_limits_keep table lower upper plan (Backward levels nodes) (Halt n ones) machine within a b =
    let tree = is_tree plan a in
    absurd ((clear_trees_never_halt table levels nodes machine tree.ends tree.clear).never n
    (is_halt_within plan b).halts)
larger_limits_keep table lower upper plan (Backward levels nodes) (Backward h k) machine within a b =
    let same = tree_has_one_end table h k levels nodes (is_tree plan b).ends (is_tree plan a).ends in
    inl cc
larger_limits_keep table lower upper plan (Backward levels nodes) (Undecided why) machine within a b =
    absurd (((passes_all plan why b).2 (trees_are_on plan a)).nowhere levels nodes
    (tree_upper table lower upper within levels nodes (is_tree plan a)))
larger_limits_keep table lower upper plan (Backward levels nodes) pair machine within a b = inr tt
larger_limits_keep table lower upper plan (Undecided why) later machine within a b = tt
larger_limits_keep table lower upper plan earlier later machine within a b =
    verdict_is_unique table upper plan later earlier b
    (small_limits_decide table lower upper plan plan.backward earlier within tt a)
