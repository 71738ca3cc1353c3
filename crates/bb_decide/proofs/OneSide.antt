-- What a step means for what is known of a side's records, whether it makes one or not.
use Rattle.std.proofs.Common.{◌≡◌, ℕ, ◌+◌, ◌<◌, inl, inr, Some, None, pos, refl, ap, sym}
use Rattle.std.proofs.Common.{subst, ◌∙◌, arith}
use Rattle.std.specs.Prelude.{◌<ℤ◌}
use Rattle.std.proofs.lemmas.Int.{ints}
use Rattle.bb_machine.specs.Machine.{Table}
use Rattle.bb_tape.specs.TapeView.{TapeView, IsSound}
use Rattle.bb_sim.specs.declared.runner.Runner.{Runner}
use Rattle.bb_sim.specs.Run.{Exists}
use Rattle.bb_sim.specs.Runner.{Stands, position_of, steps_of}
use Rattle.bb_cert.specs.declared.records.Records.{Records}
use Rattle.bb_cert.specs.declared.verdict.Side.{Side}
use Rattle.bb_cert.specs.declared.verdict.Verdict.{Verdict}
use Rattle.bb_cert.specs.records.Agree.{Agree}
use Rattle.bb_cert.specs.declared.verdict.Verdict.TheVariants.{Translated}
use Rattle.bb_cert.specs.verdict.Extent.{IsExtent}
use Rattle.bb_cert.specs.declared.verdict.Extent.{Extent}
use Rattle.bb_cert.specs.records.Follow.{AgreesWithKept, IsFollowed, passed, top_of}
use Rattle.bb_cert.specs.records.Record.{out, head_at, IsRecord}
use Rattle.bb_cert.proofs.Facts.{
  agree_of_cells,
  at_step,
  cells_of_agree,
  comparable,
  extent_of_records,
  farther,
}
use Rattle.bb_cert.proofs.Facts.{followed_at_first, followed_farther, followed_nearer, head_at-is, keeps}
use Rattle.bb_cert.proofs.Facts.{made_next, nearer_on, number_narrow, numbered, record_has_one_step}
use Rattle.bb_cert.proofs.Facts.{one_number, records_in_order, stands_on, stays}
use Rattle.bb_decide.specs.inside.Follow.{Compares, IsReady, IsSearched, KeepsByTurn}
use Rattle.bb_decide.specs.Partner.{IsKept, IsPartner}
use Rattle.bb_decide.specs.Translation.{AgreesWithPartner}
use Rattle.bb_decide.proofs.Partners.{is_kept_one, kept_at_first, kept_below, keeps_next, keeps_on}

some_partner : (n k : ℕ) → IsKept n k → 0 < n → IsPartner n (k + 1)
some_partner n k (inl first) some = absurd (omega (arith, some, first.1))
some_partner n k (inr partner) some = partner

-- at the start there is no record
pub searched_at_first : (table : Table) (records : Records) (saved : TapeView)
    → position_of records.kept ≡ pos 0 → IsSearched table 0 records saved
searched_at_first table records saved start = record {
  followed = followed_at_first table records saved start;
  partner = kept_at_first;
}

-- a side after a step: what is known of it, and that the step makes no record that agrees with its partner
pub record GoesOn (table : Table) (n : ℕ) (side : Side) (new : Records) (saved : TapeView) : Type 0 where
  pub searched : IsSearched table n new saved
  pub side_is : new.side ≡ side
  pub none : (a : ℕ) → AgreesWithPartner table side a n → ⊥

-- a verdict tells a record that agrees with its partner, made at step n, and how the two lie
pub record TellsAgreement (table : Table) (n : ℕ) (verdict : Verdict) : Type 0 where
  pub side : Side
  pub first : ℕ
  pub extent : Extent
  pub is : verdict ≡ Translated side first n (Some extent)
  pub pair : AgreesWithPartner table side first n
  pub lies : IsExtent table side first n extent

module _ (table : Table) (n : ℕ) (runner : Runner) (run saved : TapeView) (old : Records)
    (stands : Stands table runner run) (next : steps_of runner ≡ n + 1)
    (searched : IsSearched table n old saved) where
  there : Exists table (n + 1)
  there = subst (Exists table) next (record { here = _; exists = stands.at })

  at : position_of runner ≡ head_at table (n + 1)
  at = sym (head_at-is table (steps_of runner) _ stands.at) ∙ ap (head_at table) next

  abbrev with_next : Records
  with_next = passed old (position_of runner)

  -- where no record is made
  pub passes_by : (((j : ℕ) × IsRecord table old.side j (n + 1)) → ⊥)
      → GoesOn table (steps_of runner) old.side (passed old (position_of runner)) saved
  passes_by none = record {
    searched = record {
      followed = at_step table n old saved there (position_of runner) at searched.followed
          (steps_of runner) next
          (followed_nearer table n old saved there (position_of runner) at searched.followed
          (nearer_on table old.side n searched.followed.count searched.followed.top there none));
      partner = searched.partner;
    };
    side_is = refl;
    none = λ a pair. none (pair.second_number, rw next at pair.second_record);
  }

  module _ (made : ((j : ℕ) × IsRecord table old.side j (n + 1))) where
    high : pos searched.followed.count <ℤ out old.side (head_at table (n + 1))
    high = farther table old.side n searched.followed.count searched.followed.top there made

    abbrev known : IsFollowed table (steps_of runner) with_next saved
    known = at_step table n old saved there (position_of runner) at searched.followed (steps_of runner) next
        (followed_farther table n old saved there (position_of runner) at searched.followed high)

    made_at : IsRecord table old.side (searched.followed.count + 1) (steps_of runner)
    made_at = subst (IsRecord table old.side (searched.followed.count + 1)) (sym next)
        (made_next table old.side n searched.followed.count searched.followed.top there high)

    makes : (j : ℕ) × IsRecord table old.side j (steps_of runner)
    makes = (searched.followed.count + 1, made_at)

    top_is : top_of old runner ≡ pos (searched.followed.count + 1)
    top_is = ap (out old.side) (sym (head_at-is table (steps_of runner) _ stands.at))
        ∙ stands_on table old.side (searched.followed.count + 1) (steps_of runner) made_at

    kept_before : 0 < searched.followed.number → steps_of old.kept < steps_of runner
    kept_before some =
        (records_in_order table old.side searched.followed.number (searched.followed.count + 1)
        (steps_of old.kept) (steps_of runner) (known.kept some).made made_at).0
        (kept_below searched.followed.number searched.followed.count searched.partner)

    -- it can be compared with the kept one
    pub ready : IsSound run → IsReady (passed old (position_of runner)) runner saved run
    ready sound = record {
      kept_out = omega (arith, ints, searched.followed.number_is);
      head_out = omega (arith, ints, top_is);
      held = number_narrow table runner run saved with_next stands known makes kept_before sound;
      comparable = comparable table runner run saved with_next stands known makes;
    }

    pair_of_cells : AgreesWithKept with_next runner saved run
        → AgreesWithPartner table old.side (steps_of old.kept) (steps_of runner)
    pair_of_cells agrees =
        let some = numbered table runner run saved with_next stands known makes agrees.0 in
        record {
          first_number = searched.followed.number;
          second_number = searched.followed.count + 1;
          partner = some_partner searched.followed.number searched.followed.count searched.partner some;
          first_record = (known.kept some).made;
          second_record = made_at;
          agree = agree_of_cells table runner run saved with_next stands known makes some agrees;
        }

    -- a record that agrees with its partner agrees with the kept one
    cells_of_pair : (a : ℕ) → AgreesWithPartner table old.side a (steps_of runner)
        → AgreesWithKept with_next runner saved run
    cells_of_pair a pair =
        let second = one_number pair.second_number (searched.followed.count + 1) _
        (stands_on table old.side pair.second_number (steps_of runner) pair.second_record)
        (stands_on table old.side (searched.followed.count + 1) (steps_of runner) made_at) in
        let partner = subst (IsPartner pair.first_number) second pair.partner in
        let number = is_kept_one searched.partner refl partner in
        let first = subst (λ j. IsRecord table old.side j a) number pair.first_record in
        let some = first.positive in
        let step = record_has_one_step table old.side searched.followed.number a (steps_of old.kept) first
        (known.kept some).made in
        cells_of_agree table runner run saved with_next stands known makes some (kept_before some)
        (subst (λ m. Agree table old.side m (steps_of runner)) step pair.agree)

    -- compared, and found to agree, or not
    module _ (new : Records) (new_saved : TapeView) where
      pub ends_with : (verdict : Verdict)
          → Compares (passed old (position_of runner)) runner run saved new new_saved (Some verdict)
          → TellsAgreement table (steps_of runner) verdict
      ends_with verdict is =
          let some = numbered table runner run saved with_next stands known makes is.0.0 in
          record {
            side = old.side;
            first = steps_of old.kept;
            extent = is.1.extent;
            is = is.1.is;
            pair = pair_of_cells is.0;
            lies = extent_of_records table runner run saved with_next stands known makes some is.1.extent
                is.1.lies;
          }

      pub goes_on : Compares (passed old (position_of runner)) runner run saved new new_saved None
          → new.side ≡ old.side → GoesOn table (steps_of runner) old.side new new_saved
      goes_on is side = record {
        searched = by_turn is.1;
        side_is = side;
        none = λ a pair. is.0 (cells_of_pair a pair);
      } where
        by_turn : KeepsByTurn with_next runner run saved new new_saved
            → IsSearched table (steps_of runner) new new_saved
        by_turn (inl kept) =
            rw (kept.1, kept.2) (record {
              followed = keeps table runner run saved with_next stands known makes;
              partner = keeps_next searched.followed.number searched.followed.count searched.partner
                  (omega (arith, ints, searched.followed.number_is, top_is, kept.0));
            })
        by_turn (inr stayed) =
            rw stayed.1 (record {
              followed = stays table runner run saved with_next stands known makes new_saved stayed.2;
              partner = keeps_on searched.followed.number searched.followed.count searched.partner
                  (omega (arith, ints, searched.followed.number_is, top_is, stayed.0));
            })

-- a side by its name, whose records have taken in a step
pub record HasPassed (table : Table) (n : ℕ) (side : Side) (runner : Runner) (run saved : TapeView)
    (new : Records) : Type 0 where
  pub old : Records
  pub searched : IsSearched table n old saved
  pub side_is : old.side ≡ side
  pub stands : Stands table runner run
  pub next : steps_of runner ≡ n + 1
  pub new_is : new ≡ passed old (position_of runner)

module _ {table : Table} {n : ℕ} {side : Side} {runner : Runner} {run saved : TapeView} {new : Records}
    (here : HasPassed table n side runner run saved new) where
  pub side_passes_by : (((j : ℕ) × IsRecord table side j (n + 1)) → ⊥)
      → GoesOn table (steps_of runner) side new saved
  side_passes_by none = rw (← here.side_is, here.new_is) (passes_by table n runner run saved here.old
      here.stands here.next here.searched (λ made. none (rw here.side_is at made)))

  module _ (made : ((j : ℕ) × IsRecord table side j (n + 1))) where
    made_there : (j : ℕ) × IsRecord table here.old.side j (n + 1)
    made_there = rw here.side_is made

    pub side_ready : IsSound run → IsReady new runner saved run
    side_ready sound = rw here.new_is
        (ready table n runner run saved here.old here.stands here.next here.searched made_there sound)

    pub side_ends : (looked : Records) (looked_saved : TapeView) (verdict : Verdict)
        → Compares new runner run saved looked looked_saved (Some verdict)
        → TellsAgreement table (steps_of runner) verdict
    side_ends looked looked_saved verdict is =
        ends_with table n runner run saved here.old here.stands here.next here.searched made_there looked
        looked_saved verdict (rw here.new_is at is)

    pub side_goes_on : (looked : Records) (looked_saved : TapeView)
        → Compares new runner run saved looked looked_saved None → looked.side ≡ new.side
        → GoesOn table (steps_of runner) side looked looked_saved
    side_goes_on looked looked_saved is same = rw (← here.side_is)
        (goes_on table n runner run saved here.old here.stands here.next here.searched made_there looked
        looked_saved (rw here.new_is at is) (same ∙ ap (λ (r : Records). r.side) here.new_is))
