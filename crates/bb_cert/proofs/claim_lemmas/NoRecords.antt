-- A configuration that comes again, against records: from then on none is made.
use Rattle.std.proofs.Common.{◌≡◌, ℕ, ◌+◌, ◌-◌, ◌≤◌, inl, inr, ap, ◌∙◌, arith}
use Rattle.std.proofs.lemmas.Bool.{cases_lt}
use Rattle.bb_machine.specs.Machine.{Table}
use Rattle.bb_cert.specs.claims.Repeat.{Same}
use Rattle.bb_cert.specs.records.Record.{out, head_of, head_at}
use Rattle.bb_cert.specs.claims.Laws.{RepeatsMakeNoRecord, AgreeingRecordsNeverRepeat}
use Rattle.bb_cert.proofs.claim_lemmas.Repeats.{together}
use Rattle.bb_cert.proofs.record_lemmas.Records.{stands_on, record_takes_steps}
use Rattle.bb_cert.proofs.record_lemmas.RecordPairs.{has_record}

-- the head of a step from b on was there before
head_before : (table : Table) (a b n : ℕ) → Same table a b → b ≤ n
    → head_at table (a + (n - b)) ≡ head_at table n
unfolding head_at
head_before table a b n same h =
    let e : b + (n - b) ≡ n = omega (arith, h) in
    ap head_of (together table a b same (n - b)) ∙ ap (head_at table) e

pub repeats_make_no_record : RepeatsMakeNoRecord
repeats_make_no_record table side a b j n in_order same made = elim (cases_lt n b) [
  | inl less ↦ less
  | inr more ↦ absurd (made.is_first (a + (n - b)) (omega (arith, in_order, more))
      (ap (out side) (head_before table a b n same more) ∙ stands_on table side j n made))
]

pub agreeing_records_never_repeat : AgreeingRecordsNeverRepeat
agreeing_records_never_repeat table side a b c d records in_order same =
    let found = has_record table side a b d records (omega (arith, in_order)) in
    let late = record_takes_steps table side d found.0 found.1 in
    absurd (omega (arith, late, repeats_make_no_record table side c d d found.0 in_order same found.1))
