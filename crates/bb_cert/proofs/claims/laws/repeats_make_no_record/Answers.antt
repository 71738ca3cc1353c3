use Rattle.bb_cert.proofs.claim_lemmas.NoRecords.{repeats_make_no_record, agreeing_records_never_repeat}
use Rattle.bb_cert.proofs.claims.laws.repeats_make_no_record.Goals as goal

pub returns : goal.returns
returns c = record { no_record = repeats_make_no_record; never_both = agreeing_records_never_repeat }
