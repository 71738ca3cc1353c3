use Rattle.bb_cert.proofs.record_lemmas.RecordPairs.{has_record, record_pair}
use Rattle.bb_cert.proofs.claims.laws.later_records_agree.Goals as goal

pub returns : goal.returns
returns c = record { every = has_record; pair = record_pair }
