use Rattle.bb_cert.proofs.record_lemmas.Agreements.{agreeing_records_go_on, agreeing_records_never_halt}
use Rattle.bb_cert.proofs.claims.laws.agreeing_records_go_on.Goals as goal

pub returns : goal.returns
returns c = record { alike = agreeing_records_go_on; never = agreeing_records_never_halt }
