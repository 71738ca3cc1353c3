use Rattle.std.proofs.Common.{rules}
use Rattle.bb_cert.proofs.record_lemmas.Records.{record_has_one_step, records_in_order, lower_records_exist}
use Rattle.bb_cert.proofs.record_lemmas.Records.{short_of_record, record_takes_steps}
use Rattle.bb_cert.proofs.claims.laws.records_in_order.Goals as goal

pub returns : goal.returns
returns c = record {
  one_step = record_has_one_step;
  one_number = search rules;
  one_side = search rules;
  in_order = records_in_order;
  lower = lower_records_exist;
  short = short_of_record;
  takes_steps = record_takes_steps;
}
