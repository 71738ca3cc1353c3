use Rattle.bb_cert.proofs.claim_lemmas.Repeats.{repeats_go_on, repeats_never_halt, repeats_keep_distance}
use Rattle.bb_cert.proofs.claims.laws.repeats_go_on.Goals as goal

pub returns : goal.returns
returns c = record { go_on = repeats_go_on; never = repeats_never_halt; distance = repeats_keep_distance }
