use Rattle.bb_cert.proofs.claim_lemmas.Claims.{claims_never_halt}
use Rattle.bb_cert.proofs.claims.laws.claims_never_halt.Goals as goal

pub returns : goal.returns
returns c = claims_never_halt
