use Rattle.bb_cert.proofs.checker_lemmas.AnswerRules.{answer_is_unique}
use Rattle.bb_cert.proofs.claims.laws.answer_is_unique.Goals as goal

pub returns : goal.returns
returns c = answer_is_unique
