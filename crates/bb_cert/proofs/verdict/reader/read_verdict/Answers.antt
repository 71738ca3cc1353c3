use Rattle.std.proofs.Common.{rules, ◌≢◌, codes}
use Rattle.bb_cert.proofs.verdict_lemmas.Verdicts.{no_verdict}
use Rattle.bb_cert.proofs.verdict.reader.read_verdict.Goals as goal

pub returns : goal.returns
returns c =
    let steps : c.args.words.now ≢ codes "undecided steps" = search rules in
    let cells : c.args.words.now ≢ codes "undecided cells" = search rules in
    no_verdict c.args.words.now c.in_default.ensures c.in_default-read_pair.ensures
    c.in_default-read_records.ensures
    c.in_default-read_records-2.ensures c.in_default-read_pair-2.ensures steps cells
