use Rattle.std.proofs.Common.{Some, ap}
use Rattle.bb_cert.specs.declared.verdict.reader.Line.TheVariants.{Claim, Refusal}
use Rattle.bb_cert.proofs.verdict_lemmas.Lines.{line_unique}
use Rattle.bb_cert.proofs.verdict.reader.read_line.Goals as goal

pub returns-in-Some-Claim-clause-only : goal.returns-in-Some-Claim-clause-only
returns-in-Some-Claim-clause-only c = λ line is.
    let found = rw c.in-Some-Claim.field-0-is at c.in-Some-Claim.ensures.found in
    ap Some (line_unique (Claim c.read_line_in_place.new.machine c.in-Some-Claim.verdict) line
    c.args.bytes.now found is)

pub returns-in-Some-Refusal-clause-only : goal.returns-in-Some-Refusal-clause-only
returns-in-Some-Refusal-clause-only c = λ line is.
    let found = rw c.in-Some-Refusal.field-0-is at c.in-Some-Refusal.ensures.found in
    ap Some (line_unique (Refusal c.in-Some-Refusal.column) line c.args.bytes.now found is)
