use Rattle.std.proofs.Common.{subst}
use Rattle.bb_cert.specs.verdict.Verdict.{HasExtentNumbers}
use Rattle.bb_cert.proofs.verdict_lemmas.Numbers.{second_split}
use Rattle.bb_cert.proofs.verdict.reader.read_second.Goals as goal

pub returns-in_err-second : goal.returns-in_err-second
returns-in_err-second c = rw c.from_residual-in_err-second.ensures (λ b extent fits _ is.
    let split = second_split b extent fits c.in-Some.ensures.0 c.in-Some.ensures.1 is in
    c.in_err-second.ensures b fits split.2)

pub returns-in_err-shift : goal.returns-in_err-shift
returns-in_err-shift c = rw c.from_residual-in_err-shift.ensures (λ b extent fits numbers is.
    let split = second_split b extent fits c.in-Some.ensures.0 c.in-Some.ensures.1 is in
    let claimed = split.0 in
    let few = subst HasExtentNumbers split.1 numbers in
    c.in_err-shift.ensures claimed.shift claimed.length few.0 few.1 split.3)
