use Rattle.std.proofs.Common.{rules, ◌≡◌, [], arith}
use Rattle.std.proofs.lemmas.Grind.{common_steps}
use Rattle.std.proofs.lemmas.List.{append-nil}
use Rattle.bb_lines.proofs.Sends.{Sends-none, Sends-write, AppendsPrefix-sent, Appends-sent, Sends-kept}
use Rattle.bb_lines.proofs.output.write_waiting.Goals as goal

pub loop-rest-init : goal.loop-rest-init
loop-rest-init g c = record { unmarked = c.requires; sent = Sends-none }

pub loop-rest-preserved : goal.loop-rest-preserved
loop-rest-preserved g c = record {
  unmarked = search rules;
  sent = Sends-write c.loop-rest.invariant.sent _ c.in-Ok.ensures.bytes;
}

pub returns-in-Err-clause-err : goal.returns-in-Err-clause-err
returns-in-Err-clause-err g c =
    rw (append-nil, c.as_slice-rest.ensures.value) at
    (AppendsPrefix-sent (Sends-kept c.loop-rest.invariant.sent (rw c.in-Err.is at c.write.ensures.bytes)))

pub returns-clause-ok : goal.returns-clause-ok
returns-clause-ok g c =
    let none : c.loop-rest.rest.now ≡ [] = grind (arith, common_steps) in
    rw (append-nil, c.as_slice-rest.ensures.value) at
    (Appends-sent (rw none at c.loop-rest.invariant.sent))
