use Rattle.bb_decide.proofs.reasoning.backward.Goals as goal

pub returns-in-Some-clause-found : goal.returns-in-Some-clause-found
returns-in-Some-clause-found g c =
    rw (c.depth.ensures.value, c.nodes.ensures.value, c.in-Some.is) at c.in_ok-found.ensures.answers

pub returns-in-Some-clause-counted : goal.returns-in-Some-clause-counted
returns-in-Some-clause-counted g c = rw c.in-Some.is at c.in_ok-found.ensures.counted

pub returns-in-Some-clause-claim : goal.returns-in-Some-clause-claim
returns-in-Some-clause-claim g c = let found = returns-in-Some-clause-found g c in (found.ends, found.clear)
