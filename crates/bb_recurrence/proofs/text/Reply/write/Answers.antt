use Rattle.std.proofs.Common.{ap, ◌∙◌, ◌++◌, List, ℕ}
use Rattle.bb_recurrence.proofs.Writing.{numbers_alone, numbers_and_entries}
use Rattle.bb_recurrence.proofs.text.Reply.write.Goals as goal

pub returns-then-entries-clause-numbers : goal.returns-then-entries-clause-numbers
returns-then-entries-clause-numbers c =
    rw c.if-entries.true
    (numbers_and_entries _ _ _ _ _ c.requires.known.exact c.requires.known.shift c.requires.quasihalt _ _ _ _ _ c.requires.empty
    (c.append.ensures.appended ∙ ap (λ (x : List ℕ). c.args.text.now.items ++ x) c.machine_text.ensures.text)
    c.numbers_into.ensures.appended c.states_into.ensures.uses c.quasihalt_into.ensures.appended _ _
    c.append-then-entries.ensures.appended c.entries_into.ensures.uses)

pub returns-else-entries-clause-numbers : goal.returns-else-entries-clause-numbers
returns-else-entries-clause-numbers c =
    rw c.if-entries.false
    (numbers_alone _ _ _ _ _ c.requires.known.exact c.requires.known.shift c.requires.quasihalt _ _ _ _ _ c.requires.empty
    (c.append.ensures.appended ∙ ap (λ (x : List ℕ). c.args.text.now.items ++ x) c.machine_text.ensures.text)
    c.numbers_into.ensures.appended c.states_into.ensures.uses c.quasihalt_into.ensures.appended)
