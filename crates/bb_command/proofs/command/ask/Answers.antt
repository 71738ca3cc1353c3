use Rattle.std.proofs.Common.{◌≡◌, ◌∙◌, map, sym}
use Rattle.bb_command.specs.Command.{words_meant}
use Rattle.bb_command.proofs.CommandLines.{as_they_stand}
use Rattle.bb_command.proofs.command.ask.Goals.{else-words-eq2-via-then-words-eq2+else-eq}
use Rattle.bb_command.proofs.command.ask.Goals.{else-words-eq2-via-else-words-eq2}
use Rattle.bb_command.proofs.command.ask.Goals.{else-words-eq3-via-then-words-eq3+else-eq-2}
use Rattle.bb_command.proofs.command.ask.Goals.{else-words-eq3-via-else-words-eq3}
use Rattle.bb_command.proofs.command.ask.Goals as goal

-- in the last branch the words are meant as they stand
stands : (c : goal.After-read_words-else-words-eq3)
    → words_meant (map (λ word. word.now) c.args.words.now) ≡ map (λ word. word.now) c.args.words.now
stands c = as_they_stand _ _
    (λ two. elim c.else-words-eq2.branch [
      | else-words-eq2-via-then-words-eq2+else-eq w ↦ sym w.eq.ensures ∙ w.if-eq.false
      | else-words-eq2-via-else-words-eq2 w ↦ absurd (w.if-words-eq2.false two)
    ])
    (λ three. elim c.else-words-eq3.branch [
      | else-words-eq3-via-then-words-eq3+else-eq-2 w ↦ sym w.eq-then-words-eq3.ensures ∙ w.if-eq-2.false
      | else-words-eq3-via-else-words-eq3 w ↦ absurd (w.if-words-eq3.false three)
    ])

pub returns-else-words-eq3-clause-asked : goal.returns-else-words-eq3-clause-asked
returns-else-words-eq3-clause-asked c = rw (stands c) c.read_words-else-words-eq3.ensures.asked

pub returns-else-words-eq3-clause-stop : goal.returns-else-words-eq3-clause-stop
returns-else-words-eq3-clause-stop c = rw (stands c) c.read_words-else-words-eq3.ensures.stop
