use Rattle.std.proofs.Common.{◌≡◌, Bool, false, inl, refl, sym, ◌∙◌}
use Rattle.std.specs.Prelude.{IsTrue}
use Rattle.bb_cover.specs.declared.found.Why.TheVariants.{Unread, NotNext, Refused, TooMany}
use Rattle.bb_cover.proofs.Contents.{fine_content, refused_content}
use Rattle.bb_cover.proofs.Reasons.{not_next_first, refused_first, too_many_first, unread_first}
use Rattle.bb_cover.proofs.Steps.{stops, took}
use Rattle.bb_cover.proofs.list.CheckerLineSink.accept_line.Goals as goal

not_true : {b : Bool} → IsTrue b → b ≡ false → ⊥
not_true is not = cc

pub returns-in_default-clause-took : goal.returns-in_default-clause-took
returns-in_default-clause-took g c = (
  refl,
  stops c.args.self.now.task.now c.args.self.now.progress.now c.args.line.now c.stop_for-in_default.new.self
      Unread (sym c.is_some.ensures ∙ c.if-is_some.false)
      (unread_first _ _ _ _ _ (λ done. not_true (c.is_done.ensures.1 done) c.if-is_done.false)
      (rw c.in_default.is at c.read_content.ensures.none))
      c.stop_for-in_default.ensures,
)

pub returns-then-not-asks-clause-took : goal.returns-then-not-asks-clause-took
returns-then-not-asks-clause-took g c = (
  refl,
  stops c.args.self.now.task.now c.args.self.now.progress.now c.args.line.now
      c.stop_for-then-not-asks.new.self NotNext (sym c.is_some.ensures ∙ c.if-is_some.false)
      (not_next_first _ _ _ _ _ (λ done. not_true (c.is_done.ensures.1 done) c.if-is_done.false)
      (record { table = c.read_content.new.machine; content = c.in-Some.content }) c.in-Some.ensures.found
      (c.if-not-asks.ensures.only refl))
      c.stop_for-then-not-asks.ensures,
)

pub returns-then-not-has_room-clause-took : goal.returns-then-not-has_room-clause-took
returns-then-not-has_room-clause-took g c =
    let judged = fine_content c.args.self.now.task.now.limits c.read_content.new.machine c.in-Some.content
    c.in-Ok-Fine.undefined (rw c.in-Ok-Fine.field-0-is at c.in-Ok-Fine.ensures.judged) in
    let asked = c.if-not-asks.ensures.next refl in (
      refl,
      stops c.args.self.now.task.now c.args.self.now.progress.now c.args.line.now
          c.stop_for-then-not-has_room.new.self TooMany (sym c.is_some.ensures ∙ c.if-is_some.false)
          (too_many_first _ _ _ _ _ (λ done. not_true (c.is_done.ensures.1 done) c.if-is_done.false)
          (record { table = c.read_content.new.machine; content = c.in-Some.content }) c.in-Some.ensures.found
          asked.0 asked.1 judged.0 (λ room. not_true (c.has_room.ensures.1 room) c.if-not-has_room.true))
          c.stop_for-then-not-has_room.ensures,
    )

pub returns-else-not-has_room-clause-took : goal.returns-else-not-has_room-clause-took
returns-else-not-has_room-clause-took g c =
    let judged = fine_content c.args.self.now.task.now.limits c.read_content.new.machine c.in-Some.content
    c.in-Ok-Fine.undefined (rw c.in-Ok-Fine.field-0-is at c.in-Ok-Fine.ensures.judged) in (
      refl,
      took c.args.self.now.task.now c.args.self.now.progress.now c.args.line.now c.visit.new.self
          (sym c.is_some.ensures ∙ c.if-is_some.false)
          (λ _. inl (record {
            item = record { table = c.read_content.new.machine; content = c.in-Some.content };
            is_true = record { is_line = c.in-Some.ensures.found; is_fine = judged.0 };
            room = c.has_room.ensures.0 c.if-not-has_room.false;
            undefined = c.in-Ok-Fine.undefined;
            to_fill = judged.1;
            goes = c.visit.ensures.goes;
            counts = c.visit.ensures.counts;
          })),
    )

pub returns-in-Ok-Refused-clause-took : goal.returns-in-Ok-Refused-clause-took
returns-in-Ok-Refused-clause-took g c =
    let claim = refused_content c.args.self.now.task.now.form c.args.self.now.task.now.limits
    c.read_content.new.machine c.in-Some.content c.args.line.now c.in-Ok-Refused.answer
    c.in-Some.ensures.found (rw c.in-Ok-Refused.field-0-is at c.in-Ok-Refused.ensures.judged) in
    let asked = c.if-not-asks.ensures.next refl in (
      refl,
      stops c.args.self.now.task.now c.args.self.now.progress.now c.args.line.now
          c.stop_for-in-Ok-Refused.new.self (Refused c.in-Ok-Refused.answer)
          (sym c.is_some.ensures ∙ c.if-is_some.false)
          (refused_first _ _ _ _ _ (λ done. not_true (c.is_done.ensures.1 done) c.if-is_done.false)
          c.read_content.new.machine claim.0 claim.1 asked.0 asked.1 c.in-Ok-Refused.answer claim.2)
          c.stop_for-in-Ok-Refused.ensures,
    )
