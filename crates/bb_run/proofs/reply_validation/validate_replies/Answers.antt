use Rattle.std.proofs.Common.{◌∷◌, length, rules, sym, ◌∙◌, ap, subst, arith}
use Rattle.std.proofs.lemmas.Bool.{eq-eqb, eqb-true, false≢true}
use Rattle.std.proofs.lemmas.List.{nil_from_length}
use Rattle.bb_lines.specs.Lines.{lines}
use Rattle.bb_run.specs.Validation.{HasNoReply}
use Rattle.bb_run.proofs.Validations.{all_counted, all_replied, as_many, fails_at_end, fails_here, validated_at_none}
use Rattle.bb_run.proofs.Validations.{looked_on, no_replies, stops_here}
use Rattle.bb_run.proofs.Newlines.{lines_of_none}
use Rattle.bb_run.proofs.reply_validation.validate_replies.Goals as goal

pub loop-line-init : goal.loop-line-init
loop-line-init c = record {
  validated = validated_at_none (lines c.args.list.now) c.args.replies.now;
  are_counts = search rules;
  few = omega arith;
}

-- there is no reply to the next line where there is no newline
none_at_end : (c : goal.In_default-first_reply)
    → HasNoReply (lines c.loop-line.lines_left.now) c.loop-line.replies_left.now
none_at_end c =
    rw c.in-Some.ensures.0
    (fails_at_end c.in-Some.line.now (lines c.in-Some.more_lines.now) c.loop-line.replies_left.now
    c.in_default-first_reply.ensures)

pub returns-in_default-first_reply-clause-first : goal.returns-in_default-first_reply-clause-first
returns-in_default-first_reply-clause-first c = stops_here c.loop-line.invariant.validated (none_at_end c)

pub returns-in_default-first_reply-clause-no_replies : goal.returns-in_default-first_reply-clause-no_replies
returns-in_default-first_reply-clause-no_replies c = no_replies c.loop-line.invariant.validated
    (none_at_end c)

-- nor where the bytes up to the newline are none
none_here : (c : goal.In_default-kind_of_reply)
    → HasNoReply (lines c.loop-line.lines_left.now) c.loop-line.replies_left.now
none_here c =
    let fails = fails_here c.in-Some.line.now (lines c.in-Some.more_lines.now)
    c.in-Some-first_reply.reply.now c.in-Some-first_reply.more_replies.now c.in-Some.ensures.1
    c.in-Some-first_reply.ensures.0 c.in_default-kind_of_reply.ensures in
    rw c.in-Some.ensures.0
    (subst (HasNoReply (c.in-Some.line.now ∷ lines c.in-Some.more_lines.now))
    c.in-Some-first_reply.ensures.1 fails)

pub returns-in_default-kind_of_reply-clause-first : goal.returns-in_default-kind_of_reply-clause-first
returns-in_default-kind_of_reply-clause-first c = stops_here c.loop-line.invariant.validated (none_here c)

pub returns-in_default-kind_of_reply-clause-no_replies :
    goal.returns-in_default-kind_of_reply-clause-no_replies
returns-in_default-kind_of_reply-clause-no_replies c =
    no_replies c.loop-line.invariant.validated (none_here c)

pub add-requires : goal.add-requires
add-requires c =
    let here = c.loop-line.invariant in
    let at = here.validated in
    let many = as_many at.first at.kinds at.answered at.are_of_kinds in
    (at.kinds, omega (arith, many, at.is_count, here.few, c.in-Some.ensures.2), here.are_counts)

pub loop-line-preserved : goal.loop-line-preserved
loop-line-preserved c =
    let here = c.loop-line.invariant in
    let cut = c.in-Some.ensures in
    let cut_too = c.in-Some-first_reply.ensures in
    record {
      validated = looked_on here.validated c.in-Some.line.now (lines c.in-Some.more_lines.now)
          c.in-Some-first_reply.reply.now c.in-Some-first_reply.more_replies.now c.in-Some-kind_of_reply.kind
          cut.0 cut.1 cut_too.0 cut_too.1 c.in-Some-kind_of_reply.ensures;
      are_counts = c.add.ensures here.validated.kinds here.are_counts;
      few = omega (arith, here.few, cut.2);
    }

-- where no line is left, and bytes are
none_left : (c : goal.Then-not-is_empty)
    → HasNoReply (lines c.loop-line.lines_left.now) c.loop-line.replies_left.now
none_left c =
    rw (c.in_default.ensures, lines_of_none) (λ none. false≢true (sym c.if-not-is_empty.true
    ∙ c.is_empty.ensures ∙ eq-eqb (length c.loop-line.replies_left.now) 0 (ap length none)))

pub returns-then-not-is_empty-clause-first : goal.returns-then-not-is_empty-clause-first
returns-then-not-is_empty-clause-first c = stops_here c.loop-line.invariant.validated (none_left c)

pub returns-then-not-is_empty-clause-no_replies : goal.returns-then-not-is_empty-clause-no_replies
returns-then-not-is_empty-clause-no_replies c = no_replies c.loop-line.invariant.validated (none_left c)

pub returns-clause-replies : goal.returns-clause-replies
returns-clause-replies c =
    all_replied c.loop-line.invariant.validated (ap lines c.in_default.ensures ∙ lines_of_none)
    (nil_from_length c.loop-line.replies_left.now
    (eqb-true (length c.loop-line.replies_left.now) 0 (sym c.is_empty.ensures ∙ c.if-not-is_empty.false)))

pub returns-clause-counts : goal.returns-clause-counts
returns-clause-counts c =
    let here = c.loop-line.invariant in
    all_counted here.validated (ap lines c.in_default.ensures ∙ lines_of_none)
    (nil_from_length c.loop-line.replies_left.now
    (eqb-true (length c.loop-line.replies_left.now) 0 (sym c.is_empty.ensures ∙ c.if-not-is_empty.false)))
    _ here.are_counts
