use Rattle.std.proofs.Common.{◌++◌, Some, ap, sym, ◌∙◌}
use Rattle.std.proofs.lemmas.Bool.Decides.{Decides-eqb}
use Rattle.std.proofs.lemmas.Slice.Eq.{strip_prefix_is}
use Rattle.bb_cert.specs.verdict.Line.{verdict_text}
use Rattle.bb_run.proofs.reply_validation.kind_by_words.Goals as goal

pub returns-then-can_read : goal.returns-then-can_read
returns-then-can_read c =
    let begins = strip_prefix_is Decides-eqb c.args.reply.now c.args.line.now
    (Some c.in_ok-strip_prefix.field-0) c.in_ok-strip_prefix.ensures.cases in
    let words = c.in_ok-kind.ensures in
    let found = c.can_read.ensures.0 c.if-can_read.true in
    record {
      table = found.0;
      of = record { machine = found.1; is_text = found.2 };
      verdict = words.verdict;
      is_reply = (
        found.1,
        words.numbers,
        ap (λ text. text ++ verdict_text words.verdict) found.2
            ∙ ap (λ others. c.args.line.now ++ others) words.is_text ∙ sym begins,
      );
      is_kind = words.is_kind;
    }
