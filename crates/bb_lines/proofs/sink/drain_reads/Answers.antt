use Rattle.std.proofs.Common.{rules, [], ◌++◌, take, refl}
use Rattle.std.proofs.KnownBytes.{Consumes-nil, Consumes-trans}
use Rattle.bb_lines.specs.Lines.{complete}
use Rattle.bb_lines.specs.inside.Progress.{prefixes}
use Rattle.bb_lines.proofs.Prefixes.{few_kept, taken_more, taken_none}
use Rattle.bb_lines.proofs.Replies.{FoldsTo-append}
use Rattle.bb_lines.proofs.sink.drain_reads.Goals as goal

pub loop-n-init : goal.loop-n-init
loop-n-init g c = record {
  unmarked = c.requires.reader;
  ready = c.requires.ready;
  keeps = g.met.A.LineSink.keeps_at_first c.args.sink.now;
  past = [];
  consumed = Consumes-nil _;
  ended = [];
  taken = taken_none _ c.requires.kept;
  took = refl;
}

pub loop-n-preserved : goal.loop-n-preserved
loop-n-preserved g c =
    let here = c.loop-n.invariant in
    let done = c.in-Ok-accept_chunk.ensures in
    let piece = take c.in-Ok.n c.read.new.buf in
    record {
      unmarked = search rules;
      ready = done.ready;
      keeps = g.met.A.LineSink.keeps_on _ _ _ here.keeps done.keeps;
      past = here.past ++ piece;
      consumed = Consumes-trans _ _ _ here.past _ here.consumed c.in-Ok.ensures.bytes.0;
      ended = here.ended ++ prefixes g.A.LineSink.KEEP (complete (c.loop-n.kept.items ++ piece));
      taken = taken_more here.taken piece done.one_line done.kept;
      took = FoldsTo-append g.A.LineSink.took _ _ _ _ _ here.took done.took;
    }

pub accept_chunk-requires-clause-kept : goal.accept_chunk-requires-clause-kept
accept_chunk-requires-clause-kept g c = few_kept c.loop-n.invariant.taken

pub returns-then-n-eq0-clause-ends : goal.returns-then-n-eq0-clause-ends
returns-then-n-eq0-clause-ends g c =
    let here = c.loop-n.invariant in (
      here.past,
      search rules,
      (search rules, rw here.taken.is_ended here.took, here.taken.is_kept),
    )

pub returns-then-n-eq0-clause-kept : goal.returns-then-n-eq0-clause-kept
returns-then-n-eq0-clause-kept g c = few_kept c.loop-n.invariant.taken

pub returns-in_default-clause-ends : goal.returns-in_default-clause-ends
returns-in_default-clause-ends g c =
    let here = c.loop-n.invariant in (
      here.past ++ take c.in-Ok.n c.read.new.buf,
      Consumes-trans _ _ _ here.past _ here.consumed c.in-Ok.ensures.bytes.0,
      tt,
    )
