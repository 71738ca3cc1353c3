use Rattle.std.proofs.Common.{[], ◌∷◌, ◌++◌, take, refl}
use Rattle.bb_lines.proofs.Prefixes.{IsTaken, cut_after_line, cut_at_first, taken_to_end}
use Rattle.bb_lines.proofs.Replies.{FoldsTo-append}
use Rattle.bb_lines.proofs.sink.accept_chunk.Given.{Over}
use Rattle.bb_lines.proofs.sink.accept_chunk.Goals as goal
use Rattle.bb_lines.proofs.sink.accept_chunk.Goals.{After-keep_prefix}

pub loop-at-init : goal.loop-at-init
loop-at-init g c = record {
  ready = c.requires.ready;
  keeps = g.met.A.LineSink.keeps_at_first c.args.sink.now;
  ended = [];
  cut = cut_at_first g.A.LineSink.KEEP c.args.kept.now.items c.args.piece.now c.requires.kept
      c.requires.one_line;
  took = refl;
}

pub loop-at-preserved : goal.loop-at-preserved
loop-at-preserved g c =
    let here = c.loop-at.invariant in
    let found = c.in-Some.ensures in
    let done = c.in_ok-accept_whole.ensures in
    record {
      ready = done.ready;
      keeps = g.met.A.LineSink.keeps_on _ _ _ here.keeps done.keeps;
      ended = here.ended
          ++ take g.A.LineSink.KEEP (c.loop-at.kept.items ++ take c.in-Some.at c.loop-at.rest.now) ∷ [];
      cut = cut_after_line here.cut c.in-Some.at found.0.high found.0.before found.1 done.kept;
      took = FoldsTo-append g.A.LineSink.took _ _ _ _ _ here.took (c.accept_whole.new.sink, done.took, refl);
    }

-- all of the piece
taken : (g : Over) (c : After-keep_prefix g)
    → IsTaken g.A.LineSink.KEEP (c.args.kept.now.items ++ c.args.piece.now) c.loop-at.invariant.ended
    c.keep_prefix.new.kept.items
taken g c = taken_to_end c.loop-at.invariant.cut c.in_default.ensures c.bytes_kept-most.ensures
    c.keep_prefix.ensures

pub returns-clause-took : goal.returns-clause-took
returns-clause-took g c = rw (taken g c).is_ended c.loop-at.invariant.took

pub returns-clause-kept : goal.returns-clause-kept
returns-clause-kept g c = (taken g c).is_kept

pub returns-clause-one_line : goal.returns-clause-one_line
returns-clause-one_line g c = (taken g c).one_line
