use Rattle.std.proofs.Common.{◌≡◌, ◌+◌, ◌++◌}
use Rattle.arrayvec.specs.ArrayVec.{array_vec_len}
use Rattle.bb_cover.specs.LineReply.{names_text}
use Rattle.bb_cover.proofs.line_text.names_into.Given as goal

abbrev pub invariant-loop-name : goal.invariant-loop-name
invariant-loop-name l = record {
  written : l.reply.items ≡ l.fn.reply.items ++ names_text l.first l.names.new l.name;
  length : array_vec_len l.reply ≡ array_vec_len l.fn.reply + l.name;
}
