-- What other crates' proofs cite of this one: how bytes are cut at newlines, what one call after another
-- sends, and what is written by then.
pub use Rattle.bb_lines.proofs.Pieces.{IsOther, lines-from_pieces, pieces-line, pieces-none, pieces_end}
pub use Rattle.bb_lines.proofs.Prefixes.{line_split, no_newline_before}
pub use Rattle.bb_lines.proofs.Sends.{AppendsPrefix-more, AppendsPrefix-sent, AppendsPrefix-after}
pub use Rattle.bb_lines.proofs.Sends.{AppendsPrefix-further, Appends-after, Appends-further, Appends-sent}
pub use Rattle.bb_lines.proofs.Sends.{Sends-none, Sends-trans, Sends-written}
pub use Rattle.bb_lines.proofs.Replies.{AreReplies-append, AreReplies-weaker, FoldsTo-append}
