-- What the proofs of other crates may cite of replies.
pub use Rattle.bb_run.proofs.CheckReplies.{answered, opened}
pub use Rattle.bb_run.proofs.CheckSummaries.{fine_by_word, fine_reply, unread_is_apart, word_if_fine}
pub use Rattle.bb_run.proofs.Lengths.{check_reply_short, refusal_short, reply_short}
pub use Rattle.bb_run.proofs.Peaks.{IsPeak-over, IsPeak-past, all_more, clean_more}
