use Rattle.std.proofs.Common.{inl}
use Rattle.bb_cover.proofs.FoundLines.{has_entry_text}
use Rattle.bb_cover.proofs.lines.LineFinderResponder.respond.Goals as goal

pub line_into-requires-clause-entry : goal.line_into-requires-clause-entry
line_into-requires-clause-entry g c =
    has_entry_text _ _ _ c.in-Ok.ensures.found.0 c.in-Ok-line_of.ensures.line

pub returns-clause-reply : goal.returns-clause-reply
returns-clause-reply g c = inl (record {
  table = _;
  is_text = record { machine = c.in-Ok.ensures.found.0; is_text = c.in-Ok.ensures.found.1 };
  found = _;
  is_line = c.in-Ok-line_of.ensures.line;
  is_reply = c.line_into.ensures;
})
