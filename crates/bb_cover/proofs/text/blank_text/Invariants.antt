use Rattle.std.proofs.Common.{◌≡◌, map, take}
use Rattle.bb_cover.proofs.Texts.{dash}
use Rattle.bb_cover.proofs.text.blank_text.Given as goal

abbrev pub invariant-loop-byte : goal.invariant-loop-byte
invariant-loop-byte l = l.words.items ≡ map dash (take l.byte-index l.byte-items)
