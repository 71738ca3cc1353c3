use Rattle.std.proofs.Common.{◌≡◌, ◌<◌, ◌^◌, length}
use Rattle.std.specs.Str.Parse.{AllDigits, digits_value, digits_value_after}
use Rattle.bb_cert.proofs.verdict.reader.value_of.Given as goal

-- the digits read so far write the value, and the rest continues it
abbrev pub invariant-loop-digit : goal.invariant-loop-digit
invariant-loop-digit l = record {
  fits : l.value < 2 ^ 64;
  read : AllDigits 10 l.rest → AllDigits 10 l.digits;
  ahead : AllDigits 10 l.digits → AllDigits 10 l.rest;
  value : digits_value_after 10 l.value l.rest ≡ digits_value 10 l.digits;
}

abbrev pub decreases-loop-digit : goal.decreases-loop-digit
decreases-loop-digit l = length l.rest
