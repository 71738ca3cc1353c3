-- How much a reply may cost and still wait for the next line: this project's own.
use Rattle.std.specs.Prelude.{ℕ}

-- a cost above this is high: its reply is written before the next line starts
abbrev pub high_cost : ℕ
high_cost = 100000
