-- The text of a fault on standard error.
use Rattle.std.specs.Prelude.{ℕ, List, codes}
use Rattle.bb_lines.specs.declared.fault.Fault.{Fault}
use Rattle.bb_lines.specs.declared.fault.Fault.TheVariants.{Memory, Read, Write}

-- the text of each fault; this project's own
abbrev pub fault_text : Fault → List ℕ
fault_text Memory = codes "bb: out of memory"
fault_text Read = codes "bb: read failed"
fault_text Write = codes "bb: write failed"
