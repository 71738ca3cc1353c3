-- The parts of a marked reader or writer read by clauses.
use Rattle.std.specs.Prelude.{ℕ, Bool}
use Rattle.bb_lines.specs.declared.watched.Watched.{Watched}

-- the reader or writer inside
abbrev pub watched_inner : {X : Type 0} → Watched X → X
watched_inner w = w.inner

-- whether a call answered Failed so far
abbrev pub is_marked : {X : Type 0} → Watched X → Bool
is_marked w = w.mark

-- how many reads were made
abbrev pub reads_of : {X : Type 0} → Watched X → ℕ
reads_of w = w.reads
