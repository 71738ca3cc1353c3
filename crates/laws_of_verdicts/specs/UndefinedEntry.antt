-- A machine that halts on an undefined entry, and the behaviour of its completions there. These notions are
-- this project's own.
use Rattle.std.specs.Prelude.{◌≡◌, ◌≢◌, ℕ, ◌+◌, ◌<◌, min, Some, length}
use Rattle.bb_machine.specs.declared.entry.Dir.{Dir}
use Rattle.bb_machine.specs.declared.entry.Entry.TheVariants.{Undefined, Go}
use Rattle.bb_machine.specs.declared.entry.Next.TheVariants as next
use Rattle.bb_machine.specs.Machine.{Table, entry_of, symbols_of}
use Rattle.bb_tape.specs.Content.{cell}
use Rattle.bb_sim.specs.Configuration.{Configuration}
use Rattle.bb_sim.specs.Run.{conf, HaltsAt, IsScore}
use Rattle.bb_cert.specs.declared.verdict.Verdict.TheVariants.{Halt}
use Rattle.bb_cert.specs.claims.Claim.{Claim}
use Rattle.laws_of_verdicts.specs.Completion.{IsCompletion}

-- after so many steps the machine is in that state at that symbol, for which it has `---`
pub record HaltsOnUndefined (table : Table) (steps state symbol : ℕ) : Type 0 where
  pub last : Configuration
  pub exists : conf table steps ≡ Some last
  pub in_state : last.state ≡ next.State state
  pub at_symbol : cell last.tape last.head ≡ symbol
  pub undefined : entry_of table state symbol ≡ Undefined

-- it has `---` for another state or another symbol too
pub record HasOtherUndefined (table : Table) (state symbol : ℕ) : Type 0 where
  pub other_state : ℕ
  pub other_symbol : ℕ
  pub state_named : other_state < length table
  pub symbol_named : other_symbol < symbols_of table
  pub other : other_state ≡ state → other_symbol ≢ symbol
  pub undefined : entry_of table other_state other_symbol ≡ Undefined

-- the machine halts one step later, by an entry into Z that writes over a symbol
pub record HaltsNext (machine : Table) (steps score symbol write : ℕ) : Type 0 where
  pub new_score : ℕ
  pub halts : HaltsAt machine (steps + 1)
  pub scores : IsScore machine (steps + 1) new_score
  pub counted : new_score + min 1 symbol ≡ score + min 1 write

-- a completion with `---` there too does the same
abbrev pub UndefinedEntriesKeepHalts : Type 0
UndefinedEntriesKeepHalts = (table machine : Table) (steps score state symbol : ℕ)
    → IsCompletion table machine → HaltsOnUndefined table steps state symbol
    → entry_of machine state symbol ≡ Undefined
    → Claim table (Halt steps score) → Claim machine (Halt steps score)

-- one with an entry into Z there halts one step later, and its score differs by the cell that it writes
abbrev pub FilledEntriesHaltNext : Type 0
FilledEntriesHaltNext = (table machine : Table) (steps score state symbol write : ℕ) (dir : Dir)
    → IsCompletion table machine → HaltsOnUndefined table steps state symbol
    → entry_of machine state symbol ≡ Go write dir next.Halt → Claim table (Halt steps score)
    → HaltsNext machine steps score symbol write
