-- Why a machine whose tree ends halts soon or never, from every start.
use Rattle.std.proofs.Common.{◌≡◌, ℕ, zero, suc, ◌<◌, ◌≤◌, inl, inr, Option, Some, None, List}
use Rattle.std.proofs.Common.{option_and_then, refl, ap, sym, subst, ◌∙◌, arith}
use Rattle.std.proofs.lemmas.Bool.{cases_lt}
use Rattle.bb_machine.specs.declared.entry.Next.{Next}
use Rattle.bb_machine.specs.declared.entry.Next.TheVariants.{State, Halt}
use Rattle.bb_machine.specs.Machine.{Table, IsMachine}
use Rattle.bb_sim.specs.Configuration.{Configuration, next}
use Rattle.bb_sim.specs.Run.{after}
use Rattle.bb_sim.proofs.Facts.{IsNamed, next_named}
use Rattle.bb_tree.specs.Tree.{Node, MatchesOne, IsAtHaltingEntry, Ends}
use Rattle.bb_cert.proofs.Facts.{at_end, before_z, matches_level, empty_levels_stay}
use Rattle.laws_of_verdicts.specs.EveryStart.{HaltsFrom, EveryStartHaltsSoonOrNever}

-- a step of a run from c, and the one before it
record Steps (table : Table) (c : Configuration) (n : ℕ) (d : Configuration) : Type 0 where
  before : Configuration
  at_before : after table c n ≡ Some before
  is_next : next table before ≡ Some d

step_of : (table : Table) (c : Configuration) (n : ℕ) (d : Configuration) → after table c (suc n) ≡ Some d
    → Steps table c n d
step_of table c n d e = by_case (after table c n) refl where
  by_case : (o : Option Configuration) → after table c n ≡ o → Steps table c n d
  by_case None none =
      let gone : after table c (suc n) ≡ None = ap (option_and_then (next table)) none in
      absurd cc
  by_case (Some b) some = record {
    before = b;
    at_before = some;
    is_next = ap (option_and_then (next table)) (sym some) ∙ e;
  }

run_named : (table : Table) → IsMachine table → (c : Configuration) → IsNamed table c → (n : ℕ)
    (d : Configuration) → after table c n ≡ Some d → IsNamed table d
run_named table machine c named zero d e =
    let same : c ≡ d = cc in subst (IsNamed table) same named
run_named table machine c named (suc n) d e =
    let step = step_of table c n d e in
    next_named table step.before d machine
    (run_named table machine c named n step.before step.at_before) step.is_next

-- what comes before a halt matches a node, so its level isn't empty
below_end : (table : Table) (levels nodes : ℕ) → Ends table levels nodes → (c d : Configuration) (i : ℕ)
    → after table c i ≡ Some d → IsAtHaltingEntry table d → i < levels
below_end table levels nodes ends c d i e halts = elim (cases_lt i levels) [
  | inl less ↦ less
  | inr more ↦
      let one = matches_level table i c (record { then_here = d; exists = e; at_halt = halts }) in
      absurd (subst (λ (xs : List Node). MatchesOne xs c)
      (empty_levels_stay table levels i more ends.is_empty) one)
]

halts_in : (table : Table) (levels nodes : ℕ) (c : Configuration) (n : ℕ) → IsMachine table
    → Ends table levels nodes → IsNamed table c → (halts : HaltsFrom table c n) → (state : Next)
    → halts.last.state ≡ state → n ≤ levels
halts_in table levels nodes c n machine ends named halts (State state) in_state =
    let there = run_named table machine c named n halts.last halts.exists in
    let less = below_end table levels nodes ends c halts.last n halts.exists
    (at_end table halts.last machine there halts.no_next state in_state) in
    omega (arith, less)
halts_in table levels nodes c zero machine ends named halts Halt in_z = omega arith
halts_in table levels nodes c (suc n) machine ends named halts Halt in_z =
    let step = step_of table c n halts.last halts.exists in
    let there = run_named table machine c named n step.before step.at_before in
    below_end table levels nodes ends c step.before n step.at_before
    (before_z table step.before halts.last machine there step.is_next in_z step.before.state refl)

pub every_start_halts_soon_or_never : EveryStartHaltsSoonOrNever
every_start_halts_soon_or_never table levels nodes c n machine ends named halts =
    halts_in table levels nodes c n machine ends
    (record { state = named.state; symbols = named.symbols }) halts halts.last.state refl
