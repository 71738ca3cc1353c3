-- Where the tree ends, and what follows where the start matches no node of it.
use Rattle.std.proofs.Common.{◌≡◌, ℕ, zero, suc, ◌+◌, ◌-◌, ◌<◌, inl, inr, Some, None, List, [], ◌∷◌, length}
use Rattle.std.proofs.Common.{get_or, map, refl, ap, sym, subst, ◌∙◌, arith}
use Rattle.std.specs.List.{AllByRecursion, flat_map}
use Rattle.std.proofs.lemmas.Bool.{cases_lt, cases_order}
use Rattle.bb_machine.specs.declared.entry.Next.{Next}
use Rattle.bb_machine.specs.declared.entry.Next.TheVariants.{State, Halt}
use Rattle.bb_machine.specs.declared.entry.Entry.{Entry}
use Rattle.bb_machine.specs.declared.entry.Entry.TheVariants.{Undefined, Go}
use Rattle.bb_machine.specs.Entry.{IsNextOf}
use Rattle.bb_machine.specs.Machine.{Table, IsGroup, IsMachine, symbols_of}
use Rattle.bb_tape.specs.Content.{cell}
use Rattle.bb_sim.specs.Configuration.{Configuration, start, followed, entry_at, next}
use Rattle.bb_sim.specs.Run.{conf, HaltsAt}
use Rattle.bb_sim.proofs.Facts.{IsNamed, run_named, led}
use Rattle.bb_tree.specs.Tree.{Node, MatchesOne, goes_to, rules_to, halting_node, before, grown, level}
use Rattle.bb_tree.specs.Tree.{nodes_below, Ends, Clear, IsAtHaltingEntry}
use Rattle.bb_tree.specs.TreeLaws.{EmptyLevelsStay, ClearTreesNeverHalt, TreeHasOneEnd}
use Rattle.bb_tree.proofs.Runs.{moves}
use Rattle.bb_tree.proofs.Levels.{matches_level}

stays_empty : (table : Table) (nodes : List Node) (i d : ℕ) → grown table nodes i ≡ []
    → grown table nodes (d + i) ≡ []
stays_empty table nodes i zero e = let n : 0 + i ≡ i = omega arith in ap (grown table nodes) n ∙ e
stays_empty table nodes i (suc d) e =
    let n : suc d + i ≡ suc (d + i) = omega arith in
    ap (grown table nodes) n ∙ ap (flat_map (before table)) (stays_empty table nodes i d e)

pub empty_levels_stay : EmptyLevelsStay
empty_levels_stay table i j h e =
    let n : j ≡ (j - i) + i = omega (arith, h) in
    ap (level table) n ∙ stays_empty table (map halting_node (rules_to table Halt)) i (j - i) e

pub tree_has_one_end : TreeHasOneEnd
tree_has_one_end table h k i j a b =
    let same : h ≡ i = elim (cases_order h i) [
      | inl e ↦ e
      | inr (inl less) ↦ absurd (b.is_first h less a.is_empty)
      | inr (inr more) ↦ absurd (a.is_first i more b.is_empty)
    ] in
    (same, a.counted ∙ ap (nodes_below table) same ∙ sym b.counted)

pub group_long : (states symbols : ℕ) (table : Table) → AllByRecursion (IsGroup states symbols) table
    → (state : ℕ) → state < length table → length (get_or table state []) ≡ symbols
group_long states symbols [] all state h = absurd (omega (arith, h))
group_long states symbols (group ∷ groups) all zero h = (all.0).full
group_long states symbols (group ∷ groups) all (suc state) h = group_long states symbols groups all.1 state
    (omega (arith, h))

-- a halt comes from a halting entry

entry_halts : (entry : Entry) (c : Configuration) → followed entry c ≡ None → goes_to entry ≡ Halt
entry_halts Undefined c e = refl
entry_halts (Go write dir to) c e = absurd cc

entry_into_halt : (entry : Entry) (c d : Configuration) → followed entry c ≡ Some d → d.state ≡ Halt
    → goes_to entry ≡ Halt
entry_into_halt Undefined c d e into = absurd cc
entry_into_halt (Go write dir to) c d e into =
    let same : led c write dir to ≡ d = cc in ap (λ (x : Configuration). x.state) same ∙ into

-- a configuration in a state whose entry halts
at_halting : (table : Table) (c : Configuration) → IsMachine table → IsNamed table c → (state : ℕ)
    → c.state ≡ State state → goes_to (entry_at table c.state (cell c.tape c.head)) ≡ Halt
    → IsAtHaltingEntry table c
at_halting table c machine named state in_state halts = record {
  state = state;
  in_state = in_state;
  in_table = omega (
    arith,
    group_long (length table) (symbols_of table) table machine.groups state
        (subst (IsNextOf (length table)) in_state named.state),
    named.symbols c.head,
  );
  halts = ap (λ s. goes_to (entry_at table s (cell c.tape c.head))) (sym in_state) ∙ halts;
}

-- before a step into Z the entry halts
pub before_z : (table : Table) (c d : Configuration) → IsMachine table → IsNamed table c → next table c
    ≡ Some d
    → d.state ≡ Halt → (state : Next) → c.state ≡ state → IsAtHaltingEntry table c
unfolding next
before_z table c d machine named e into (State state) in_state =
    at_halting table c machine named state in_state
    (entry_into_halt (entry_at table c.state (cell c.tape c.head)) c d e into)
before_z table c d machine named e into Halt in_state =
    let none : followed (entry_at table c.state (cell c.tape c.head)) c ≡ None =
    ap (λ s. followed (entry_at table s (cell c.tape c.head)) c) in_state in
    absurd cc

pub at_end : (table : Table) (c : Configuration) → IsMachine table → IsNamed table c → next table c ≡ None
    → (state : ℕ) → c.state ≡ State state → IsAtHaltingEntry table c
unfolding next
at_end table c machine named e state in_state =
    at_halting table c machine named state in_state
    (entry_halts (entry_at table c.state (cell c.tape c.head)) c e)

record HasHaltingEntry (table : Table) : Type 0 where
  step : ℕ
  here : Configuration
  exists : conf table step ≡ Some here
  at_halt : IsAtHaltingEntry table here

halting_entry : (table : Table) (n : ℕ) → IsMachine table → (halts : HaltsAt table n) → (state : Next)
    → halts.last.state ≡ state → HasHaltingEntry table
unfolding conf
halting_entry table n machine halts (State state) e = record {
  step = n;
  here = halts.last;
  exists = halts.exists;
  at_halt = at_end table halts.last machine (run_named table machine n halts.last halts.exists) halts.no_next
      state e;
}
halting_entry table zero machine halts Halt e =
    let same : start ≡ halts.last = cc (halts.exists) in
    let wrong : State 0 ≡ Halt = ap (λ c. c.state) same ∙ e in
    absurd cc
halting_entry table (suc n) machine halts Halt e =
    let moved = moves table n (record { here = halts.last; exists = halts.exists }) in
    let same : moved.then_here ≡ halts.last = cc (moved.at_then, halts.exists) in
    record {
      step = n;
      here = moved.before;
      exists = moved.at_before;
      at_halt = before_z table moved.before halts.last machine
          (run_named table machine n moved.before moved.at_before) (moved.is_next ∙ ap Some same) e
          moved.before.state refl;
    }

no_match : (table : Table) (h k m : ℕ) → Ends table h k → Clear table h → MatchesOne (level table m) start → ⊥
no_match table h k m ends clear one = elim (cases_lt m h) [
  | inl less ↦ clear.clear m less one
  | inr more ↦ subst (λ nodes. MatchesOne nodes start) (empty_levels_stay table h m more ends.is_empty) one
]

pub clear_trees_never_halt : ClearTreesNeverHalt
unfolding conf
clear_trees_never_halt table h k machine ends clear = record {
  never = λ n halts.
      let found = halting_entry table n machine halts halts.last.state refl in
      no_match table h k found.step ends clear
      (matches_level table found.step start
      (record { then_here = found.here; exists = found.exists; at_halt = found.at_halt }));
}
