-- What the levels of the tree say of configurations.
use Rattle.std.proofs.Common.{◌≡◌, ◌≢◌, ℕ, zero, suc, ◌<◌, ◌≤◌, Bool, true, false, cond, inl, inr, Option}
use Rattle.std.proofs.Common.{Some, None, List, [], ◌∷◌, length, get_or, option_and_then, ℤ, pos, neg_ℤ, ◌+ℤ◌}
use Rattle.std.proofs.Common.{refl, ap, sym, ◌∙◌, arith}
use Rattle.std.specs.List.{flat_map}
use Rattle.std.specs.Ordering.{int_eq}
use Rattle.std.proofs.lemmas.Bool.{cases_lt, cases_Bool, eqb-true, eq-eqb, cond-true, cond-false}
use Rattle.std.proofs.lemmas.Bool.Decides.{Decides-int_eq}
use Rattle.std.proofs.lemmas.Int.{ints}
use Rattle.bb_machine.specs.declared.entry.Dir.{Dir}
use Rattle.bb_machine.specs.declared.entry.Dir.TheVariants.{L, R}
use Rattle.bb_machine.specs.declared.entry.Next.{Next}
use Rattle.bb_machine.specs.declared.entry.Next.TheVariants.{State, Halt}
use Rattle.bb_machine.specs.declared.entry.Entry.{Entry}
use Rattle.bb_machine.specs.declared.entry.Entry.TheVariants.{Undefined, Go}
use Rattle.bb_machine.specs.Machine.{Table, entry_of}
use Rattle.bb_tape.specs.Content.{cell, with_cell}
use Rattle.bb_tape.proofs.Facts.{cell-with_cell-same, cell-with_cell-other, by_position}
use Rattle.bb_sim.specs.Configuration.{Configuration, beside, followed, entry_at, next}
use Rattle.bb_sim.specs.Run.{after}
use Rattle.bb_sim.proofs.Facts.{led}
use Rattle.bb_tree.specs.declared.rules.Rule.{Rule}
use Rattle.bb_tree.specs.Tree.{Node, Matches, OneOf, MatchesOne, goes_to, rules_to, with_known}
use Rattle.bb_tree.specs.Tree.{halting_node}
use Rattle.bb_tree.specs.Tree.{left_cell, may_be, seen_from, before_by_entry, before_by, before, level}
use Rattle.bb_tree.specs.Tree.{IsAtHaltingEntry, HaltsNextAfter}
use Rattle.bb_tree.specs.TreeLaws.{LevelsComeBeforeHalts}
use Rattle.bb_tree.proofs.OneOf.{one_more, one-flat_map, one-map}
use Rattle.bb_tree.proofs.RuleEntries.{rule, one-in_table, one-table}

left_behind : (dir : Dir) (head x : ℤ) → beside dir head +ℤ (x +ℤ left_cell dir) ≡ head +ℤ x
left_behind L head x = omega (arith, ints)
left_behind R head x = omega (arith, ints)

left_again : (dir : Dir) (x : ℤ) → (x +ℤ neg_ℤ (left_cell dir)) +ℤ left_cell dir ≡ x
left_again L x = omega (arith, ints)
left_again R x = omega (arith, ints)

at_zero : (head x : ℤ) → x ≡ pos 0 → head +ℤ x ≡ head
at_zero head x e = omega (arith, ints)

pub known-here : (known : ℤ → Option ℕ) (distance : ℤ) (symbol : ℕ) (x : ℤ) → x ≡ distance
    → with_known known distance symbol x ≡ Some symbol
known-here known distance symbol x e = cond-true (int_eq x distance) (Some symbol) (known x)
    ((Decides-int_eq x distance).1 e)

pub known-other : (known : ℤ → Option ℕ) (distance : ℤ) (symbol : ℕ) (x : ℤ) → x ≢ distance
    → with_known known distance symbol x ≡ known x
known-other known distance symbol x apart = elim (cases_Bool (int_eq x distance)) [
  | inl e ↦ absurd (apart ((Decides-int_eq x distance).0 e))
  | inr e ↦ cond-false (int_eq x distance) (Some symbol) (known x) e
]

-- what a node knows of the cell at the head, and of the others
cells_split : (known : ℤ → Option ℕ) (symbol : ℕ) (c : Configuration) → cell c.tape c.head ≡ symbol →
    ((x : ℤ) (s : ℕ) → x ≢ pos 0 → known x ≡ Some s → cell c.tape (c.head +ℤ x) ≡ s) → (x : ℤ) (s : ℕ)
    → with_known known (pos 0) symbol x ≡ Some s → cell c.tape (c.head +ℤ x) ≡ s
cells_split known symbol c here others x s e = by_position x (pos 0) _
    (λ zero_x.
    let same : Some symbol ≡ Some s = sym (known-here known (pos 0) symbol x zero_x) ∙ e in
    let value : symbol ≡ s = cc in
    ap (cell c.tape) (at_zero c.head x zero_x) ∙ here ∙ value)
    (λ apart. others x s apart (sym (known-other known (pos 0) symbol x apart) ∙ e))

-- level 0

module _ (table : Table) (c : Configuration) where
  matches_halting : (state symbol : ℕ) (entry : Entry) → c.state ≡ State state
      → cell c.tape c.head ≡ symbol → Matches (halting_node (rule state symbol entry)) c
  matches_halting state symbol entry in_state on_symbol = record {
    same_state = in_state;
    same_cells = cells_split (λ distance. None) symbol c on_symbol (λ x s apart e. absurd cc);
  }

  pub level_zero : IsAtHaltingEntry table c → MatchesOne (level table 0) c
  level_zero at = (one-map (λ node. Matches node c) halting_node (rules_to table Halt)).1
      (one-table (λ r. Matches (halting_node r) c) table Halt (record {
        state = at.state;
        symbol = cell c.tape c.head;
        within = at.in_table;
        leads = at.halts;
        holds = matches_halting at.state _ (entry_of table at.state (cell c.tape c.head)) at.in_state refl;
      }))

  pub at_level_zero : MatchesOne (level table 0) c → IsAtHaltingEntry table c
  at_level_zero one =
      let found = one-in_table (λ r. Matches (halting_node r) c) table Halt
      ((one-map (λ node. Matches node c) halting_node (rules_to table Halt)).0 one) in
      let here : cell c.tape (c.head +ℤ pos 0) ≡ found.symbol = found.holds.same_cells
      (pos 0) found.symbol (known-here (λ distance. None) (pos 0) found.symbol (pos 0) refl) in
      let on : found.symbol ≡ cell c.tape c.head =
      sym here ∙ ap (cell c.tape) (at_zero c.head (pos 0) refl) in
      record {
        state = found.state;
        in_state = found.holds.same_state;
        in_table = rw (← on) found.within;
        halts = rw (← on) found.leads;
      }

-- one step back

-- c leads to a configuration that matches the node
pub record LeadsTo (table : Table) (node : Node) (c : Configuration) : Type 0 where
  pub then_here : Configuration
  pub is_next : next table c ≡ Some then_here
  pub matches : Matches node then_here

may_be-known : (known : Option ℕ) (symbol s : ℕ) → may_be known symbol ≡ true → known ≡ Some s → symbol ≡ s
may_be-known None symbol s e is = absurd cc
may_be-known (Some k) symbol s e is = let same : k ≡ s = cc in sym (eqb-true k symbol e) ∙ same

may_be-from : (known : Option ℕ) (symbol : ℕ) → ((s : ℕ) → known ≡ Some s → symbol ≡ s)
    → may_be known symbol ≡ true
may_be-from None symbol only = refl
may_be-from (Some k) symbol only = eq-eqb k symbol (sym (only k refl))

module _ (node : Node) (c : Configuration) (state symbol write : ℕ) (dir : Dir) where
  -- what is known before the entry, which leads on
  abbrev earlier : Node
  earlier = record { state = state; known = with_known (seen_from (left_cell dir) node.known) (pos 0) symbol }

  module _ (goal_state : Next) (then_matches : Matches node (led c write dir goal_state)) where
    left_symbol : (s : ℕ) → node.known (left_cell dir) ≡ Some s → write ≡ s
    left_symbol s e =
        let there = then_matches.same_cells (left_cell dir) s e in
        let at : beside dir c.head +ℤ left_cell dir ≡ c.head =
        elim dir as (λ d. beside d c.head +ℤ left_cell d ≡ c.head)
        [ L ↦ omega (arith, ints) | R ↦ omega (arith, ints) ] in
        sym (cell-with_cell-same c.tape c.head write) ∙ ap (cell (with_cell c.tape c.head write)) (sym at)
        ∙ there

    pub fits : may_be (node.known (left_cell dir)) write ≡ true
    fits = may_be-from (node.known (left_cell dir)) write left_symbol

    other_symbols : (x : ℤ) (s : ℕ) → x ≢ pos 0 → seen_from (left_cell dir) node.known x ≡ Some s
        → cell c.tape (c.head +ℤ x) ≡ s
    other_symbols x s apart e =
        let there = then_matches.same_cells (x +ℤ left_cell dir) s e in
        sym (cell-with_cell-other c.tape c.head write (c.head +ℤ x)
        (λ back. apart (omega (arith, ints, back))))
        ∙ ap (cell (with_cell c.tape c.head write)) (sym (left_behind dir c.head x)) ∙ there

    pub matches_before : c.state ≡ State state → cell c.tape c.head ≡ symbol → Matches earlier c
    matches_before in_state on_symbol = record {
      same_state = in_state;
      same_cells = cells_split (seen_from (left_cell dir) node.known) symbol c on_symbol other_symbols;
    }

  module _ (fit : may_be (node.known (left_cell dir)) write ≡ true) (matches : Matches earlier c) where
    pub on_symbol : cell c.tape c.head ≡ symbol
    on_symbol = ap (cell c.tape) (sym (at_zero c.head (pos 0) refl)) ∙ matches.same_cells (pos 0) symbol
        (known-here (seen_from (left_cell dir) node.known) (pos 0) symbol (pos 0) refl)

    -- at a distance x from the earlier head
    then_symbols : (x : ℤ) (s : ℕ) → seen_from (left_cell dir) node.known x ≡ Some s
        → cell (with_cell c.tape c.head write) (c.head +ℤ x) ≡ s
    then_symbols x s e = by_position x (pos 0) _
        (λ zero_x.
        let here : left_cell dir ≡ x +ℤ left_cell dir = omega (arith, ints, zero_x) in
        ap (cell (with_cell c.tape c.head write)) (at_zero c.head x zero_x)
        ∙ cell-with_cell-same c.tape c.head write
        ∙ may_be-known (node.known (left_cell dir)) write s fit (ap node.known here ∙ e))
        (λ apart.
        cell-with_cell-other c.tape c.head write (c.head +ℤ x) (λ back. apart (omega (arith, ints, back)))
        ∙ matches.same_cells x s
        (known-other (seen_from (left_cell dir) node.known) (pos 0) symbol x apart ∙ e))

    pub then_matches : (goal_state : Next) → goal_state ≡ State node.state
        → Matches node (led c write dir goal_state)
    then_matches goal_state e = record {
      same_state = e;
      same_cells = λ y s known.
          let x = y +ℤ neg_ℤ (left_cell dir) in
          let again : x +ℤ left_cell dir ≡ y = left_again dir y in
          ap (cell (with_cell c.tape c.head write)) (ap (λ z. beside dir c.head +ℤ z) (sym again)
          ∙ left_behind dir c.head x) ∙ then_symbols x s (ap node.known again ∙ known);
    }

past_the_group : (group : List Entry) (symbol : ℕ) → length group ≤ symbol
    → get_or group symbol Undefined ≡ Undefined
past_the_group [] symbol h = refl
past_the_group (entry ∷ entries) zero h = absurd (omega (arith, h))
past_the_group (entry ∷ entries) (suc symbol) h = past_the_group entries symbol (omega (arith, h))

-- an entry that leads somewhere stands in the table
pub stands_in : (table : Table) (state symbol write : ℕ) (dir : Dir) (to : Next)
    → entry_of table state symbol ≡ Go write dir to → symbol < length (get_or table state [])
stands_in table state symbol write dir to e = elim (cases_lt symbol (length (get_or table state []))) [
  | inl less ↦ less
  | inr more ↦ let none = past_the_group (get_or table state []) symbol more in absurd cc
]

module _ (table : Table) (node : Node) (c : Configuration) where
  abbrev IsBefore : Rule → Type 0
  IsBefore r = OneOf (λ n. Matches n c) (before_by node r)

  matches_by : (state symbol write : ℕ) (dir : Dir) (to : Next) (entry : Entry) → entry ≡ Go write dir to
      → Matches node (led c write dir to) → c.state ≡ State state → cell c.tape c.head ≡ symbol
      → OneOf (λ n. Matches n c) (before_by_entry node state symbol entry)
  matches_by state symbol write dir to entry e there in_state on_symbol =
      rw (e, fits node c state symbol write dir to there)
      (inl (matches_before node c state symbol write dir to there in_state on_symbol))

  pub step_back : LeadsTo table node c → MatchesOne (before table node) c
  unfolding next
  step_back leads = by_state c.state refl where
    by_entry : (state : ℕ) → c.state ≡ State state → (entry : Entry)
        → entry_of table state (cell c.tape c.head) ≡ entry → followed entry c ≡ Some leads.then_here
        → MatchesOne (before table node) c
    by_entry state in_state Undefined e is_next = absurd cc
    by_entry state in_state (Go write dir to) e is_next =
        let same : led c write dir to ≡ leads.then_here = cc in
        let there : Matches node (led c write dir to) = rw same leads.matches in
        (one-flat_map (λ n. Matches n c) (before_by node) (rules_to table (State node.state))).1
        (one-table IsBefore table (State node.state) (record {
          state = state;
          symbol = cell c.tape c.head;
          within = stands_in table state (cell c.tape c.head) write dir to e;
          leads = ap goes_to e ∙ there.same_state;
          holds = matches_by state (cell c.tape c.head) write dir to _ e there in_state refl;
        }))

    by_state : (state : Next) → c.state ≡ state → MatchesOne (before table node) c
    by_state Halt e =
        let none : followed (entry_at table c.state (cell c.tape c.head)) c ≡ None =
        ap (λ s. followed (entry_at table s (cell c.tape c.head)) c) e in
        absurd (cc leads.is_next)
    by_state (State state) e =
        by_entry state e (entry_of table state (cell c.tape c.head)) refl
        (ap (λ s. followed (entry_at table s (cell c.tape c.head)) c) (sym e) ∙ leads.is_next)

  one_of_choice : (b : Bool) (n : Node) → OneOf (λ n. Matches n c) (cond b (n ∷ []) [])
      → (b ≡ true) × Matches n c
  one_of_choice true n (inl matches) = (refl, matches)
  one_of_choice true n (inr none) = absurd none
  one_of_choice false n none = absurd none

  leads_by : (state symbol : ℕ) (entry : Entry) → entry_of table state symbol ≡ entry
      → goes_to entry ≡ State node.state
      → OneOf (λ n. Matches n c) (before_by_entry node state symbol entry) → LeadsTo table node c
  unfolding next
  leads_by state symbol Undefined e leads one = absurd one
  leads_by state symbol (Go write dir to) e leads one =
      let both = one_of_choice (may_be (node.known (left_cell dir)) write)
      (earlier node c state symbol write dir) one in
      let on = on_symbol node c state symbol write dir both.0 both.1 in
      let entry_here : entry_at table c.state (cell c.tape c.head) ≡ Go write dir to =
      ap (λ s. entry_at table s (cell c.tape c.head)) both.1.same_state ∙ ap (entry_of table state) on ∙ e in
      record {
        then_here = led c write dir to;
        is_next = ap (λ entry. followed entry c) entry_here;
        matches = then_matches node c state symbol write dir both.0 both.1 to leads;
      }

  pub step_on : MatchesOne (before table node) c → LeadsTo table node c
  step_on one =
      let found = one-in_table IsBefore table (State node.state)
      ((one-flat_map (λ n. Matches n c) (before_by node) (rules_to table (State node.state))).0 one) in
      leads_by found.state found.symbol (entry_of table found.state found.symbol) refl found.leads found.holds

-- c leads to a configuration that matches one of the nodes
pub record LeadsToOne (table : Table) (nodes : List Node) (c : Configuration) : Type 0 where
  pub then_here : Configuration
  pub is_next : next table c ≡ Some then_here
  pub matches : MatchesOne nodes then_here

pub one_step_back : (table : Table) (nodes : List Node) (c : Configuration) → LeadsToOne table nodes c
    → MatchesOne (flat_map (before table) nodes) c
one_step_back table nodes c leads = (one-flat_map (λ n. Matches n c) (before table) nodes).1
    (one_more (λ n. Matches n leads.then_here) (λ n. OneOf (λ m. Matches m c) (before table n))
    (λ n there. step_back table n c
    (record { then_here = leads.then_here; is_next = leads.is_next; matches = there })) nodes leads.matches)

collect : (table : Table) (nodes : List Node) (c : Configuration) → OneOf (λ n. LeadsTo table n c) nodes
    → LeadsToOne table nodes c
collect table [] c one = absurd one
collect table (node ∷ nodes) c (inl leads) =
    record { then_here = leads.then_here; is_next = leads.is_next; matches = inl leads.matches }
collect table (node ∷ nodes) c (inr one) =
    let further = collect table nodes c one in
    record { then_here = further.then_here; is_next = further.is_next; matches = inr further.matches }

pub one_step_on : (table : Table) (nodes : List Node) (c : Configuration)
    → MatchesOne (flat_map (before table) nodes) c → LeadsToOne table nodes c
one_step_on table nodes c one = collect table nodes c
    (one_more (λ n. OneOf (λ m. Matches m c) (before table n)) (λ n. LeadsTo table n c)
    (λ n there. step_on table n c there) nodes
    ((one-flat_map (λ n. Matches n c) (before table) nodes).0 one))

-- i steps back

after-first : (table : Table) (c d : Configuration) → next table c ≡ Some d → (i : ℕ)
    → after table c (suc i) ≡ after table d i
after-first table c d e zero = e
after-first table c d e (suc i) = ap (option_and_then (next table)) (after-first table c d e i)

no_first : (table : Table) (c : Configuration) → next table c ≡ None → (i : ℕ) → after table c (suc i) ≡ None
no_first table c e zero = e
no_first table c e (suc i) = ap (option_and_then (next table)) (no_first table c e i)

matches_by_next : (table : Table) (i : ℕ) (c : Configuration)
    → ((d : Configuration) → HaltsNextAfter table d i → MatchesOne (level table i) d)
    → HaltsNextAfter table c (suc i) → (o : Option Configuration) → next table c ≡ o
    → MatchesOne (level table (suc i)) c
matches_by_next table i c later halts None e = absurd (cc (no_first table c e i, halts.exists))
matches_by_next table i c later halts (Some d) e = one_step_back table (level table i) c (record {
  then_here = d;
  is_next = e;
  matches = later d (record {
    then_here = halts.then_here;
    exists = sym (after-first table c d e i) ∙ halts.exists;
    at_halt = halts.at_halt;
  });
})

pub matches_level : (table : Table) (i : ℕ) (c : Configuration) → HaltsNextAfter table c i
    → MatchesOne (level table i) c
matches_level table zero c halts =
    let same : halts.then_here ≡ c = cc (halts.exists) in level_zero table c (rw same at halts.at_halt)
matches_level table (suc i) c halts =
    matches_by_next table i c (λ d. matches_level table i d) halts (next table c) refl

pub halts_from_level : (table : Table) (i : ℕ) (c : Configuration) → MatchesOne (level table i) c
    → HaltsNextAfter table c i
halts_from_level table zero c one =
    record { then_here = c; exists = refl; at_halt = at_level_zero table c one }
halts_from_level table (suc i) c one =
    let leads = one_step_on table (level table i) c one in
    let halts = halts_from_level table i leads.then_here leads.matches in
    record {
      then_here = halts.then_here;
      exists = after-first table c leads.then_here leads.is_next i ∙ halts.exists;
      at_halt = halts.at_halt;
    }

pub levels_come_before_halts : LevelsComeBeforeHalts
levels_come_before_halts table c i = (matches_level table i c, halts_from_level table i c)
