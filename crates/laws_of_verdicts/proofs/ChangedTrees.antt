-- Why the tree of a changed machine has as many nodes in each level.
use Rattle.std.proofs.Common.{◌≡◌, ℕ, zero, suc, ◌+◌, ◌<◌, Bool, true, false, cond, nat_eq, Option, Some}
use Rattle.std.proofs.Common.{None, List, [], ◌∷◌, ◌++◌, map, length, get_or, filter, ℤ, pos}
use Rattle.std.proofs.Common.{◌+ℤ◌, refl, ap, ap₂, sym, ◌∙◌, arith}
use Rattle.std.proofs.Math.Path.{fun_ext}
use Rattle.std.proofs.lemmas.Bool.Decides.{Decides-eqb, same_from_decides}
use Rattle.std.proofs.lemmas.List.Elements.{All-from_recursion, filter-append}
use Rattle.std.proofs.lemmas.List.Sums.{sum_by-append, sum_by-cons}
use Rattle.std.specs.Bool.{Decides}
use Rattle.std.specs.Cmp.{signed_Decides}
use Rattle.std.specs.List.{sum_by}
use Rattle.std.specs.Ordering.{int_eq}
use Rattle.bb_machine.specs.declared.entry.Dir.{Dir}
use Rattle.bb_machine.specs.declared.entry.Dir.TheVariants as dir
use Rattle.bb_machine.specs.declared.entry.Entry.{Entry}
use Rattle.bb_machine.specs.declared.entry.Entry.TheVariants.{Undefined, Go}
use Rattle.bb_machine.specs.declared.entry.Next.{Next}
use Rattle.bb_machine.specs.declared.entry.Next.TheVariants.{State, Halt}
use Rattle.bb_machine.specs.Machine.{Table, IsGroup, IsMachine, entry_of, symbols_of}
use Rattle.bb_tree.specs.Tree.{Node, rules_in, rules_from, goes_to, is_same, leads_to, rules_to}
use Rattle.bb_tree.specs.Tree.{with_known, halting_node, left_cell, may_be, seen_from, before_by_entry}
use Rattle.bb_tree.specs.Tree.{before_by, before, level, nodes_below}
use Rattle.laws_of_verdicts.specs.Change.{Change, IsChanged, Renaming, changed_entry, changed_next, placed, turned}
use Rattle.laws_of_verdicts.proofs.ChangedRuns.{placed-add, placed-twice, placed-zero}
use Rattle.laws_of_verdicts.proofs.Sums.{length-sum, sum_by-each, sum_by-flat_map, sum_by-map, sum_from}
use Rattle.laws_of_verdicts.proofs.Sums.{sum_from-each, sum_from-renamed}

-- sums over states and symbols

-- what each state and symbol counts
abbrev pub over : (states symbols : ℕ) → (ℕ → ℕ → ℕ) → ℕ
over states symbols f = sum_from 0 states (λ q. sum_from 0 symbols (f q))

-- what an element counts, if it passes
abbrev given : {X : Type 0} → (X → ℕ) → (X → Bool) → X → ℕ
given weight p x = cond (p x) (weight x) 0

module _ {X : Type 0} (weight : X → ℕ) (p : X → Bool) where
  weigh-cons : (x : X) (xs : List X)
      → sum_by weight (filter p (x ∷ xs)) ≡ given weight p x + sum_by weight (filter p xs)
  weigh-cons x xs = chosen (p x) where
    chosen : (b : Bool) → sum_by weight (cond b (x ∷ filter p xs) (filter p xs))
        ≡ cond b (weight x) 0 + sum_by weight (filter p xs)
    chosen true = sum_by-cons weight x (filter p xs)
    chosen false = omega arith

  weigh-append : (xs ys : List X) → sum_by weight (filter p (xs ++ ys))
      ≡ sum_by weight (filter p xs) + sum_by weight (filter p ys)
  weigh-append xs ys = ap (sum_by weight) (filter-append p xs ys)
      ∙ sum_by-append weight (filter p xs) (filter p ys)

-- the rules of a group, from a symbol on
weigh_group : (weight : _ → ℕ) (p : _ → Bool) (q k : ℕ) (group : List Entry) (entry : ℕ → Entry)
    → ((i : ℕ) → get_or group i Undefined ≡ entry (k + i))
    → sum_by weight (filter p (rules_in q k group))
    ≡ sum_from k (length group) (λ s. given weight p (record { state = q; symbol = s; entry = entry s }))
weigh_group weight p q k [] entry each = refl
weigh_group weight p q k (x ∷ xs) entry each =
    let k_is : k + 0 ≡ k = omega arith in
    let rest = weigh_group weight p q (k + 1) xs entry (λ i.
    let e : k + suc i ≡ (k + 1) + i = omega arith in each (suc i) ∙ ap entry e) in
    weigh-cons weight p (record { state = q; symbol = k; entry = x }) (rules_in q (k + 1) xs)
    ∙ ap₂ ◌+◌ (ap (λ e. given weight p (record { state = q; symbol = k; entry = e }))
    (each 0 ∙ ap entry k_is)) rest

-- the rules of the groups from a state on
weigh_table : (weight : _ → ℕ) (p : _ → Bool) (symbols k : ℕ) (groups : Table) (entry : ℕ → ℕ → Entry)
    → ((i : ℕ) → i < length groups → length (get_or groups i []) ≡ symbols)
    → ((i j : ℕ) → entry_of groups i j ≡ entry (k + i) j)
    → sum_by weight (filter p (rules_from k groups)) ≡ sum_from k (length groups)
    (λ q. sum_from 0 symbols (λ s. given weight p (record { state = q; symbol = s; entry = entry q s })))
weigh_table weight p symbols k [] entry long each = refl
weigh_table weight p symbols k (group ∷ groups) entry long each =
    let k_is : k + 0 ≡ k = omega arith in
    let first = weigh_group weight p k 0 group (entry k)
    (λ i. let e : i ≡ 0 + i = omega arith in each 0 i ∙ ap₂ entry k_is e) in
    let rest = weigh_table weight p symbols (k + 1) groups entry (λ i h. long (suc i) (omega (arith, h)))
    (λ i j. let e : k + suc i ≡ (k + 1) + i = omega arith in each (suc i) j ∙ ap (λ q. entry q j) e) in
    weigh-append weight p (rules_in k 0 group) (rules_from (k + 1) groups)
    ∙ ap₂ ◌+◌ (first ∙ ap (λ n. sum_from 0 n
    (λ s. given weight p (record { state = k; symbol = s; entry = entry k s }))) (long 0 (omega arith))) rest

pub groups_long : (table : Table) → IsMachine table → (i : ℕ) → i < length table
    → length (get_or table i []) ≡ symbols_of table
groups_long table machine i h =
    (All-from_recursion (IsGroup (length table) (symbols_of table)) table machine.groups i [] h).full

-- the rules of a machine that lead to a state
weigh_rules : (weight : _ → ℕ) (then : Next) (table : Table) → IsMachine table
    → sum_by weight (rules_to table then) ≡ over (length table) (symbols_of table)
    (λ q s. given weight (leads_to then) (record { state = q; symbol = s; entry = entry_of table q s }))
weigh_rules weight then table machine = weigh_table weight (leads_to then) (symbols_of table) 0 table
    (entry_of table) (groups_long table machine)
    (λ i j. let e : i ≡ 0 + i = omega arith in ap (λ q. entry_of table q j) e)

-- what comes before a node by an entry counts, if the entry leads to it
abbrev before_cell : (Node → ℕ) → Node → ℕ → ℕ → Entry → ℕ
before_cell count node q s entry = cond (is_same (goes_to entry) (State node.state))
    (sum_by count (before_by_entry node q s entry)) 0

-- what the node of an entry counts, if it halts
abbrev halting_cell : (Node → ℕ) → ℕ → ℕ → Entry → ℕ
halting_cell count q s entry = cond (is_same (goes_to entry) Halt)
    (count (record { state = q; known = with_known (λ distance. None) (pos 0) s })) 0

before_over : (table : Table) → IsMachine table → (count : Node → ℕ) (node : Node)
    → sum_by count (before table node)
    ≡ over (length table) (symbols_of table) (λ q s. before_cell count node q s (entry_of table q s))
before_over table machine count node =
    sum_by-flat_map count (before_by node) (rules_to table (State node.state))
    ∙ weigh_rules (λ rule. sum_by count (before_by node rule)) (State node.state) table machine

halting_over : (table : Table) → IsMachine table → (count : Node → ℕ) → sum_by count (level table 0)
    ≡ over (length table) (symbols_of table) (λ q s. halting_cell count q s (entry_of table q s))
halting_over table machine count = sum_by-map count halting_node (rules_to table Halt)
    ∙ weigh_rules (λ rule. count (halting_node rule)) Halt table machine

map-cond : {X Y : Type 0} (f : X → Y) (b : Bool) (xs : List X) → map f (cond b xs []) ≡ cond b (map f xs) []
map-cond f true xs = refl
map-cond f false xs = refl

-- names are the same just where the old ones are

new_same : (names : Renaming) (p q : ℕ) → nat_eq (names.new p) (names.new q) ≡ nat_eq p q
new_same names p q = same_from_decides (nat_eq (names.new p) (names.new q)) (nat_eq p q)
    (Decides-eqb (names.new p) (names.new q)) (there (nat_eq p q) (Decides-eqb p q)) where
      there : (b : Bool) → Decides b (p ≡ q) → Decides b (names.new p ≡ names.new q)
      there b d = (
        λ e. ap names.new (d.0 e),
        λ e. d.1 (sym (names.old_of_new p) ∙ ap names.old e ∙ names.old_of_new q),
      )

abbrev known_new : Renaming → Option ℕ → Option ℕ
known_new names None = None
known_new names (Some s) = Some (names.new s)

known-cond : (names : Renaming) (b : Bool) (s : ℕ) (o : Option ℕ)
    → known_new names (cond b (Some s) o) ≡ cond b (Some (names.new s)) (known_new names o)
known-cond names true s o = refl
known-cond names false s o = refl

same_placed : (mirrored : Bool) (x y : ℤ) → int_eq (placed mirrored x) y ≡ int_eq x (placed mirrored y)
same_placed mirrored x y = same_from_decides (int_eq (placed mirrored x) y) (int_eq x (placed mirrored y))
    (signed_Decides (placed mirrored x) y) (there _ (signed_Decides x (placed mirrored y))) where
      there : (b : Bool) → Decides b (x ≡ placed mirrored y) → Decides b (placed mirrored x ≡ y)
      there b d = (
        λ e. ap (placed mirrored) (d.0 e) ∙ placed-twice mirrored y,
        λ e. d.1 (sym (placed-twice mirrored x) ∙ ap (placed mirrored) e),
      )

left-turned : (mirrored : Bool) (to : Dir) → placed mirrored (left_cell (turned mirrored to)) ≡ left_cell to
left-turned false to = refl
left-turned true dir.L = refl
left-turned true dir.R = refl

module _ (change : Change) where
  abbrev pub node_image : Node → Node
  node_image node = record {
    state = change.states.new node.state;
    known = λ x. known_new change.symbols (node.known (placed change.mirrored x));
  }

  goes_to-changed : (entry : Entry) → goes_to (changed_entry change entry)
      ≡ changed_next change (goes_to entry)
  goes_to-changed Undefined = refl
  goes_to-changed (Go write to then) = refl

  is_same-changed : (p q : Next) → is_same (changed_next change p) (changed_next change q) ≡ is_same p q
  is_same-changed (State p) (State q) = new_same change.states p q
  is_same-changed Halt Halt = refl
  is_same-changed p q = refl

  leads-changed : (entry : Entry) (then : Next)
      → is_same (goes_to (changed_entry change entry)) (changed_next change then)
      ≡ is_same (goes_to entry) then
  leads-changed entry then = ap (λ g. is_same g (changed_next change then)) (goes_to-changed entry)
      ∙ is_same-changed (goes_to entry) then

  known_at : (x : ℤ) (symbol : ℕ) (known : ℤ → Option ℕ)
      → with_known (λ y. known_new change.symbols (known (placed change.mirrored y))) (pos 0)
      (change.symbols.new symbol) x
      ≡ known_new change.symbols (with_known known (pos 0) symbol (placed change.mirrored x))
  known_at x symbol known =
      let same : int_eq (placed change.mirrored x) (pos 0) ≡ int_eq x (pos 0) =
      same_placed change.mirrored x (pos 0) ∙ ap (int_eq x) (placed-zero change.mirrored) in
      sym (known-cond change.symbols (int_eq (placed change.mirrored x) (pos 0)) symbol
      (known (placed change.mirrored x))
      ∙ ap (λ b. cond b (Some (change.symbols.new symbol))
      (known_new change.symbols (known (placed change.mirrored x)))) same)

  halting_image : (count : Node → ℕ) (q s : ℕ) (entry : Entry)
      → halting_cell count (change.states.new q) (change.symbols.new s) (changed_entry change entry)
      ≡ halting_cell (λ node. count (node_image node)) q s entry
  halting_image count q s entry =
      let leads = leads-changed entry Halt in
      let known = fun_ext (λ x. known_at x s (λ distance. None)) in
      λ i. cond (leads i) (count (record { state = change.states.new q; known = known i })) 0

  -- what could come before the image of a node

  may_be-new : (o : Option ℕ) (write : ℕ)
      → may_be (known_new change.symbols o) (change.symbols.new write) ≡ may_be o write
  may_be-new None write = refl
  may_be-new (Some s) write = new_same change.symbols s write

  seen-image : (to : Dir) (known : ℤ → Option ℕ) (x : ℤ)
      → seen_from (left_cell (turned change.mirrored to))
      (λ y. known_new change.symbols (known (placed change.mirrored y))) x
      ≡ known_new change.symbols (seen_from (left_cell to) known (placed change.mirrored x))
  seen-image to known x = ap (λ y. known_new change.symbols (known y))
      (placed-add change.mirrored x (left_cell (turned change.mirrored to))
      ∙ ap (λ y. placed change.mirrored x +ℤ y) (left-turned change.mirrored to))

  before-entry : (node : Node) (q s : ℕ) (entry : Entry)
      → before_by_entry (node_image node) (change.states.new q) (change.symbols.new s)
      (changed_entry change entry)
      ≡ map node_image (before_by_entry node q s entry)
  before-entry node q s Undefined = refl
  before-entry node q s (Go write to then) =
      let may = ap (λ y. may_be (known_new change.symbols (node.known y)) (change.symbols.new write))
      (left-turned change.mirrored to) ∙ may_be-new (node.known (left_cell to)) write in
      let seen = fun_ext (seen-image to node.known) in
      let known = fun_ext (λ x. ap (λ k. with_known k (pos 0) (change.symbols.new s) x) seen
      ∙ known_at x s (seen_from (left_cell to) node.known)) in
      (λ i. cond (may i) (record { state = change.states.new q; known = known i } ∷ []) [])
      ∙ sym (map-cond node_image (may_be (node.known (left_cell to)) write) (record {
        state = q;
        known = with_known (seen_from (left_cell to) node.known) (pos 0) s;
      } ∷ []))

  before_image : (count : Node → ℕ) (node : Node) (q s : ℕ) (entry : Entry)
      → before_cell count (node_image node) (change.states.new q) (change.symbols.new s)
      (changed_entry change entry)
      ≡ before_cell (λ other. count (node_image other)) node q s entry
  before_image count node q s entry =
      ap₂ (λ b n. cond b n 0) (leads-changed entry (State node.state))
      (ap (sum_by count) (before-entry node q s entry)
      ∙ sum_by-map count node_image (before_by_entry node q s entry))

module _ (change : Change) (table changed : Table) (is : IsChanged change table changed) where
  -- what each state and symbol counts, by their new names
  over_images : (f g : ℕ → ℕ → ℕ)
      → ((q s : ℕ) → g (change.states.new q) (change.symbols.new s) ≡ f q s)
      → over (length changed) (symbols_of changed) g ≡ over (length table) (symbols_of table) f
  over_images f g each =
      (λ i. over (is.states i) (is.symbols i) g)
      ∙ sym (sum_from-renamed change.states.new change.states.old change.states.old_of_new
      change.states.new_of_old (length table) is.states_named (λ q. sum_from 0 (symbols_of table) (g q)))
      ∙ sum_from-each 0 (length table) _ _ (λ q low high.
      sym (sum_from-renamed change.symbols.new change.symbols.old change.symbols.old_of_new
      change.symbols.new_of_old (symbols_of table) is.symbols_named (g (change.states.new q)))
      ∙ sum_from-each 0 (symbols_of table) _ _ (λ s from to. each q s))

module _ (change : Change) (table changed : Table) (machine : IsMachine table)
    (machine_too : IsMachine changed) (is : IsChanged change table changed) where
  before_alike : (count : Node → ℕ) (node : Node)
      → sum_by count (before changed (node_image change node))
      ≡ sum_by (λ other. count (node_image change other)) (before table node)
  before_alike count node = before_over changed machine_too count (node_image change node)
      ∙ over_images change table changed is _ _
      (λ q s. ap (before_cell count (node_image change node) (change.states.new q) (change.symbols.new s))
      (is.entries q s) ∙ before_image change count node q s (entry_of table q s))
      ∙ sym (before_over table machine (λ other. count (node_image change other)) node)

  -- a level has the images of the other's nodes, in whatever order: all counts of them are the same
  level_alike : (i : ℕ) (count : Node → ℕ)
      → sum_by count (level changed i) ≡ sum_by (λ node. count (node_image change node)) (level table i)
  level_alike zero count = halting_over changed machine_too count
      ∙ over_images change table changed is _ _
      (λ q s. ap (halting_cell count (change.states.new q) (change.symbols.new s)) (is.entries q s)
      ∙ halting_image change count q s (entry_of table q s))
      ∙ sym (halting_over table machine (λ node. count (node_image change node)))
  level_alike (suc i) count = sum_by-flat_map count (before changed) (level changed i)
      ∙ level_alike i (λ node. sum_by count (before changed node))
      ∙ sum_by-each _ _ (before_alike count) (level table i)
      ∙ sym (sum_by-flat_map (λ node. count (node_image change node)) (before table) (level table i))

  pub level_length : (i : ℕ) → length (level changed i) ≡ length (level table i)
  level_length i =
      length-sum (level changed i) ∙ level_alike i (λ node. 1) ∙ sym (length-sum (level table i))

  pub nodes_alike : (h : ℕ) → nodes_below changed h ≡ nodes_below table h
  nodes_alike zero = refl
  nodes_alike (suc h) = ap₂ ◌+◌ (nodes_alike h) (level_length h)
