-- What entering a branch does to the tape and its window.
use Rattle.std.proofs.Common.{◌≡◌, ℕ, ◌+◌, ◌-◌, ◌<◌, min, List, slice_index, ℤ, pos, neg_ℤ, ◌≤ℤ◌, refl, ap}
use Rattle.std.proofs.Common.{◌≢◌, None, ◌+ℤ◌, ◌-ℤ◌, sym, subst, ◌<ℤ◌, ◌∙◌, arith}
use Rattle.std.specs.Int.{int_min, int_max}
use Rattle.std.proofs.lemmas.Int.{ints, clamps}
use Rattle.bb_machine.specs.declared.entry.Dir.{Dir}
use Rattle.bb_machine.specs.declared.entry.Dir.TheVariants.{L, R}
use Rattle.bb_tape.specs.Content.{Content, cell}
use Rattle.bb_tape.specs.TapeView.{IsInside, TapeView, visited, width, written}
use Rattle.bb_tape.proofs.Facts.{by_position, cell-with_cell-other, cell-with_cell-same}
use Rattle.bb_sim.proofs.Facts.{max_right, min_right}
use Rattle.bb_tree.specs.declared.traversal.Branch.{Branch}
use Rattle.bb_tree.specs.inside.Walk.{HasNonzero, HasRoom, HasSpan, IsAtEdge, IsBranch, IsOpen, Refused}
use Rattle.bb_tree.specs.inside.Walk.{matched, without_end, branch_node, content_in, shown, shown_symbol}
use Rattle.bb_tree.specs.inside.Steps.{Enters}
use Rattle.bb_tree.proofs.Shown.{written_nonzero, some_nonzero, start_matches, matched_in_a}
use Rattle.bb_tree.proofs.Shown.{matched_none}

low_kept : (low p : ℤ) (level levels : ℕ) → level < levels → neg_ℤ (pos (levels - 1)) ≤ℤ low
    → neg_ℤ (pos level) ≤ℤ p → neg_ℤ (pos (levels - 1)) ≤ℤ int_min low p
low_kept low p level levels deep a b =
    let c : neg_ℤ (pos (levels - 1)) ≤ℤ neg_ℤ (pos level) = omega (arith, ints, deep) in
    let d : neg_ℤ (pos (levels - 1)) ≤ℤ p = omega (arith, ints, b, c) in
    omega (arith, ints, clamps, a, d)

high_kept : (high p : ℤ) (level levels : ℕ) → level < levels → high ≤ℤ pos (levels - 1) → p ≤ℤ pos level
    → int_max high p ≤ℤ pos (levels - 1)
high_kept high p level levels deep a b =
    let d : p ≤ℤ pos (levels - 1) = omega (arith, ints, deep, b) in
    omega (arith, ints, clamps, a, d)

not_up_to : (p q : ℤ) → (p ≤ℤ q → ⊥) → q <ℤ p
not_up_to p q past = grind (arith, ints, past)

-- known cells that reach further also reach so far
pub span_nearer : {content : Content} {from to from' to' : ℤ} → HasSpan content from to → from ≤ℤ from'
    → to' ≤ℤ to → HasSpan content from' to'
span_nearer span low high = record {
  lowest = span.lowest;
  highest = span.highest;
  below = span.below;
  above = span.above;
  known = span.known;
  reaches_from = let a = span.reaches_from in omega (arith, ints, a, low);
  reaches_to = let a = span.reaches_to in omega (arith, ints, a, high);
}

-- where a branch is entered, the known cells become one more, or stay the same ones
pub span_entered : {states level : ℕ} (content : Content) {branch : Branch}
    → IsBranch states content level branch
    → HasSpan (content_in content branch) branch.position branch.position
span_entered content {branch} is =
    let p = branch.position in
    let low = is.span.reaches_from in
    let high = is.span.reaches_to in
    let other = cell-with_cell-other content p (branch.symbol + 1) in
    record {
      lowest = int_min is.span.lowest p;
      highest = int_max is.span.highest p;
      below = λ q less. other q (λ e. omega (arith, ints, clamps, e, less))
          ∙ is.span.below q (omega (arith, ints, clamps, less));
      above = λ q more. other q (λ e. omega (arith, ints, clamps, e, more))
          ∙ is.span.above q (omega (arith, ints, clamps, more));
      known = λ q from to. by_position q p _
          (λ here none.
          let new = ap (cell (content_in content branch)) here
          ∙ cell-with_cell-same content p (branch.symbol + 1) in
          omega (arith, new, none))
          (λ apart none.
          is.span.known q (omega (arith, ints, clamps, from, low, apart))
          (omega (arith, ints, clamps, to, high, apart)) (sym (other q apart) ∙ none));
      reaches_from = omega (arith, ints, clamps);
      reaches_to = omega (arith, ints, clamps);
    }

-- widening the window to a position of a level keeps the room
pub room_visited : (s : TapeView) (p : ℤ) (level levels : ℕ) → HasRoom s levels → level < levels
    → neg_ℤ (pos level) ≤ℤ p → p ≤ℤ pos level → HasRoom (visited s p) levels
room_visited s p level levels room deep low high = record {
  not_below = low_kept s.low p level levels deep room.not_below low;
  not_above = high_kept s.high p level levels deep room.not_above high;
  limit = room.limit;
}

-- so the window can be widened to it
pub room_for : (s : TapeView) {p q : ℤ} (level levels : ℕ) → HasRoom s levels → level < levels
    → neg_ℤ (pos level) ≤ℤ p → p ≤ℤ pos level → q ≡ p → pos s.limit <ℤ width (visited s q) → ⊥
room_for s {p} level levels room deep low high same full =
    let then = room_visited s p level levels room deep low high in
    let wide = subst (λ x. pos s.limit <ℤ width (visited s x)) same full in
    omega (arith, ints, deep, then.not_below, then.not_above, then.limit, wide)

pub inside_visited : (s : TapeView) (p : ℤ) {then : TapeView} → then ≡ visited s p → IsInside then p
inside_visited s p e = rw e (min_right s.low p, max_right s.high p)

pub room_written : (s : TapeView) (p : ℤ) (v levels : ℕ) → HasRoom s levels → HasRoom (written s p v) levels
room_written s p v levels room =
    record { not_below = room.not_below; not_above = room.not_above; limit = room.limit }

pub has_some : {states level : ℕ} {content : Content} {branch : Branch} → IsBranch states content level branch
    → 1 < branch.held → 0 < branch.nonzero_known
has_some {content = content} {branch} is more = let held = is.held in
    some_nonzero content branch.position branch.nonzero_known is.nonzero_known (omega (arith, more, held))

module _ {states level : ℕ} (old : TapeView) {branch : Branch}
    (is : IsBranch states old.content level branch) where
  -- where the cell next to a branch is unknown, all further ones are

  none_known : (d : ℤ) → d ≢ pos 0 → cell old.content (branch.position +ℤ d) ≡ 0
      → shown (content_in old.content branch) branch.position d ≡ None
  none_known d apart none = ap shown_symbol
      (cell-with_cell-other old.content branch.position (branch.symbol + 1) (branch.position +ℤ d)
      (λ e. apart (omega (arith, ints, e))) ∙ none)

  open_towards : (sets : Dir → ℕ) (dir : Dir) → IsAtEdge sets old.content branch dir
      → IsOpen sets dir (branch_node old.content branch)
  open_towards sets L edge = record {
    state = edge.0;
    unknown = λ d behind.
        let next = branch.position +ℤ pos 1 in
        let past : next ≤ℤ is.span.highest → ⊥ = λ at. is.span.known next is.span.reaches_from at edge.1 in
        none_known d (λ e. omega (arith, ints, e, behind))
        (is.span.above (branch.position +ℤ d)
        (let far = not_up_to next is.span.highest past in omega (arith, ints, far, behind)));
  }
  open_towards sets R edge = record {
    state = edge.0;
    unknown = λ d behind.
        let next = branch.position -ℤ pos 1 in
        let past : is.span.lowest ≤ℤ next → ⊥ = λ at. is.span.known next at is.span.reaches_to edge.1 in
        none_known d (λ e. omega (arith, ints, e, behind))
        (is.span.below (branch.position +ℤ d)
        (let far = not_up_to is.span.lowest next past in omega (arith, ints, far, behind)));
  }

  pub edge_refused : {sets : Dir → ℕ} {nodes most_nodes levels : ℕ} (dir : Dir)
      → IsAtEdge sets old.content branch dir
      → Refused sets (branch_node old.content branch) level nodes most_nodes levels
  edge_refused {sets} dir edge = without_end dir (open_towards sets dir edge)

  -- after the window was widened
  module _ {widened : TapeView} {p : ℤ} (same : p ≡ branch.position) (first : widened ≡ visited old p) where
    pub room_widened : {levels : ℕ} → HasRoom old levels → level < levels → HasRoom widened levels
    room_widened {levels} room deep = rw (first, same)
        (room_visited old branch.position level levels room deep is.not_below is.not_above)

    -- and the symbol written
    module _ {new : TapeView} (second : new ≡ written widened p (branch.symbol + 1)) where
      whole : new ≡ written (visited old branch.position) branch.position (branch.symbol + 1)
      whole = rw (second, first, same) refl

      pub room_entered : {levels : ℕ} → HasRoom old levels → level < levels → HasRoom new levels
      room_entered {levels} room deep = rw second
          (room_written widened p (branch.symbol + 1) levels (room_widened room deep))

      module _ {nonzero : ℕ}
          (sum : nonzero + min 1 (branch.held - 1) ≡ branch.nonzero_known + min 1 branch.symbol) where
        more_nonzero : HasNonzero (content_in old.content branch) nonzero
        more_nonzero =
            let held = is.held in
            let same_held : min 1 (branch.held - 1) ≡ min 1 (cell old.content branch.position - 1) =
            ap (λ h. min 1 (h - 1)) held in
            written_nonzero old.content branch.position branch.symbol branch.nonzero_known nonzero
            is.nonzero_known
            (omega (arith, sum, same_held))

        pub matched_start : {sets : Dir → ℕ} {nodes most_nodes levels : ℕ} → branch.state ≡ 0 → nonzero ≡ 0
            → Refused sets (branch_node old.content branch) level nodes most_nodes levels
        matched_start in_a none =
            matched (start_matches (content_in old.content branch) branch.position branch.state nonzero
            more_nonzero in_a none)

        pub entered_frame : {starts : Dir → List ℕ} {next to : ℕ}
            → next ≡ slice_index (starts branch.dir) branch.state
            → to ≡ slice_index (starts branch.dir) (branch.state + 1) → (branch.state ≡ 0 → nonzero ≡ 0 → ⊥)
            → Enters starts branch level old new
            (record {
              position = p;
              state = branch.state;
              before = branch.held;
              nonzero_known = nonzero;
              next =
                  next;
              end = to;
            })
        entered_frame is_next is_to apart = record {
          content = ap (λ s. s.content) whole;
          low = ap (λ s. s.low) whole;
          high = ap (λ s. s.high) whole;
          position = same;
          state = refl;
          before = refl;
          next = is_next;
          to = is_to;
          nonzero_known = rw (ap (λ s. s.content) whole) more_nonzero;
          few_nonzero = let few = is.few_nonzero in omega (arith, sum, few);
          apart = λ matches. apart
              (matched_in_a (content_in old.content branch) branch.position branch.state matches)
              (matched_none (content_in old.content branch) branch.position branch.state nonzero more_nonzero
              matches);
        }
