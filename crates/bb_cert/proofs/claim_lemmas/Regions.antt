-- Runs that go alike on a region of positions: two configurations with one state, whose cells in the region
-- are the same, as far apart as their heads, lead to two such ones, where the head stands in the region.
use Rattle.std.proofs.Common.{◌≡◌, ◌≢◌, ℕ, Some, None, ℤ, ◌+ℤ◌, refl, ap, sym, ◌∙◌, arith}
use Rattle.std.proofs.lemmas.Int.{ints}
use Rattle.bb_machine.specs.declared.entry.Dir.{Dir}
use Rattle.bb_machine.specs.declared.entry.Dir.TheVariants.{L, R}
use Rattle.bb_machine.specs.declared.entry.Entry.{Entry}
use Rattle.bb_machine.specs.declared.entry.Entry.TheVariants.{Undefined, Go}
use Rattle.bb_machine.specs.Machine.{Table}
use Rattle.bb_tape.specs.Content.{Content, cell, with_cell}
use Rattle.bb_tape.proofs.Facts.{cell-with_cell-same, cell-with_cell-other, by_position}
use Rattle.bb_sim.specs.Configuration.{Configuration, beside, followed, entry_at, next}
use Rattle.bb_sim.proofs.Facts.{led}

-- d is c moved by so much, as far as the region tells
pub record IsMoved (region : ℤ → Type 0) (shift : ℤ) (c d : Configuration) : Type 0 where
  pub same_state : c.state ≡ d.state
  pub same_head : d.head ≡ c.head +ℤ shift
  pub same_cells : (x : ℤ) → region x → cell c.tape x ≡ cell d.tape (x +ℤ shift)

moved_apart : (x p s : ℤ) → (x ≡ p → ⊥) → x +ℤ s ≡ p +ℤ s → ⊥
moved_apart x p s apart e = apart (omega (arith, ints, e))

beside-moved : (dir : Dir) (p s : ℤ) → beside dir (p +ℤ s) ≡ beside dir p +ℤ s
beside-moved L p s = omega (arith, ints)
beside-moved R p s = omega (arith, ints)

-- one write, here and moved
write_alike : (a b : Content) (p shift : ℤ) (v : ℕ) (x : ℤ) → (x ≢ p → cell a x ≡ cell b (x +ℤ shift))
    → cell (with_cell a p v) x ≡ cell (with_cell b (p +ℤ shift) v) (x +ℤ shift)
write_alike a b p shift v x same = by_position x p _
    (λ e. rw e (cell-with_cell-same a p v ∙ sym (cell-with_cell-same b (p +ℤ shift) v)))
    (λ apart. cell-with_cell-other a p v x apart ∙ same apart
    ∙ sym (cell-with_cell-other b (p +ℤ shift) v (x +ℤ shift) (moved_apart x p shift apart)))

-- what they lead to
pub record LeadsAlike (region : ℤ → Type 0) (shift : ℤ) (table : Table) (c d : Configuration) : Type 0 where
  pub then_first : Configuration
  pub then_second : Configuration
  pub first_next : next table c ≡ Some then_first
  pub second_next : next table d ≡ Some then_second
  pub moved : IsMoved region shift then_first then_second

pub step_alike : (region : ℤ → Type 0) (shift : ℤ) (table : Table) (c d : Configuration)
    → IsMoved region shift c d → region c.head → (c' : Configuration) → next table c ≡ Some c'
    → LeadsAlike region shift table c d
unfolding next
step_alike region shift table c d moved inside c' is_next =
    by_entry (entry_at table c.state (cell c.tape c.head)) refl where
      same_symbol : cell c.tape c.head ≡ cell d.tape d.head
      same_symbol = moved.same_cells c.head inside ∙ ap (cell d.tape) (sym moved.same_head)

      same_entry : entry_at table c.state (cell c.tape c.head) ≡ entry_at table d.state (cell d.tape d.head)
      same_entry = cc (moved.same_state, same_symbol)

      by_entry : (entry : Entry) → entry_at table c.state (cell c.tape c.head) ≡ entry
          → LeadsAlike region shift table c d
      by_entry Undefined e =
          let none : followed (entry_at table c.state (cell c.tape c.head)) c ≡ None =
          ap (λ entry. followed entry c) e in
          absurd cc
      by_entry (Go write dir state) e = record {
        then_first = led c write dir state;
        then_second = led d write dir state;
        first_next = ap (λ entry. followed entry c) e;
        second_next = ap (λ entry. followed entry d) (sym same_entry ∙ e);
        moved = record {
          same_state = refl;
          same_head = ap (beside dir) moved.same_head ∙ beside-moved dir c.head shift;
          same_cells = λ x inside_x. write_alike c.tape d.tape c.head shift write x
              (λ apart. moved.same_cells x inside_x)
              ∙ ap (λ p. cell (with_cell d.tape p write) (x +ℤ shift)) (sym moved.same_head);
        };
      }
