-- Why the run of a changed machine is the image of the machine's own.
use Rattle.std.proofs.Common.{◌≡◌, ◌≢◌, ◌↔◌, ℕ, zero, suc, ◌<◌, min, Bool, true, false, Option, Some, None}
use Rattle.std.proofs.Common.{ℤ, pos, ◌+ℤ◌, ◌-ℤ◌, option_and_then, refl, ap, ap₂, sym, subst, ◌∙◌}
use Rattle.std.proofs.Common.{arith}
use Rattle.std.proofs.lemmas.Int.{ints}
use Rattle.bb_machine.specs.declared.entry.Dir.{Dir}
use Rattle.bb_machine.specs.declared.entry.Dir.TheVariants as dir
use Rattle.bb_machine.specs.declared.entry.Entry.{Entry}
use Rattle.bb_machine.specs.declared.entry.Entry.TheVariants.{Undefined, Go}
use Rattle.bb_machine.specs.declared.entry.Next.{Next}
use Rattle.bb_machine.specs.declared.entry.Next.TheVariants.{State, Halt}
use Rattle.bb_machine.specs.Machine.{Table, entry_of}
use Rattle.bb_tape.specs.Content.{cell, with_cell, score}
use Rattle.bb_tape.proofs.Facts.{cell-blank, cell-with_cell-same, cell-with_cell-other, by_position}
use Rattle.bb_tape.proofs.Facts.{same_content, score-with_cell}
use Rattle.bb_sim.specs.Configuration.{Configuration, start, beside, followed, entry_at, next}
use Rattle.bb_sim.specs.Run.{after, conf}
use Rattle.bb_sim.proofs.Facts.{led}
use Rattle.bb_sim.proofs.Facts.{conf-start}
use Rattle.bb_cert.proofs.Facts.{moves}
use Rattle.laws_of_verdicts.specs.Change.{Change, IsChanged, Renaming, changed_entry, changed_next, placed, turned}

-- the change back

abbrev pub named_back : Renaming → Renaming
named_back names = record {
  new = names.old;
  old = names.new;
  old_of_new = names.new_of_old;
  new_of_old = names.old_of_new;
}

abbrev pub back : Change → Change
back change = record {
  mirrored = change.mirrored;
  states = named_back change.states;
  symbols = named_back change.symbols;
  keeps_A = ap change.states.old (sym change.keeps_A) ∙ change.states.old_of_new 0;
  keeps_0 = ap change.symbols.old (sym change.keeps_0) ∙ change.symbols.old_of_new 0;
}

pub turned-twice : (mirrored : Bool) (to : Dir) → turned mirrored (turned mirrored to) ≡ to
turned-twice false to = refl
turned-twice true dir.L = refl
turned-twice true dir.R = refl

pub next-back : (change : Change) (to : Next) → changed_next (back change) (changed_next change to) ≡ to
next-back change (State q) = ap State (change.states.old_of_new q)
next-back change Halt = refl

entry-back : (change : Change) (entry : Entry) → changed_entry (back change) (changed_entry change entry)
    ≡ entry
entry-back change Undefined = refl
entry-back change (Go write to then) =
    let w = change.symbols.old_of_new write in
    let t = turned-twice change.mirrored to in
    let n = next-back change then in
    λ i. Go (w i) (t i) (n i)

pub changed_back : (change : Change) (table changed : Table) → IsChanged change table changed
    → IsChanged (back change) changed table
changed_back change table changed is = record {
  states = sym is.states;
  symbols = sym is.symbols;
  states_named = λ q. named q (change.states.old q) (change.states.new_of_old q) is.states
      (is.states_named (change.states.old q));
  symbols_named = λ s. named s (change.symbols.old s) (change.symbols.new_of_old s) is.symbols
      (is.symbols_named (change.symbols.old s));
  entries = λ q s.
      let there : entry_of changed q s
      ≡ changed_entry change (entry_of table (change.states.old q) (change.symbols.old s)) =
      sym (ap₂ (entry_of changed) (change.states.new_of_old q) (change.symbols.new_of_old s))
      ∙ is.entries (change.states.old q) (change.symbols.old s) in
      sym (ap (changed_entry (back change)) there ∙ entry-back change _);
} where
  named : (x y : ℕ) {z m n : ℕ} → z ≡ x → n ≡ m → (y < m) ↔ (z < m) → (x < n) ↔ (y < n)
  named x y e same both = (
    λ h. let less = both.1 (omega (arith, h, e, same)) in omega (arith, less, same),
    λ h. let less = both.0 (omega (arith, h, same)) in omega (arith, less, e, same),
  )

-- positions

pub placed-zero : (mirrored : Bool) → placed mirrored (pos 0) ≡ pos 0
placed-zero false = refl
placed-zero true = refl

pub placed-twice : (mirrored : Bool) (p : ℤ) → placed mirrored (placed mirrored p) ≡ p
placed-twice false p = refl
placed-twice true p = omega (arith, ints)

pub placed-add : (mirrored : Bool) (p q : ℤ) → placed mirrored (p +ℤ q)
    ≡ placed mirrored p +ℤ placed mirrored q
placed-add false p q = refl
placed-add true p q = omega (arith, ints)

pub placed-subtract : (mirrored : Bool) (p q : ℤ)
    → placed mirrored (p -ℤ q) ≡ placed mirrored p -ℤ placed mirrored q
placed-subtract false p q = refl
placed-subtract true p q = omega (arith, ints)

placed-beside : (mirrored : Bool) (to : Dir) (p : ℤ)
    → beside (turned mirrored to) (placed mirrored p) ≡ placed mirrored (beside to p)
placed-beside false to p = refl
placed-beside true dir.L p = omega (arith, ints)
placed-beside true dir.R p = omega (arith, ints)

-- runs

-- what holds at the start, and with a configuration of the one after it, holds of all
pub along : (table : Table) (P : Configuration → Type 0) → P start
    → ((c d : Configuration) → next table c ≡ Some d → P c → P d) → (n : ℕ) (c : Configuration)
    → conf table n ≡ Some c → P c
along table P first on zero c e = let same : start ≡ c = cc (conf-start table) in subst P same first
along table P first on (suc n) c e =
    let moved = moves table n (record { here = c; exists = e }) in
    let same : moved.then_here ≡ c = let a = moved.at_then in cc in
    subst P same (on moved.before moved.then_here moved.is_next
    (along table P first on n moved.before moved.at_before))

-- images

-- a configuration of the changed machine is the image of one of the machine's
pub record IsImage (change : Change) (c d : Configuration) : Type 0 where
  pub state : d.state ≡ changed_next change c.state
  pub head : d.head ≡ placed change.mirrored c.head
  pub cells : (p : ℤ) → cell d.tape (placed change.mirrored p) ≡ change.symbols.new (cell c.tape p)
  pub scores : score d.tape ≡ score c.tape

abbrev pub AreImages : Change → Option Configuration → Option Configuration → Type 0
AreImages change None None = Unit {0}
AreImages change None (Some d) = ⊥
AreImages change (Some c) None = ⊥
AreImages change (Some c) (Some d) = IsImage change c d

module _ (change : Change) where
  pub start_image : IsImage change start start
  start_image = record {
    state = ap State (sym change.keeps_A);
    head = sym (placed-zero change.mirrored);
    cells = λ p. cell-blank (placed change.mirrored p) ∙ sym change.keeps_0
        ∙ ap change.symbols.new (sym (cell-blank p));
    scores = refl;
  }

  -- a cell anywhere
  pub cell_at : (c d : Configuration) → IsImage change c d → (p q : ℤ) → q ≡ placed change.mirrored p
      → cell d.tape q ≡ change.symbols.new (cell c.tape p)
  cell_at c d image p q e = ap (cell d.tape) e ∙ image.cells p

  -- 0 alone is renamed to 0
  some_kept : (s : ℕ) → min 1 (change.symbols.new s) ≡ min 1 s
  some_kept zero = ap (min 1) change.keeps_0
  some_kept (suc s) = by_case (change.symbols.new (suc s)) refl where
    by_case : (t : ℕ) → change.symbols.new (suc s) ≡ t → min 1 (change.symbols.new (suc s)) ≡ min 1 (suc s)
    by_case zero e =
        let wrong : suc s ≡ 0 = sym (change.symbols.old_of_new (suc s)) ∙ ap change.symbols.old (e
        ∙ sym change.keeps_0) ∙ change.symbols.old_of_new 0 in
        absurd (omega (arith, wrong))
    by_case (suc t) e = omega (arith, e)

  apart : (p q : ℤ) → p ≢ q → placed change.mirrored p ≢ placed change.mirrored q
  apart p q differ e = differ (sym (placed-twice change.mirrored p) ∙ ap (placed change.mirrored) e
      ∙ placed-twice change.mirrored q)

  -- what an entry leads to
  led_image : (c d : Configuration) (write : ℕ) (to : Dir) (then : Next) → IsImage change c d
      → IsImage change (led c write to then)
      (led d (change.symbols.new write) (turned change.mirrored to) (changed_next change then))
  led_image c d write to then image = record {
    state = refl;
    head = ap (beside (turned change.mirrored to)) image.head ∙ placed-beside change.mirrored to c.head;
    cells = λ p. by_position p c.head _ (λ e. at_head p e) (λ differ. elsewhere p differ);
    scores = scored;
  } where
    at_head : (p : ℤ) → p ≡ c.head
        → cell (with_cell d.tape d.head (change.symbols.new write)) (placed change.mirrored p)
        ≡ change.symbols.new (cell (with_cell c.tape c.head write) p)
    at_head p e =
        let there : placed change.mirrored p ≡ d.head = ap (placed change.mirrored) e ∙ sym image.head in
        ap (cell (with_cell d.tape d.head (change.symbols.new write))) there
        ∙ cell-with_cell-same d.tape d.head _
        ∙ ap change.symbols.new (sym (ap (cell (with_cell c.tape c.head write)) e
        ∙ cell-with_cell-same c.tape c.head write))

    elsewhere : (p : ℤ) → p ≢ c.head
        → cell (with_cell d.tape d.head (change.symbols.new write)) (placed change.mirrored p)
        ≡ change.symbols.new (cell (with_cell c.tape c.head write) p)
    elsewhere p differ =
        let far : placed change.mirrored p ≢ d.head = λ e. apart p c.head differ (e ∙ image.head) in
        cell-with_cell-other d.tape d.head _ _ far ∙ image.cells p
        ∙ ap change.symbols.new (sym (cell-with_cell-other c.tape c.head write p differ))

    scored : score (with_cell d.tape d.head (change.symbols.new write))
        ≡ score (with_cell c.tape c.head write)
    scored =
        let two = score-with_cell d.tape d.head (change.symbols.new write) in
        let was = ap (min 1) (cell_at c d image c.head d.head image.head) ∙ some_kept (cell c.tape c.head) in
        omega (arith, score-with_cell c.tape c.head write, two, image.scores, was, some_kept write)

module _ (change : Change) (table changed : Table) (is : IsChanged change table changed) where
  entry_changed : (to : Next) (symbol : ℕ)
      → entry_at changed (changed_next change to) (change.symbols.new symbol)
      ≡ changed_entry change (entry_at table to symbol)
  entry_changed (State q) symbol = is.entries q symbol
  entry_changed Halt symbol = refl

  pub entry_here : (c d : Configuration) → IsImage change c d
      → entry_at changed d.state (cell d.tape d.head)
      ≡ changed_entry change (entry_at table c.state (cell c.tape c.head))
  entry_here c d image = ap₂ (entry_at changed) image.state
      (cell_at change c d image c.head d.head image.head)
      ∙ entry_changed c.state (cell c.tape c.head)

  followed_image : (c d : Configuration) (entry : Entry) → IsImage change c d
      → AreImages change (followed entry c) (followed (changed_entry change entry) d)
  followed_image c d Undefined image = tt
  followed_image c d (Go write to then) image = led_image change c d write to then image

  pub next_image : (c d : Configuration) → IsImage change c d
      → AreImages change (next table c) (next changed d)
  unfolding next
  next_image c d image =
      let entry = entry_at table c.state (cell c.tape c.head) in
      subst (λ e. AreImages change (followed entry c) (followed e d)) (sym (entry_here c d image))
      (followed_image c d entry image)

  nexts_image : (o p : Option Configuration) → AreImages change o p
      → AreImages change (option_and_then (next table) o) (option_and_then (next changed) p)
  nexts_image None None images = tt
  nexts_image (Some c) (Some d) images = next_image c d images
  nexts_image o p images = absurd images

  pub after_image : (c d : Configuration) → IsImage change c d → (n : ℕ)
      → AreImages change (after table c n) (after changed d n)
  after_image c d image zero = image
  after_image c d image (suc n) = nexts_image (after table c n) (after changed d n) (after_image c d image n)

  pub conf_image : (n : ℕ) → AreImages change (conf table n) (conf changed n)
  unfolding conf
  conf_image n = after_image start start (start_image change) n

-- the image of a configuration that there is
pub record ImageOf (change : Change) (c : Configuration) (o : Option Configuration) : Type 0 where
  pub there : Configuration
  pub exists : o ≡ Some there
  pub image : IsImage change c there

pub image_of : (change : Change) (o p : Option Configuration) (c : Configuration) → AreImages change o p
    → o ≡ Some c → ImageOf change c p
image_of change None p c images e = absurd cc
image_of change (Some b) None c images e = absurd images
image_of change (Some b) (Some d) c images e =
    let same : b ≡ c = cc in
    record { there = d; exists = refl; image = subst (λ x. IsImage change x d) same images }

pub no_image : (change : Change) (o p : Option Configuration) → AreImages change o p → o ≡ None → p ≡ None
no_image change None None images e = refl
no_image change None (Some d) images e = absurd images
no_image change (Some c) p images e = absurd cc

-- one configuration has one image
pub image_is_one : (change : Change) (c d e : Configuration) → IsImage change c d → IsImage change c e → d ≡ e
image_is_one change c d e one two =
    let state : d.state ≡ e.state = one.state ∙ sym two.state in
    let head : d.head ≡ e.head = one.head ∙ sym two.head in
    let tape : d.tape ≡ e.tape = same_content d.tape e.tape (λ p.
    let from = sym (placed-twice change.mirrored p) in
    cell_at change c d one (placed change.mirrored p) p from
    ∙ sym (cell_at change c e two (placed change.mirrored p) p from)) in
    λ i. record { state = state i; head = head i; tape = tape i }
