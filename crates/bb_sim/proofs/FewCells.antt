-- Why a run that stays in few cells meets one of its few configurations twice.
use Rattle.std.proofs.Common.{◌≡◌, ◌≢◌, ℕ, zero, suc, ◌*◌, ◌^◌, ◌<◌, ◌≤◌, Option, Some, None, ℤ}
use Rattle.std.proofs.Common.{inl, inr, length, refl, ap, sym, subst, ◌∙◌, add-one, arith}
use Rattle.std.proofs.lemmas.Bool.{cases_lt}
use Rattle.std.proofs.lemmas.Int.{ints}
use Rattle.bb_machine.specs.declared.entry.Dir.{Dir}
use Rattle.bb_machine.specs.declared.entry.Entry.{Entry}
use Rattle.bb_machine.specs.declared.entry.Entry.TheVariants.{Undefined, Go}
use Rattle.bb_machine.specs.declared.entry.Next.{Next}
use Rattle.bb_machine.specs.declared.entry.Next.TheVariants.{Halt}
use Rattle.bb_machine.specs.Machine.{Table, IsMachine, symbols_of}
use Rattle.bb_tape.specs.Content.{cell}
use Rattle.bb_tape.proofs.Facts.{cell-blank, cell-with_cell-other}
use Rattle.bb_sim.specs.Configuration.{Configuration, start, entry_at}
use Rattle.bb_sim.specs.Run.{conf, Exists}
use Rattle.bb_sim.specs.Span.{counted_head, least, greatest, span}
use Rattle.bb_sim.specs.FewCells.{configurations_in, IsRunning, RepeatsBy, FewCellsRepeat}
use Rattle.bb_sim.proofs.Encoding.{IsIn, IsHeld, code, code-below, same_by_code}
use Rattle.bb_sim.proofs.Outcomes.{halt_is_last, span_grows}
use Rattle.bb_sim.proofs.Pigeonhole.{twins}
use Rattle.bb_sim.proofs.Positions.{cells_between-is, least_last, greatest_last}
use Rattle.bb_sim.proofs.RunLaws.{earlier_exists, least_bounds, greatest_bounds}
use Rattle.bb_sim.proofs.Standing.{counted_running}
use Rattle.bb_sim.proofs.NamedRuns.{run_named}
use Rattle.bb_sim.proofs.Stepping.{no_entry_in_Z}
use Rattle.bb_sim.proofs.Steps.{led, conf-start, conf-next, counted_head-at, halts_here}

-- in Z a run is at its end
ends_in_Z : (table : Table) (n : ℕ) (c : Configuration) (at : conf table n ≡ Some c) → c.state ≡ Halt
    → (m : ℕ) → Exists table m → m ≤ n
ends_in_Z table n c at halted m there =
    halt_is_last table n m there.here
    (halts_here table n c at (ap (λ s. entry_at table s (cell c.tape c.head)) halted)) there.exists

-- a step before another one isn't in Z
pub running_below : (table : Table) (m n : ℕ) → m < n → Exists table n → IsRunning table m
running_below table m n less end_there =
    let there = earlier_exists table m n (omega (arith, less)) end_there in
    record {
      here = there.here;
      exists = there.exists;
      runs = λ halted.
          absurd (omega (arith, less, ends_in_Z table m there.here there.exists halted n end_there));
    }

-- a step before one that isn't in Z isn't, either
pub running_before : (table : Table) (m n : ℕ) → m ≤ n → IsRunning table n → IsRunning table m
running_before table m n few last =
    elim (cases_lt m n) [
      | inl less ↦ running_below table m n less (record { here = last.here; exists = last.exists })
      | inr above ↦ let same : n ≡ m = omega (arith, few, above) in rw same at last
    ]

module _ (table : Table) (machine : IsMachine table) (n cells : ℕ) (low : ℤ)
    (in_window : (i : ℕ) → i ≤ n → (c : Configuration) → conf table i ≡ Some c → c.state ≢ Halt
    → IsIn low cells c.head) where
  -- a configuration whose state and symbols are the machine's, and that is blank outside the window
  Held : Configuration → Type 0
  Held c = IsHeld (length table) (symbols_of table) low cells c

  abbrev IsBlankOutside : Configuration → Type 0
  IsBlankOutside c = (p : ℤ) → (IsIn low cells p → ⊥) → cell c.tape p ≡ 0

  blank_next : (i : ℕ) → i ≤ n → (b : Configuration) → conf table i ≡ Some b → IsBlankOutside b
      → (write : ℕ) (dir : Dir) (next : Next) → entry_at table b.state (cell b.tape b.head)
      ≡ Go write dir next
      → IsBlankOutside (led b write dir next)
  blank_next i few b at blank_there write dir next here p out =
      let inside = in_window i few b at (no_entry_in_Z table b.state _ write dir next (sym here)) in
      cell-with_cell-other b.tape b.head write p (λ e. out (subst (λ q. IsIn low cells q) (sym e) inside))
      ∙ blank_there p out

  blank_at : (i : ℕ) → i ≤ n → (c : Configuration) → conf table i ≡ Some c → IsBlankOutside c
  blank_at zero few c at =
      let first = conf-start table in
      let same : start ≡ c = cc in
      subst IsBlankOutside same (λ p out. cell-blank p)
  blank_at (suc i) few c at =
      let there = earlier_exists table i (suc i) (omega arith) (record { here = c; exists = at }) in
      by_entry there.here there.exists (blank_at i (omega (arith, few)) there.here there.exists)
      (entry_at table there.here.state (cell there.here.tape there.here.head)) refl
    where
      by_entry : (b : Configuration) → conf table i ≡ Some b → IsBlankOutside b → (entry : Entry)
          → entry_at table b.state (cell b.tape b.head) ≡ entry → IsBlankOutside c
      by_entry b before blank_there Undefined here =
          absurd (omega (arith, halt_is_last table i (suc i) c (halts_here table i b before here) at))
      by_entry b before blank_there (Go write dir next) here =
          let after : conf table (suc i) ≡ Some (led b write dir next) =
          subst (λ k. conf table k ≡ Some (led b write dir next)) (add-one i)
          (conf-next table i b before write dir next here) in
          let same : led b write dir next ≡ c = cc (after, at) in
          subst IsBlankOutside same (blank_next i (omega (arith, few)) b before blank_there write dir next
          here)

  held_at : (i : ℕ) → i ≤ n → (c : Configuration) → conf table i ≡ Some c → Held c
  unfolding Held
  held_at i few c at = let named = run_named table machine i c at in
      record { state = named.state; symbols_named = named.symbols; blank_outside = blank_at i few c at }

  -- the number of a configuration, where there is one
  number : Option Configuration → ℕ
  number None = 0
  number (Some c) = code (length table) (symbols_of table) low cells c

  module _ (last : IsRunning table n) where
    -- a step up to n that isn't in Z, with what is known of it
    record IsKnown (i : ℕ) : Type 0 where
      here : Configuration
      exists : conf table i ≡ Some here
      held : Held here
      runs : here.state ≢ Halt
      inside : IsIn low cells here.head

    known : (i : ℕ) → i ≤ n → IsKnown i
    known i few =
        let there = running_before table i n few last in
        record {
          here = there.here;
          exists = there.exists;
          held = held_at i few there.here there.exists;
          runs = there.runs;
          inside = in_window i few there.here there.exists there.runs;
        }

    number-below : (i : ℕ) → i ≤ n → number (conf table i) < length table * cells * symbols_of table ^ cells
    unfolding Held number
    number-below i few =
        let at = known i few in
        rw at.exists
        (code-below (length table) (symbols_of table) low cells at.here at.held at.runs at.inside)

    same_by_number : (i j : ℕ) → i ≤ n → j ≤ n → number (conf table i) ≡ number (conf table j)
        → conf table i ≡ conf table j
    unfolding Held number
    same_by_number i j few_i few_j e =
        let one = known i few_i in
        let other = known j few_j in
        let codes = sym (ap number one.exists) ∙ e ∙ ap number other.exists in
        one.exists
        ∙ ap Some (same_by_code (length table) (symbols_of table) low cells one.here other.here one.held
        other.held one.runs other.runs one.inside other.inside codes)
        ∙ sym other.exists

-- the heads up to step n, but not in Z, are in as many cells from the least one on as the span has at most
window_of : (table : Table) (n cells : ℕ) → span table n ≤ cells → (i : ℕ) → i ≤ n → (c : Configuration)
    → conf table i ≡ Some c → c.state ≢ Halt → IsIn (least (counted_head table) n) cells c.head
window_of table n cells narrow i few c at runs =
    let f = counted_head table in
    let here : f i ≡ c.head = counted_head-at table i c at ∙ counted_running c.state c.head runs in
    let from = least_bounds f i n few in
    let to = greatest_bounds f i n few in
    let below = least_last f n in
    let wide = cells_between-is (least f n) (greatest f n) (omega (arith, ints, below, greatest_last f n)) in
    record {
      from = omega (arith, ints, here, from);
      to = omega (arith, ints, here, to, wide, narrow);
    }

pub few_cells_repeat : FewCellsRepeat
few_cells_repeat table cells machine last narrow =
    let n = configurations_in table cells in
    let low = least (counted_head table) n in
    let in_window = window_of table n cells narrow in
    let pair = twins (λ i. number table machine n cells low in_window (conf table i)) n
    (number-below table machine n cells low in_window last) in
    let order = pair.in_order in
    let few = pair.few in
    let same = same_by_number table machine n cells low in_window last pair.first pair.second
    (omega (arith, order, few)) few pair.same in
    let there = earlier_exists table pair.second n few (record { here = last.here; exists = last.exists }) in
    record {
      first = pair.first;
      second = pair.second;
      in_order = order;
      not_later = few;
      here = there.here;
      at_first = same ∙ there.exists;
      at_second = there.exists;
    }

-- so has one that goes on longer
pub few_cells_repeat_before : (table : Table) (cells n : ℕ) → IsMachine table
    → configurations_in table cells ≤ n → IsRunning table n → span table n ≤ cells
    → RepeatsBy table (configurations_in table cells)
few_cells_repeat_before table cells n machine few last narrow =
    few_cells_repeat table cells machine (running_before table (configurations_in table cells) n few last)
    (omega (arith, span_grows table (configurations_in table cells) n few, narrow))
