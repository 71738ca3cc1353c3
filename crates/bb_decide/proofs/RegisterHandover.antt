-- A single-pass run that leaves the registers, told by runners and records on tapes.
use Rattle.std.proofs.Common.{◌≡◌, ℕ, ◌≤◌, Some, length, ap, ◌∙◌, arith}
use Rattle.bb_machine.specs.Limits.{Bounds}
use Rattle.bb_machine.specs.Machine.{Table, symbols_of}
use Rattle.bb_tape.specs.TapeView.{TapeView}
use Rattle.bb_sim.specs.Configuration.{Configuration}
use Rattle.bb_sim.specs.declared.runner.Runner.{Runner}
use Rattle.bb_sim.specs.Run.{conf}
use Rattle.bb_sim.specs.Runner.{Stands, position_of, state_of, steps_of}
use Rattle.bb_registers.specs.declared.run.RegisterRun.{RegisterRun}
use Rattle.bb_registers.specs.Registers.{FitsRegisters, IsRegisterRun}
use Rattle.bb_registers.proofs.Facts.{stays_in_word}
use Rattle.bb_cert.specs.declared.records.Records.{Records}
use Rattle.bb_decide.specs.inside.Follow.{IsSearched}
use Rattle.bb_decide.specs.inside.Searching.{AreSameRecords, IsInRecordSearch}

configuration_of : Runner → TapeView → Configuration
configuration_of runner view = record { state = state_of runner; head = position_of runner; tape = view.content }

-- two runners at one step are in one state, at one position
pub same_place : {table : Table} {one other : Runner} {view_one view_other : TapeView} → Stands table one view_one
    → Stands table other view_other → steps_of one ≡ steps_of other
    → (state_of one ≡ state_of other) × (position_of one ≡ position_of other)
unfolding configuration_of
same_place {table} {one} {other} {view_one} {view_other} stands there steps =
    let at : conf table (steps_of other) ≡ Some (configuration_of one view_one) = rw steps at stands.at in
    let also : conf table (steps_of other) ≡ Some (configuration_of other view_other) = there.at in
    let same : configuration_of one view_one ≡ configuration_of other view_other = cc in
    (ap (λ (c : Configuration). c.state) same, ap (λ (c : Configuration). c.head) same)

-- records that say the same are known as far
pub searched_as : {table : Table} {n : ℕ} {one other : Records} {one_saved other_saved : TapeView}
    → AreSameRecords table one one_saved other other_saved → IsSearched table n other other_saved
    → IsSearched table n one one_saved
searched_as {table} {n} {one} {other} same searched =
    let f = searched.followed in
    record {
      followed = record {
        count = f.count;
        number = f.number;
        number_is = rw (same.side, same.position) f.number_is;
        top = rw same.side f.top;
        kept = λ some.
            let k = f.kept some in
            record {
              made = rw (same.side, same.steps) k.made;
              before = rw same.steps k.before;
              at = rw (same.steps, same.state, same.position, same.saved) k.at;
              far_is = rw (same.side, same.nearest, same.steps) k.far_is;
              low = rw same.saved k.low;
              high = rw same.saved k.high;
              seen = rw (same.state, same.saved, same.position) k.seen;
            };
      };
      partner = searched.partner;
    }

-- and so is a search for records of both sides
pub record_search_as : {table : Table} {bounds : Bounds} {one other : Runner} {view other_view : TapeView}
    {right left other_right other_left : Records} {saved_right saved_left other_saved_right other_saved_left : TapeView}
    → IsInRecordSearch table bounds other other_view other_right other_left other_saved_right other_saved_left
    → Stands table one view → steps_of one ≡ steps_of other
    → AreSameRecords table right saved_right other_right other_saved_right
    → AreSameRecords table left saved_left other_left other_saved_left
    → IsInRecordSearch table bounds one view right left saved_right saved_left
record_search_as search stands steps right left = record {
  stands = stands;
  within = rw steps search.within;
  searched = record {
    on_right = rw steps (searched_as right search.searched.on_right);
    on_left = rw steps (searched_as left search.searched.on_left);
    right_is = right.side ∙ search.searched.right_is;
    left_is = left.side ∙ search.searched.left_is;
  };
  none = rw steps search.none;
}

-- a run in registers fits them so far
pub fits_so_far : {table : Table} {bounds : Bounds} {run : RegisterRun} (known : IsRegisterRun table bounds run)
    → symbols_of table ≡ 2 → length table ≤ 7 → (n : ℕ) → n ≤ steps_of known.runner → FitsRegisters table n
fits_so_far known symbols states n few = record {
  symbols = symbols;
  states = states;
  word = λ m below. stays_in_word known m (omega (arith, few, below));
}
