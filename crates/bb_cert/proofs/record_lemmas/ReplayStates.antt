-- What is known of a side's records, as the run goes on by a step.
use Rattle.std.proofs.Common.{
  ◌≡◌,
  ℕ,
  ◌+◌,
  ◌<◌,
  ◌↔◌,
  ℤ,
  pos,
  ◌≤ℤ◌,
  Option,
  Some,
  None,
  IsTrue,
  false,
  refl,
  ap,
  sym,
}
use Rattle.std.proofs.Common.{subst, ◌∙◌, arith}
use Rattle.std.specs.Prelude.{◌<ℤ◌, ◌≢◌}
use Rattle.std.specs.Int.{int_min}
use Rattle.std.proofs.lemmas.Int.{ints, clamps, by_lt_z}
use Rattle.bb_machine.specs.declared.entry.Next.TheVariants.{Halt, State}
use Rattle.bb_machine.specs.declared.entry.Next.{Next}
use Rattle.bb_machine.specs.Machine.{Table}
use Rattle.bb_tape.specs.TapeView.{TapeView}
use Rattle.bb_sim.specs.declared.runner.Runner.{Runner}
use Rattle.bb_sim.specs.CellsBetween.{cells_between}
use Rattle.bb_sim.specs.Laws.{IsRunningAt}
use Rattle.bb_sim.specs.Configuration.{Configuration}
use Rattle.bb_sim.specs.Run.{conf, Exists}
use Rattle.bb_sim.specs.Runner.{Stands, high_of, low_of, position_of, state_of, steps_of}
use Rattle.bb_sim.specs.Span.{counted_head}
use Rattle.bb_cert.specs.declared.checker.replay.ReplayState.{ReplayState}
use Rattle.bb_cert.specs.declared.records.Records.{Records}
use Rattle.bb_cert.specs.declared.verdict.Side.{Side}
use Rattle.bb_cert.specs.declared.verdict.Side.TheVariants.{L, R}
use Rattle.bb_cert.specs.inside.Checks.{
  GoesOn,
  IsReplay,
  KeepsSame,
  KeepsStep,
  MakesRecord,
  MakesRecordOutsideZ,
  Passes,
}
use Rattle.bb_cert.specs.records.Follow.{IsFollowed, IsKeptRecord, TellsWidening, nearest_out, nearer}
use Rattle.bb_cert.specs.records.Follow.{passed}
use Rattle.bb_cert.specs.records.Record.{out, head_at}
use Rattle.bb_cert.proofs.record_lemmas.Heads.{far-next, window_falls, window_rises}
use Rattle.bb_cert.proofs.record_lemmas.Positions.{head_at-is, out-zero, through}
use Rattle.bb_cert.proofs.record_lemmas.Records.{record_takes_steps}
use Rattle.bb_cert.proofs.record_lemmas.Tops.{MakesJust, makes_just, none_wider, top_at_first, top_farther}
use Rattle.bb_cert.proofs.record_lemmas.Tops.{top_stays}

-- at the start there is no record
abbrev pub followed_at_first : (table : Table) (records : Records) (saved : TapeView)
    → position_of records.kept ≡ pos 0 → IsFollowed table 0 records saved
followed_at_first table records saved start = record {
  count = 0;
  number = 0;
  number_is = ap (out records.side) start ∙ out-zero records.side;
  top = top_at_first table records.side;
  kept = λ some. absurd (omega (arith, some));
}

none_at_first : (table : Table) (side : Side) → MakesRecord table side 0 → ⊥
none_at_first table side made =
    omega (arith, record_takes_steps table side made.0 0 made.1, (made.1).positive)

pub replay_at_first : (table : Table) (replay : ReplayState) (saved : TapeView)
    → position_of replay.records.kept ≡ pos 0 → replay.is_record ≡ false → IsReplay table 0 replay saved
replay_at_first table replay saved start none = record {
  followed = followed_at_first table replay.records saved start;
  claimed = (λ yes. absurd cc, λ made. absurd (none_at_first table replay.records.side made.0));
}

-- a kept record is kept for one step more
pub kept-next : (table : Table) (side : Side) (number n : ℕ) (kept : Runner) (far_out : ℤ) (saved : TapeView)
    → IsKeptRecord table side number n kept far_out saved
    → IsKeptRecord table side number (n + 1) kept (int_min far_out (out side (head_at table (n + 1)))) saved
kept-next table side number n kept far_out saved is = record {
  made = is.made;
  before = let few = is.before in omega (arith, few);
  at = is.at;
  far_is = ap (λ f. int_min f (out side (head_at table (n + 1)))) is.far_is
      ∙ sym (far-next table side (steps_of kept) n is.before);
  low = through _ _ _ (window_falls (counted_head table) n) is.low;
  high = through _ _ _ is.high (window_rises (counted_head table) n);
  seen = is.seen;
}

nearer_out : (side : Side) (p q : ℤ) → out side (nearer side p q) ≡ int_min (out side p) (out side q)
nearer_out R p q = refl
nearer_out L p q = omega (arith, ints, clamps)

module _ (table : Table) (n : ℕ) (records : Records) (saved : TapeView) (there : Exists table (n + 1))
    (position : ℤ) (at : position ≡ head_at table (n + 1)) (followed : IsFollowed table n records saved) where
  pub kept_is : 0 < followed.number
      → IsKeptRecord table records.side followed.number (n + 1) records.kept
      (nearest_out (passed records position)) saved
  kept_is some = rw (nearer_out, at) (kept-next table records.side followed.number n records.kept
      (nearest_out records) saved (followed.kept some))

  -- farther out than before there is one record more
  abbrev pub followed_farther : pos followed.count <ℤ out records.side (head_at table (n + 1))
      → IsFollowed table (n + 1) (passed records position) saved
  followed_farther high = record {
    count = followed.count + 1;
    number = followed.number;
    number_is = followed.number_is;
    top = top_farther table records.side n followed.count followed.top there high;
    kept = kept_is;
  }

  abbrev pub followed_nearer : out records.side (head_at table (n + 1)) ≤ℤ pos followed.count
      → IsFollowed table (n + 1) (passed records position) saved
  followed_nearer low = record {
    count = followed.count;
    number = followed.number;
    number_is = followed.number_is;
    top = top_stays table records.side n followed.count followed.top there low;
    kept = kept_is;
  }

  -- known of a step told in another way
  abbrev pub at_step : (m : ℕ) → m ≡ n + 1 → IsFollowed table (n + 1) (passed records position) saved
      → IsFollowed table m (passed records position) saved
  at_step m next is = record {
    count = is.count;
    number = is.number;
    number_is = is.number_is;
    top = rw next is.top;
    kept = rw next is.kept;
  }

  pub followed-next : IsFollowed table (n + 1) (passed records position) saved
  followed-next = by_lt_z (pos followed.count) (out records.side (head_at table (n + 1)))
      followed_farther followed_nearer

-- whether a step makes a record of a side, outside Z, told by the side on which it widens the window
module _ (table : Table) (side : Side) (before after : Runner) (run_before run_after : TapeView)
    (stood : Stands table before run_before) (stands : Stands table after run_after)
    (next : steps_of after ≡ steps_of before + 1) where
  abbrev n : ℕ
  n = steps_of before + 1

  abbrev now : Configuration
  now = record { state = state_of after; head = position_of after; tape = run_after.content }

  stands_now : conf table n ≡ Some now
  stands_now = rw next at stands.at

  outside : MakesRecordOutsideZ table side n → state_of after ≢ Halt
  outside made halts =
      let same : now ≡ made.1.here = cc (stands_now, made.1.exists) in
      made.1.runs (sym (ap (λ (c : Configuration). c.state) same) ∙ halts)

  running : state_of after ≢ Halt → IsRunningAt table n (head_at table n)
  running runs = record {
    here = _;
    exists = stands_now;
    runs = runs;
    at = sym (head_at-is table n _ stands_now);
  }

  made_by : (claimed : Option Side) → MakesJust table n claimed → claimed ≡ Some side → MakesRecord table side n
  made_by None just is = absurd cc
  made_by (Some s) just is = let same : s ≡ side = cc in subst (λ s. MakesRecord table s n) same just.0

  tells_made : (claimed : Option Side) → MakesJust table n claimed → MakesRecord table side n → claimed ≡ Some side
  tells_made None just made = absurd (just side made)
  tells_made (Some s) just made = by_sides s side just made where
    by_sides : (s t : Side) → MakesJust table n (Some s) → MakesRecord table t n → Some s ≡ Some t
    by_sides R R just made = refl
    by_sides L L just made = refl
    by_sides R L just made = absurd (just.1 made)
    by_sides L R just made = absurd (just.1 made)

  pub claimed_by_window : (cells : ℕ) → cells ≡ cells_between (low_of before) (high_of before)
      → (claimed : Option Side) → TellsWidening after cells claimed
      → (claimed ≡ Some side) ↔ MakesRecordOutsideZ table side n
  claimed_by_window cells were claimed widens = by_state (state_of after) refl where
    by_state : (state : Next) → state_of after ≡ state → (claimed ≡ Some side) ↔ MakesRecordOutsideZ table side n
    by_state Halt halts = (
      λ is. absurd (none_wider stood stands next halts cells were side
          (subst (TellsWidening after cells) is widens)),
      λ made. absurd (outside made halts),
    )
    by_state (State q) is =
        let runs : state_of after ≢ Halt = λ halts. cc in
        let just = makes_just stood stands next runs were claimed widens in (
          λ is. (made_by claimed just is, running runs),
          λ made. tells_made claimed just made.0,
        )

-- a course goes on by a step, told of the side on which it widens the window
pub replay-next : (table : Table) (n : ℕ) (old new : ReplayState) (saved : TapeView) (position : ℤ)
    → Exists table (n + 1) → position ≡ head_at table (n + 1) → new.records ≡ passed old.records position
    → IsTrue new.is_record ↔ MakesRecordOutsideZ table old.records.side (n + 1)
    → IsReplay table n old saved → IsReplay table (n + 1) new saved
replay-next table n old new saved position there at is claimed replay = record {
  followed = rw is (followed-next table n old.records saved there position at replay.followed);
  claimed = rw is claimed;
}

-- the record of a step stays kept
pub keeps_on : (table : Table) (step : ℕ) (old new : Records) → KeepsSame old new → KeepsStep table step old
    → KeepsStep table step new
keeps_on table step old new same is = record {
  made = λ made none. is.made (subst (λ s. MakesRecordOutsideZ table s step) same.side made)
      (ap position_of (sym same.kept) ∙ none);
  at = λ some. ap (λ r. steps_of r) same.kept ∙ is.at (λ none. some (ap position_of same.kept ∙ none));
}

pub goes-next : {table : Table} {from : ℕ} {first old new : ReplayState} {before after : Runner}
    {run_before run_after : TapeView} {cells : ℕ}
    → GoesOn table from (steps_of before) first old → Stands table before run_before
    → Stands table after run_after → steps_of after ≡ steps_of before + 1
    → cells ≡ cells_between (low_of before) (high_of before) → Passes after cells old new
    → GoesOn table from (steps_of after) first new
goes-next {table} {old = old} {new} {before} {after} {cells = cells} goes stood stands next were passes
    = record {
      replay = λ saved begun. rw next
          (replay-next table (steps_of before) old new saved (position_of after)
          (subst (Exists table) next (record { here = _; exists = stands.at }))
          (sym (head_at-is table (steps_of after) _ stands.at) ∙ ap (head_at table) next) passes.records claimed
          (goes.replay saved begun));
      same = record {
        side = ap (λ (r : Records). r.side) passes.records ∙ goes.same.side;
        kept = ap (λ (r : Records). r.kept) passes.records ∙ goes.same.kept;
      };
    } where
      is : (passes.claimed ≡ Some old.records.side) ↔ MakesRecordOutsideZ table old.records.side
          (steps_of before + 1)
      is = claimed_by_window table old.records.side before after _ _ stood stands next cells were passes.claimed
          passes.widens

      claimed : IsTrue new.is_record ↔ MakesRecordOutsideZ table old.records.side (steps_of before + 1)
      claimed = (λ yes. is.0 (passes.is_claimed.0 yes), λ made. passes.is_claimed.1 (is.1 made))
