-- The steps of a single-pass run inside a block of its tape. No public contract cites them.
use Rattle.std.specs.Prelude.{◌≡◌, ℕ, ℤ, ◌-◌, ◌*◌, ◌<◌, ◌≤◌, ◌^◌, ◌⊎◌, Bool, false, pos, ◌+ℤ◌, ◌≤ℤ◌, ◌<ℤ◌, length}
use Rattle.std.specs.Int.{bit_at}
use Rattle.bb_machine.specs.declared.entry.Next.TheVariants as next
use Rattle.bb_machine.specs.Limits.{Bounds}
use Rattle.bb_machine.specs.Machine.{Table, symbols_of}
use Rattle.bb_tape.specs.Content.{Content, cell}
use Rattle.bb_tape.specs.TapeView.{TapeView}
use Rattle.bb_sim.specs.Runner.{position_of, state_of}
use Rattle.bb_registers.specs.Blocks.{IsBlockRun}
use Rattle.bb_registers.specs.declared.blocks.Barrier.{Barrier}
use Rattle.bb_machine.specs.declared.packed.PackedTable.{PackedTable}
use Rattle.bb_machine.specs.Packed.{IsTableOf}
use Rattle.bb_cert.specs.records.Follow.{passed}
use Rattle.bb_decide.specs.Fingerprint.{fingerprint}
use Rattle.bb_decide.specs.inside.Searching.{IsInRecordSearch, IsInSinglePass, IsUnderWay}
use Rattle.bb_decide.specs.declared.single_pass.Fingerprints.{Fingerprints}
use Rattle.bb_decide.specs.declared.single_pass.SinglePass.{SinglePass}
use Rattle.bb_decide.specs.declared.sprint.Sprint.{Sprint}

-- a machine's table in two numbers, for a tape that doesn't grow
pub record IsBlockTable (grows : Bool) (table : Table) (packed : PackedTable) : Type 0 where
  pub fixed : grows ≡ false
  pub symbols : symbols_of table ≡ 2
  pub states : length table ≤ 7
  pub is : IsTableOf table packed

-- a single-pass run that may go on in a block: its records have passed the head
pub record CanPass (table : Table) (bounds : Bounds) (key : ℤ → ℕ) (begun : SinglePass) (run : TapeView)
    : Type 0 where
  pub right : TapeView
  pub left : TapeView
  pub way : IsUnderWay table bounds key begun run right left
  pub limit : run.limit ≡ bounds.cells
  pub right_passed : passed begun.right (position_of begun.runner) ≡ begun.right
  pub left_passed : passed begun.left (position_of begun.runner) ≡ begun.left

-- up to this step no configuration is kept, and this head and state are those of the kept one
pub record IsBarrier (bounds : Bounds) (from : ℤ) (fingerprints : Fingerprints) (barrier : Barrier)
    : Type 0 where
  pub few : barrier.to ≤ bounds.steps
  pub before : barrier.to ≤ fingerprints.next - 1
  pub head : (k : ℕ) → k < 64 → position_of fingerprints.kept ≡ from +ℤ pos k → barrier.head ≡ 2 ^ k
  pub entry : (s : ℕ) → state_of fingerprints.kept ≡ next.State s → barrier.entry ≡ 9 * s

-- The single-pass run inside a block: its records have passed the least and the greatest head, and its
-- fingerprint is that of its cells.
pub record IsBlockPass (table : Table) (bounds : Bounds) (key : ℤ → ℕ) (from : ℤ) (tape right left : TapeView)
    (begun : SinglePass) (pass : Sprint) : Type 0 where
  pub run : IsBlockRun table bounds from tape pass.run
  pub least : ℕ
  pub least_small : least < 64
  pub least_is : pass.least ≡ 2 ^ least
  pub greatest : ℕ
  pub greatest_small : greatest < 64
  pub greatest_is : pass.greatest ≡ 2 ^ greatest
  pub search : IsInRecordSearch table bounds run.runner run.view (passed begun.right (from +ℤ pos least))
      (passed begun.left (from +ℤ pos greatest)) right left
  pub single_pass : IsInSinglePass table bounds key run.runner run.view
      (record begun.fingerprints { current = fingerprint key run.view.content })

-- a content with these bits in a block becomes one with those bits there
pub record ChangesTo (from : ℤ) (old new : ℕ) (one other : Content) : Type 0 where
  pub was : (k : ℕ) → k < 64 → cell one (from +ℤ pos k) ≡ bit_at old k
  pub is : (k : ℕ) → k < 64 → cell other (from +ℤ pos k) ≡ bit_at new k
  pub rest : (p : ℤ) → (p <ℤ from) ⊎ ((from +ℤ pos 64) ≤ℤ p) → cell other p ≡ cell one p
