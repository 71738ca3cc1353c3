use Rattle.std.proofs.Common.{length, drop, ◌≡◌, ◌+◌, ◌-◌, ◌*◌, ◌<◌, ◌^◌, ℕ, arith, rules, subst}
use Rattle.std.proofs.lemmas.List.{length-drop, take_rest}
use Rattle.bb_machine.specs.Machine.{entry_of}
use Rattle.bb_machine.proofs.Packing.{packed_more, packed_small, packed_room}
use Rattle.bb_machine.proofs.Stored.{row_inside, small_read}
use Rattle.bb_machine.proofs.packed.PackedTable.read.Goals as goal

pub overflow_mul-table : goal.overflow_mul-table
overflow_mul-table c =
    let h = packed_room c.loop-row.table.zero (c.args.states - c.loop-row.row) (omega arith)
    c.loop-row.invariant.small_zero in
    omega (arith, h)

pub slice_bounds-text-count : goal.slice_bounds-text-count
slice_bounds-text-count c =
    let t = c.requires.table in
    omega (arith, row_inside t.0 c.args.line.now c.args.states t.1 t.2 (c.loop-row.row - 1) (omega arith))

pub slice_bounds-text-start : goal.slice_bounds-text-start
slice_bounds-text-start c =
    let t = c.requires.table in
    let inside = row_inside t.0 c.args.line.now c.args.states t.1 t.2 (c.loop-row.row - 1) (omega arith) in
    search rules

pub unreachable-requires : goal.unreachable-requires
unreachable-requires c =
    let t = c.requires.table in
    let s : ℕ = c.loop-row.row - 1 in
    let inside = row_inside t.0 c.args.line.now c.args.states t.1 t.2 s (omega arith) in
    let short : length (drop (7 * s) c.args.line.now) < 6 = rw (take_rest c.args.line.now (7 * s)) at c.in_default.len_below in
    omega (arith, inside, short, length-drop (7 * s) c.args.line.now)

pub packed_entry-requires-clause-entry : goal.packed_entry-requires-clause-entry
packed_entry-requires-clause-entry c =
    let t = c.requires.table in
    let s = c.loop-row.row - 1 in
    let read = small_read t.0 c.args.line.now c.args.states t.1 t.2 s (omega arith) c.requires.few 0 (omega arith) in
    (entry_of t.0 s 0, read.0, read.1)

pub overflow_add-table : goal.overflow_add-table
overflow_add-table c =
    let h = packed_room c.loop-row.table.zero (c.args.states - c.loop-row.row) (omega arith)
    c.loop-row.invariant.small_zero in
    omega (arith, h)

pub overflow_mul-table-in-loop-row : goal.overflow_mul-table-in-loop-row
overflow_mul-table-in-loop-row c =
    let h = packed_room c.loop-row.table.one (c.args.states - c.loop-row.row) (omega arith)
    c.loop-row.invariant.small_one in
    omega (arith, h)

pub packed_entry-requires-in-loop-row-clause-entry : goal.packed_entry-requires-in-loop-row-clause-entry
packed_entry-requires-in-loop-row-clause-entry c =
    let t = c.requires.table in
    let s = c.loop-row.row - 1 in
    let read = small_read t.0 c.args.line.now c.args.states t.1 t.2 s (omega arith) c.requires.few 1 (omega arith) in
    (entry_of t.0 s 1, read.0, read.1)

pub overflow_add-table-in-loop-row : goal.overflow_add-table-in-loop-row
overflow_add-table-in-loop-row c =
    let h = packed_room c.loop-row.table.one (c.args.states - c.loop-row.row) (omega arith)
    c.loop-row.invariant.small_one in
    omega (arith, h)

pub loop-row-preserved : goal.loop-row-preserved
loop-row-preserved c =
    let here = c.loop-row.invariant in
    let s = c.loop-row.row - 1 in
    let next : s + 1 ≡ c.loop-row.row = omega arith in
    let left : (c.args.states - c.loop-row.row) + 1 ≡ c.args.states - s = omega arith in
    record {
      few = omega arith;
      zero = λ gs table is.
          let read = small_read gs c.args.line.now c.args.states table is s (omega arith) c.requires.few 0 (omega arith) in
          packed_more gs 0 s c.loop-row.table.zero c.packed_entry.result c.packed_entry.ensures.small
          (c.packed_entry.ensures.entry (entry_of gs s 0) read.0 read.1) (rw next (here.zero gs table is));
      one = λ gs table is.
          let read = small_read gs c.args.line.now c.args.states table is s (omega arith) c.requires.few 1 (omega arith) in
          packed_more gs 1 s c.loop-row.table.one c.packed_entry-in-loop-row.result
          c.packed_entry-in-loop-row.ensures.small
          (c.packed_entry-in-loop-row.ensures.entry (entry_of gs s 1) read.0 read.1) (rw next (here.one gs table is));
      small_zero = subst (λ (k : ℕ). c.loop-row.table.zero * 512 + c.packed_entry.result < 2 ^ (9 * k)) left
          (packed_small _ _ _ c.packed_entry.ensures.small here.small_zero);
      small_one = subst (λ (k : ℕ). c.loop-row.table.one * 512 + c.packed_entry-in-loop-row.result < 2 ^ (9 * k)) left
          (packed_small _ _ _ c.packed_entry-in-loop-row.ensures.small here.small_one);
    }

pub returns : goal.returns
returns c gs table is =
    let none : c.loop-row.row ≡ 0 = omega arith in
    record {
      zero = rw none at (c.loop-row.invariant.zero gs table is);
      one = rw none at (c.loop-row.invariant.one gs table is);
    }
