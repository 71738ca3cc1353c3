-- Why a list that covers a size settles every machine of that size.
use Rattle.std.proofs.Common.{◌≡◌, ℕ, zero, suc, ◌+◌, ◌<◌, ◌≤◌, List, length, inl, inr, refl, ap₂, sym}
use Rattle.std.proofs.Common.{subst, replicate, ◌∙◌, arith}
use Rattle.std.specs.Prelude.{◌⊎◌}
use Rattle.std.proofs.lemmas.List.{length-replicate}
use Rattle.std.proofs.lemmas.Bool.{cases_eq}
use Rattle.bb_machine.specs.declared.entry.Dir.{Dir}
use Rattle.bb_machine.specs.declared.entry.Entry.{Entry}
use Rattle.bb_machine.specs.declared.entry.Entry.TheVariants.{Undefined, Go}
use Rattle.bb_machine.specs.declared.entry.Next.TheVariants as to
use Rattle.bb_machine.specs.Entry.{IsEntryOf}
use Rattle.bb_machine.specs.Machine.{Table, IsMachine, entry_of, symbols_of}
use Rattle.bb_machine.proofs.Facts.{entry_named}
use Rattle.bb_sim.specs.Run.{IsScore, Never}
use Rattle.bb_cert.specs.declared.verdict.Verdict.{Verdict}
use Rattle.bb_cert.specs.declared.verdict.Verdict.TheVariants.{Halt, Undecided}
use Rattle.bb_cert.specs.claims.Claim.{Claim, SaysNever}
use Rattle.bb_cert.proofs.Facts.{claims_never_halt}
use Rattle.laws_of_verdicts.specs.Change.{Change, IsChanged, changed_entry, turned}
use Rattle.laws_of_verdicts.specs.Completion.{IsCompletion}
use Rattle.laws_of_verdicts.specs.Closed.{CoversDecide, CoversSettle, FromUndefined, HaltsSoon, HasMachine}
use Rattle.laws_of_verdicts.specs.Closed.{IsClosed, IsLeftOpen, IsSettled, Settles, VerdictLine}
use Rattle.laws_of_verdicts.specs.Closed.{blank_table, with_entry}
use Rattle.laws_of_verdicts.specs.UndefinedEntry.{HaltsOnUndefined, HasOtherUndefined}
use Rattle.laws_of_verdicts.proofs.ChangedNotions.{score_image}
use Rattle.laws_of_verdicts.proofs.ChangedRuns.{changed_back, conf_image, turned-twice}
use Rattle.laws_of_verdicts.proofs.Completions.{completions_never_halt}
use Rattle.laws_of_verdicts.proofs.Composed.{composed, filled_changed, undefined_changed, is_composed}
use Rattle.laws_of_verdicts.proofs.Composed.{never_changed, no_Z_before, other_undefined_changed}
use Rattle.laws_of_verdicts.proofs.Fillings.{HasNoZ, blank_machine, blank_table-none, entry-either, symbols_of_blank}
use Rattle.laws_of_verdicts.proofs.Fillings.{undefined_entries}
use Rattle.laws_of_verdicts.proofs.Fillings.{undefined_entries-with_entry, length-with_entry, machine-with_entry}
use Rattle.laws_of_verdicts.proofs.Fillings.{no_Z-with_entry, other_undefined, some_undefined, symbols_of-with_entry}
use Rattle.laws_of_verdicts.proofs.UndefinedHalts.{HaltsInTable, full_never_halts, halts_next, halts_on_undefined}
use Rattle.laws_of_verdicts.proofs.UndefinedHalts.{still_halts}

-- a machine of the list, changed, that the given one completes, and that has no entry into Z
record Stage (lines : List VerdictLine) (machine table : Table) : Type 0 where
  of_list : HasMachine lines table
  is_machine : IsMachine table
  states : length table ≡ length machine
  symbols : symbols_of table ≡ symbols_of machine
  completes : IsCompletion table machine
  no_Z : HasNoZ table

-- a completion has the entry that fills a gap
pub still_completes : (table machine : Table) → IsMachine table → IsCompletion table machine → (q s : ℕ)
    (entry : Entry) → q < length table → s < symbols_of table → entry_of machine q s ≡ entry
    → IsCompletion (with_entry table q s entry) machine
still_completes table machine is completes q s entry below inside e = record {
  kept = λ i j some. elim (entry-either table is q s entry below inside i j) [
    | inl here ↦ ap₂ (entry_of machine) here.0 here.1 ∙ e ∙ sym here.2
    | inr there ↦ completes.kept i j (λ undefined. some (there.1 ∙ undefined)) ∙ sym there.1
  ];
}

-- what is found out at a stage: the machine is settled, or completes a later one with one gap less
abbrev Found : List VerdictLine → Table → Table → Type 0
Found lines machine table = IsSettled lines machine
    ⊎ ((later : Table) × (suc (undefined_entries later) ≡ undefined_entries table) × Stage lines machine later)

module _ (lines : List VerdictLine) (closed : IsClosed lines) (machine : Table) (is : IsMachine machine)
    (table : Table) (stage : Stage lines machine table) where
  abbrev line : VerdictLine
  line = stage.of_list.line

  abbrev change : Change
  change = stage.of_list.change

  is_changed : IsChanged change line.table table
  is_changed = stage.of_list.is_changed

  line_machine : IsMachine line.table
  line_machine = closed.machines line stage.of_list.listed

  claim : (verdict : Verdict) → line.verdict ≡ verdict → Claim line.table verdict
  claim verdict e = subst (Claim line.table) e (closed.claims line stage.of_list.listed)

  settled : (verdict : Verdict) → line.verdict ≡ verdict → Settles table verdict machine
      → IsSettled lines machine
  settled verdict e settles = record {
    line = line;
    listed = stage.of_list.listed;
    change = change;
    changed = table;
    is_changed = is_changed;
    completes = stage.completes;
    settles = subst (λ v. Settles table v machine) (sym e) settles;
  }

  never_halts : (verdict : Verdict) → line.verdict ≡ verdict → SaysNever verdict → Never machine
  never_halts verdict e says = completions_never_halt table machine stage.completes
      (never_changed change line.table table is_changed
      (claims_never_halt line.table verdict line_machine says (claim verdict e)))

  module _ (n ones : ℕ) (says : line.verdict ≡ Halt n ones) (there : HaltsInTable line.table n) where
    abbrev q : ℕ
    q = change.states.new there.state

    abbrev s : ℕ
    s = change.symbols.new there.symbol

    below : q < length table
    below =
        omega (arith, (is_changed.states_named there.state).0 there.below, is_changed.states)

    inside : s < symbols_of table
    inside =
        omega (arith, (is_changed.symbols_named there.symbol).0 there.inside, is_changed.symbols)

    undefined : HaltsOnUndefined table n q s
    undefined = undefined_changed change line.table table is_changed n there.state there.symbol there.undefined

    scored : IsScore table n ones
    scored = score_image change line.table table n
        (λ m h. conf_image change line.table table is_changed m) ones (claim (Halt n ones) says).1

    found : (entry : Entry) → entry_of machine q s ≡ entry → FromUndefined machine n ones s entry
        → IsSettled lines machine
    found entry e does = settled (Halt n ones) says (record {
      state = q;
      symbol = s;
      undefined = undefined;
      does = subst (FromUndefined machine n ones s) (sym e) does;
    })

    module _ (write t : ℕ) (dir : Dir) (e : entry_of machine q s ≡ Go write dir (to.State t)) where
      abbrev filled : Table
      filled = with_entry table q s (Go write dir (to.State t))

      named : (write < symbols_of table) × (t < length table)
      named =
          let h = below in
          let i = inside in
          let both : IsEntryOf (length machine) (symbols_of machine) (entry_of machine q s) =
          entry_named _ _ machine q s is (omega (arith, h, stage.states)) (omega (arith, i, stage.symbols)) in
          let named : (write < symbols_of machine) × (t < length machine) =
          subst (IsEntryOf (length machine) (symbols_of machine)) e both in
          (omega (arith, named.0, stage.symbols), omega (arith, named.1, stage.states))

      filled_machine : IsMachine filled
      filled_machine = machine-with_entry table stage.is_machine q s (Go write dir (to.State t)) below named

      completes : IsCompletion filled machine
      completes = still_completes table machine stage.is_machine stage.completes q s
          (Go write dir (to.State t)) below inside e

      no_Z : HasNoZ filled
      no_Z = no_Z-with_entry table stage.is_machine q s write t dir below inside stage.no_Z

      -- the entry in the names of the line's machine
      abbrev entry_there : Entry
      entry_there = Go (change.symbols.old write) (turned change.mirrored dir)
          (to.State (change.states.old t))

      same_entry : changed_entry change entry_there ≡ Go write dir (to.State t)
      same_entry =
          let w = change.symbols.new_of_old write in
          let d = turned-twice change.mirrored dir in
          let l = change.states.new_of_old t in
          λ i. Go (w i) (d i) (to.State (l i))

      filled_there : IsChanged change (with_entry line.table there.state there.symbol entry_there) filled
      filled_there = subst
          (λ x. IsChanged change (with_entry line.table there.state there.symbol entry_there)
          (with_entry table q s x)) same_entry
          (filled_changed change line.table table line_machine stage.is_machine is_changed there.state
          there.symbol entry_there there.below there.inside)

      listed_there : HasOtherUndefined line.table there.state there.symbol
          → HasMachine lines (with_entry line.table there.state there.symbol entry_there)
      listed_there other =
          let undone = changed_back change line.table table is_changed in
          let l = (undone.states_named t).0 named.1 in
          closed.goes_on line n ones there.state there.symbol (change.symbols.old write)
          (change.states.old t) (turned change.mirrored dir) stage.of_list.listed says there.undefined other
          (omega (arith, (undone.symbols_named write).0 named.0)) (omega (arith, l, is_changed.states))

      later : HasOtherUndefined table q s → Stage lines machine filled
      later other =
          let has = listed_there (other_undefined_changed change line.table table is_changed there.state
          there.symbol other) in
          record {
            of_list = record {
              line = has.line;
              listed = has.listed;
              change = composed has.change change;
              is_changed = is_composed has.change change has.line.table
                  (with_entry line.table there.state there.symbol entry_there) filled has.is_changed
                  filled_there;
            };
            is_machine = filled_machine;
            states = length-with_entry table q s (Go write dir (to.State t)) ∙ stage.states;
            symbols = symbols_of-with_entry table q s (Go write dir (to.State t)) ∙ stage.symbols;
            completes = completes;
            no_Z = no_Z;
          }

      goes_on : Found lines machine table
      goes_on = elim (cases_eq (undefined_entries filled) 0) [
        | inl none ↦ inl (found (Go write dir (to.State t)) e (completions_never_halt filled machine completes
            (full_never_halts filled filled_machine no_Z none)))
        | inr more ↦ inr (
          filled,
          undefined_entries-with_entry table stage.is_machine q s write dir (to.State t) below inside undefined.undefined,
          later (other_undefined table stage.is_machine q s write dir (to.State t) below inside
              (some_undefined filled filled_machine (omega (arith, more)))),
        )
      ]

    by_entry : (entry : Entry) → entry_of machine q s ≡ entry → Found lines machine table
    by_entry Undefined e = inl (found Undefined e
        (still_halts table machine stage.completes n q s undefined e ones scored))
    by_entry (Go write dir to.Halt) e = inl (found (Go write dir to.Halt) e
        (halts_next table machine stage.completes n q s undefined write dir e ones scored))
    by_entry (Go write dir (to.State t)) e = goes_on write t dir e

  by_verdict : (verdict : Verdict) → line.verdict ≡ verdict → Found lines machine table
  by_verdict (Halt n ones) e =
      let there = halts_on_undefined line.table line_machine (no_Z_before change line.table table is_changed
      stage.no_Z) n (claim (Halt n ones) e).0 in
      by_entry n ones e there _ refl
  by_verdict (Undecided why) e = inl (settled (Undecided why) e tt)
  by_verdict verdict e = inl (settled verdict e (never_halts verdict e tt))

walk : (lines : List VerdictLine) → IsClosed lines → (machine : Table) → IsMachine machine → (count : ℕ)
    (table : Table) → undefined_entries table ≡ count → Stage lines machine table → IsSettled lines machine
walk lines closed machine is zero table e stage =
    elim (by_verdict lines closed machine is table stage _ refl) [
      | inl done ↦ done
      | inr more ↦ let fewer = more.1 in absurd (omega (arith, fewer, e))
    ]
walk lines closed machine is (suc count) table e stage =
    elim (by_verdict lines closed machine is table stage _ refl) [
      | inl done ↦ done
      | inr more ↦ let fewer = more.1 in walk lines closed machine is count more.0
          (omega (arith, fewer, e)) more.2
    ]

-- the machine with no entry

first_stage : (lines : List VerdictLine) (machine : Table) → IsMachine machine
    → HasMachine lines (blank_table (length machine) (symbols_of machine))
    → Stage lines machine (blank_table (length machine) (symbols_of machine))
first_stage lines machine is has =
    let n = length machine in
    let k = symbols_of machine in
    record {
      of_list = has;
      is_machine = blank_machine machine is;
      states = length-replicate n (replicate k Undefined);
      symbols = symbols_of_blank n k is.some_state;
      completes = record { kept = λ q s some. absurd (some (blank_table-none n k q s)) };
      no_Z = record { none = λ q s write dir e. let none = blank_table-none n k q s in cc (e, none) };
    }

pub covers_settle : CoversSettle
covers_settle lines machine is covers =
    let root = blank_table (length machine) (symbols_of machine) in
    walk lines covers.closed machine is (undefined_entries root) root refl (first_stage lines machine is covers.has_root)

-- for short

module _ (lines : List VerdictLine) (machine : Table) (is : IsSettled lines machine) where
  halts_soon : (n ones : ℕ) → is.line.verdict ≡ Halt n ones → (m twos : ℕ) → Claim machine (Halt m twos)
      → m ≤ n + 1 → twos ≤ ones + 1 → HaltsSoon lines machine
  halts_soon n ones e m twos claim soon few = record {
    line = is.line;
    listed = is.listed;
    steps = n;
    score = ones;
    says = e;
    new_steps = m;
    new_score = twos;
    claim = claim;
    soon = soon;
    few = few;
  }

  from_undefined : (n ones s : ℕ) → is.line.verdict ≡ Halt n ones → (entry : Entry) → FromUndefined machine n ones s entry
      → HaltsSoon lines machine ⊎ (Never machine ⊎ IsLeftOpen lines machine)
  from_undefined n ones s e Undefined does = inl (halts_soon n ones e n ones does (omega arith) (omega arith))
  from_undefined n ones s e (Go write dir to.Halt) does =
      inl (halts_soon n ones e (n + 1) does.new_score (does.halts, does.scores) (omega arith)
      (omega (arith, does.counted)))
  from_undefined n ones s e (Go write dir (to.State t)) does = inr (inl does)

  outcome : (verdict : Verdict) → is.line.verdict ≡ verdict → Settles is.changed verdict machine
      → HaltsSoon lines machine ⊎ (Never machine ⊎ IsLeftOpen lines machine)
  outcome (Halt n ones) e settles = from_undefined n ones settles.symbol e _ settles.does
  outcome (Undecided why) e settles = inr (inr (record {
    line = is.line;
    listed = is.listed;
    why = why;
    says = e;
    change = is.change;
    changed = is.changed;
    is_changed = is.is_changed;
    completes = is.completes;
  }))
  outcome verdict e settles = inr (inl settles)

pub covers_decide : CoversDecide
covers_decide lines machine is covers =
    let settled = covers_settle lines machine is covers in
    outcome lines machine settled settled.line.verdict refl settled.settles
