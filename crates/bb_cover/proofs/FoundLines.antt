-- Where the walk to a machine's line ends.
use Rattle.std.proofs.Common.{◌≡◌, ◌≢◌, ℕ, Some, None, length, ap₂, sym, subst, ◌∙◌}
use Rattle.bb_machine.specs.declared.entry.Dir.{Dir}
use Rattle.bb_machine.specs.declared.entry.Entry.{Entry}
use Rattle.bb_machine.specs.declared.entry.Entry.TheVariants.{Go}
use Rattle.bb_machine.specs.declared.entry.Next.TheVariants as next
use Rattle.bb_machine.specs.Limits.{Bounds}
use Rattle.bb_machine.specs.Machine.{Table, IsMachine, entry_of, symbols_of}
use Rattle.bb_sim.specs.Run.{HaltsAt}
use Rattle.bb_sim.specs.Span.{Inside}
use Rattle.laws_of_verdicts.specs.LineOf.{IsOnWay}
use Rattle.laws_of_verdicts.specs.UndefinedEntry.{HaltsOnUndefined, HasOtherUndefined}
use Rattle.laws_of_verdicts.proofs.Facts.{halts_on_undefined, halts_there, own_place, same_place, undefined_named}
use Rattle.bb_cover.specs.declared.halt.Halted.{Halted}
use Rattle.bb_cover.specs.declared.line.How.{How}
use Rattle.bb_cover.specs.declared.line.How.TheVariants.{Runs, Halts}
use Rattle.bb_cover.specs.declared.line.Line.{Line}
use Rattle.bb_cover.specs.declared.naming.Naming.{Naming}
use Rattle.bb_cover.specs.declared.undefined.UndefinedEntry.{UndefinedEntry}
use Rattle.bb_cover.specs.Halts.{EndsSo}
use Rattle.bb_cover.specs.Line.{EndsAs, IsLine, change_of}
use Rattle.bb_cover.specs.LineReply.{HasEntryText}
use Rattle.bb_cover.proofs.Texts.{named_few}
use Rattle.bb_cover.specs.UndefinedEntries.{HaltsOn, IsUndefinedOf}
use Rattle.bb_machine.specs.declared.machine.TheConstants.{MAX_STATES, MAX_SYMBOLS}
use Rattle.bb_machine.specs.Entry.{IsEntryOf}
use Rattle.bb_machine.proofs.Facts.{entry_named}

module _ (change : Naming) (bounds : Bounds) (table machine : Table)
    (on : IsOnWay (change_of change) bounds table machine) where
  pub runs : ((steps : ℕ) → HaltsAt table steps → Inside table bounds steps → ⊥)
      → IsLine machine bounds (record { machine = table; change = change; how = Runs })
  runs none = record {
    is_line = record {
      on_way = on;
      last = λ steps q s write to dir undefined inside other e.
          none steps (halts_there table steps q s undefined) inside;
    };
    how = none;
  }

  module _ (halted : Halted) (ends : EndsSo table bounds halted.steps halted) where
    -- the line's machine has no entry into Z
    pub not_in_Z : halted.undefined ≡ None → ⊥
    not_in_Z e =
        let there = halts_on_undefined table on.is_machine (record { none = on.no_Z }) halted.steps ends.halts in
        subst (HaltsOn table halted.steps) e ends.on there.state there.symbol there.undefined

    module _ (undefined : UndefinedEntry) (is : halted.undefined ≡ Some undefined) where
      pub on_undefined : HaltsOnUndefined table halted.steps undefined.state undefined.symbol
          × IsUndefinedOf table undefined
      on_undefined = subst (HaltsOn table halted.steps) is ends.on

      pub stops : (entry : Entry)
          → entry ≡ entry_of machine ((change_of change).states.new undefined.state)
          ((change_of change).symbols.new undefined.symbol)
          → ((write to : ℕ) (dir : Dir) → HasOtherUndefined table undefined.state undefined.symbol
          → entry ≢ Go write dir (next.State to))
          → IsLine machine bounds (record {
            machine = table;
            change = change;
            how = Halts (record {
              steps = halted.steps;
              score = halted.score;
              state = undefined.state;
              symbol = undefined.symbol;
              entry = entry;
            });
          })
      stops entry own last = record {
        is_line = record {
          on_way = on;
          last = λ steps q s write to dir there inside other e.
              let same = same_place table halted.steps steps undefined.state undefined.symbol q s on_undefined.0
              there in
              last write to dir (subst (λ x. HasOtherUndefined table x undefined.symbol) same.0
              (subst (HasOtherUndefined table q) same.1 other))
              (own ∙ sym (ap₂ (λ x y. entry_of machine ((change_of change).states.new x)
              ((change_of change).symbols.new y)) same.0 same.1) ∙ e);
        };
        how = record { undefined = on_undefined.0; inside = ends.inside; scores = ends.scores; own = own };
      }

-- the machine's own entry has a text
pub has_entry_text : (machine : Table) (bounds : Bounds) (line : Line) → IsMachine machine
    → IsLine machine bounds line → HasEntryText line.how
has_entry_text machine bounds line machine_is is = by line.how is.how where
  by : (how : How) → EndsAs (change_of line.change) bounds line.machine machine how → HasEntryText how
  by Runs ends = tt
  by (Halts halt) ends =
      let on = is.is_line.on_way in
      let named = undefined_named line.machine on.is_machine halt.steps halt.state halt.symbol ends.undefined in
      let place = own_place (change_of line.change) bounds line.machine machine on halt.state halt.symbol named.0
      named.1 in
      subst (IsEntryOf MAX_STATES MAX_SYMBOLS) (sym ends.own)
      (named_few (length machine) (symbols_of machine) machine_is.states machine_is.symbols _
      (entry_named MAX_STATES MAX_SYMBOLS machine _ _ machine_is place.0 place.1))
