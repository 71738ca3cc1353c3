-- Last uses that are appended one after another, and the whole reply.
use Rattle.std.proofs.Common.{◌≡◌, ℕ, ◌+◌, true, false, List, [], ◌∷◌, ◌++◌, length, Option, MatchOption}
use Rattle.std.proofs.Common.{refl, ap, sym, ◌∙◌, codes, add-one, append_assoc, append-nil, take, ℤ}
use Rattle.std.proofs.Math.Seq.{take-append_seam}
use Rattle.bb_machine.specs.Machine.{Table, symbols_of, text}
use Rattle.laws_of_recurrence.specs.Recurrence.{RepeatsExactly}
use Rattle.laws_of_recurrence.specs.Shift.{IsShift}
use Rattle.laws_of_recurrence.specs.Uses.{IsQuasihalt, TablePart, of_state}
use Rattle.bb_recurrence.specs.declared.uses.LastUse.{LastUse}
use Rattle.bb_recurrence.specs.LastUses.{IsUse, of_entry}
use Rattle.bb_recurrence.specs.Parts.{AreUses, entries_before, row_before, states_before}
use Rattle.bb_recurrence.specs.RecurrenceReply.{numbers_text, quasihalt_text}
use Rattle.bb_recurrence.specs.RecurrenceReply.{use_text, uses_text}
use Rattle.bb_recurrence.specs.Writing.{AppendsUses, BeginsWith, IsNumbersText}

module _ (table : Table) where
  are_uses_both : (a b : List TablePart) (uses more : List LastUse) → AreUses table a uses → AreUses table b more
      → AreUses table (a ++ b) (uses ++ more)
  are_uses_both [] b [] more are too = too
  are_uses_both [] b (last ∷ uses) more are too = absurd are
  are_uses_both (part ∷ a) b [] more are too = absurd are
  are_uses_both (part ∷ a) b (last ∷ uses) more are too = (are.0, are_uses_both a b uses more are.1 too)

  uses_text_both : (uses more : List LastUse) → uses_text (uses ++ more) ≡ uses_text uses ++ uses_text more
  uses_text_both [] more = refl
  uses_text_both (last ∷ uses) more =
      ap (λ (x : List ℕ). (codes " " ++ use_text last) ++ x) (uses_text_both uses more)
      ∙ sym (append_assoc (codes " " ++ use_text last) (uses_text uses) (uses_text more))

  pub appends_none : (old : List ℕ) → AppendsUses table [] old old
  appends_none old = record { uses = []; are_uses = tt; is_text = sym (append-nil old) }

  pub appends_both : (a b : List TablePart) (old mid new : List ℕ) → AppendsUses table a old mid
      → AppendsUses table b mid new → AppendsUses table (a ++ b) old new
  appends_both a b old mid new one two = record {
    uses = one.uses ++ two.uses;
    are_uses = are_uses_both a b one.uses two.uses one.are_uses two.are_uses;
    is_text = two.is_text ∙ ap (λ (x : List ℕ). x ++ uses_text two.uses) one.is_text
        ∙ append_assoc old (uses_text one.uses) (uses_text two.uses)
        ∙ ap (λ (x : List ℕ). old ++ x) (sym (uses_text_both one.uses two.uses));
  }

  pub appends_one : (part : TablePart) (last : LastUse) (old new : List ℕ) → IsUse table part last
      → new ≡ old ++ (codes " " ++ use_text last) → AppendsUses table (part ∷ []) old new
  appends_one part last old new is written = record {
    uses = last ∷ [];
    are_uses = (is, tt);
    is_text = written ∙ ap (λ (x : List ℕ). old ++ x) (sym (append-nil (codes " " ++ use_text last)));
  }

  pub appends_state : (k : ℕ) (last : LastUse) (old mid new : List ℕ) → AppendsUses table (states_before k) old mid
      → IsUse table (of_state k) last → new ≡ mid ++ (codes " " ++ use_text last)
      → AppendsUses table (states_before (k + 1)) old new
  appends_state k last old mid new before is written =
      rw add-one (appends_both (states_before k) (of_state k ∷ []) old mid new before
      (appends_one (of_state k) last mid new is written))

  pub appends_entry : (q k : ℕ) (last : LastUse) (old mid new : List ℕ) → AppendsUses table (row_before q k) old mid
      → IsUse table (of_entry q k) last → new ≡ mid ++ (codes " " ++ use_text last)
      → AppendsUses table (row_before q (k + 1)) old new
  appends_entry q k last old mid new before is written =
      rw add-one (appends_both (row_before q k) (of_entry q k ∷ []) old mid new before
      (appends_one (of_entry q k) last mid new is written))

  pub appends_row : (symbols k : ℕ) (old mid new : List ℕ) → AppendsUses table (entries_before symbols k) old mid
      → AppendsUses table (row_before k symbols) mid new → AppendsUses table (entries_before symbols (k + 1)) old new
  appends_row symbols k old mid new before row =
      rw add-one (appends_both (entries_before symbols k) (row_before k symbols) old mid new before row)

-- ---- the whole reply

-- the beginning of the line
pub text_of_line : (table : Table) (line : List ℕ) (n : ℕ) → BeginsWith table line → n ≡ length (text table)
    → take n line ≡ text table
text_of_line table line n begins is =
    ap (λ k. take k line) is ∙ ap (take (length (text table))) begins.1 ∙ take-append_seam (text table) begins.0

module _ (table : Table) (start period : ℕ) (shift : ℤ) (quasihalt : Option ℕ)
    (exact : RepeatsExactly table start period) (is_shift : IsShift table start period shift)
    (is_quasihalt : MatchOption quasihalt ((steps : ℕ) → IsQuasihalt table steps → ⊥)
    (λ steps. IsQuasihalt table steps)) (none a b c d : List ℕ) (empty : none ≡ []) (named : a ≡ none ++ text table)
    (numbered : b ≡ a ++ numbers_text start period shift)
    (used : AppendsUses table (states_before (length table)) b c) (halted : d ≡ c ++ quasihalt_text quasihalt) where
  begun : d ≡ text table ++ numbers_text start period shift ++ uses_text used.uses ++ quasihalt_text quasihalt
  begun = let is = used.is_text in rw (halted, is, numbered, named, empty) refl

  pub numbers_alone : IsNumbersText table false d
  numbers_alone = record {
    numbers = record {
      start = start;
      period = period;
      shift = shift;
      states = used.uses;
      quasihalt = quasihalt;
      entries = [];
    };
    are_numbers = record {
      exact = exact;
      shift = is_shift;
      states = used.are_uses;
      quasihalt = is_quasihalt;
      entries = tt;
    };
    is_text = begun ∙ sym (append-nil (text table ++ numbers_text start period shift ++ uses_text used.uses
        ++ quasihalt_text quasihalt));
  }

  module _ (e f : List ℕ) (worded : e ≡ d ++ codes " entries")
      (entered : AppendsUses table (entries_before (symbols_of table) (length table)) e f) where
    ended : f ≡ text table ++ numbers_text start period shift ++ uses_text used.uses ++ quasihalt_text quasihalt
        ++ (codes " entries" ++ uses_text entered.uses)
    ended =
        let is = entered.is_text in
        is ∙ ap (λ (x : List ℕ). x ++ uses_text entered.uses) (worded ∙ ap (λ (x : List ℕ). x ++ codes " entries") begun)
        ∙ append_assoc (text table ++ numbers_text start period shift ++ uses_text used.uses
        ++ quasihalt_text quasihalt) (codes " entries") (uses_text entered.uses)

    pub numbers_and_entries : IsNumbersText table true f
    numbers_and_entries = record {
      numbers = record {
        start = start;
        period = period;
        shift = shift;
        states = used.uses;
        quasihalt = quasihalt;
        entries = entered.uses;
      };
      are_numbers = record {
        exact = exact;
        shift = is_shift;
        states = used.are_uses;
        quasihalt = is_quasihalt;
        entries = entered.are_uses;
      };
      is_text = ended;
    }
