-- What a machine that halts on a `---` does once that is filled.
use Rattle.std.proofs.Common.{◌≡◌, ℕ, ◌<◌, length, Some, None}
use Rattle.std.proofs.Common.{refl, ap, sym, subst, ◌∙◌}
use Rattle.bb_machine.specs.declared.entry.Entry.{Entry}
use Rattle.bb_machine.specs.declared.entry.Entry.TheVariants.{Undefined, Go}
use Rattle.bb_machine.specs.declared.entry.Next.TheVariants.{State, Halt}
use Rattle.bb_machine.specs.Entry.{IsNextOf}
use Rattle.bb_machine.specs.Machine.{Table, IsMachine, entry_of, symbols_of}
use Rattle.bb_tape.specs.Content.{cell, score}
use Rattle.bb_tape.proofs.Facts.{score-with_cell}
use Rattle.bb_sim.specs.Configuration.{Configuration, followed, entry_at, next}
use Rattle.bb_sim.specs.Run.{conf, HaltsAt, IsScore, Never}
use Rattle.bb_sim.proofs.Facts.{conf-next, led, run_named}
use Rattle.bb_cert.specs.declared.verdict.Verdict.TheVariants as verdict
use Rattle.bb_cert.specs.claims.Claim.{Claim}
use Rattle.laws_of_verdicts.specs.Completion.{IsCompletion}
use Rattle.laws_of_verdicts.specs.UndefinedEntry.{FilledEntriesHaltNext, UndefinedEntriesKeepHalts, HaltsNext, HaltsOnUndefined}
use Rattle.laws_of_verdicts.proofs.ChangedRuns.{along}
use Rattle.laws_of_verdicts.proofs.Completions.{conf_kept}
use Rattle.laws_of_verdicts.proofs.Fillings.{HasNoZ, undefined_entries, no_undefined}

-- a configuration in a state, not in Z
pub record IsIn (c : Configuration) : Type 0 where
  pub state : ℕ
  pub is : c.state ≡ State state

-- no step leads into Z
followed_in : (table : Table) (q s : ℕ) (entry : Entry) (c d : Configuration) → HasNoZ table
    → entry_of table q s ≡ entry → followed entry c ≡ Some d → IsIn d
followed_in table q s Undefined c d no_Z e leads = absurd cc
followed_in table q s (Go write dir (State to)) c d no_Z e leads =
    let same : led c write dir (State to) ≡ d = cc in
    record { state = to; is = ap (λ x. x.state) (sym same) }
followed_in table q s (Go write dir Halt) c d no_Z e leads = absurd (no_Z.none q s write dir e)

pub stays_in : (table : Table) → HasNoZ table → (n : ℕ) (c : Configuration) → conf table n ≡ Some c → IsIn c
unfolding next
stays_in table no_Z = along table IsIn (record { state = 0; is = refl }) (λ c d leads before.
    let symbol = cell c.tape c.head in
    let entry : entry_at table c.state symbol ≡ entry_of table before.state symbol =
    ap (λ x. entry_at table x symbol) before.is in
    followed_in table before.state symbol _ c d no_Z refl (ap (λ x. followed x c) (sym entry) ∙ leads))

-- where it halts: on a `---` of its table
pub record HaltsInTable (table : Table) (n : ℕ) : Type 0 where
  pub state : ℕ
  pub symbol : ℕ
  pub undefined : HaltsOnUndefined table n state symbol
  pub below : state < length table
  pub inside : symbol < symbols_of table

pub undefined_here : (entry : Entry) (c : Configuration) → followed entry c ≡ None → entry ≡ Undefined
undefined_here Undefined c e = refl
undefined_here (Go write dir to) c e = absurd cc

pub halts_on_undefined : (table : Table) → IsMachine table → HasNoZ table → (n : ℕ) → HaltsAt table n
    → HaltsInTable table n
unfolding next
halts_on_undefined table machine no_Z n halts =
    let at = stays_in table no_Z n halts.last halts.exists in
    let named = run_named table machine n halts.last halts.exists in
    let symbol = cell halts.last.tape halts.last.head in
    let entry : entry_at table halts.last.state symbol ≡ entry_of table at.state symbol =
    ap (λ x. entry_at table x symbol) at.is in
    let none : followed (entry_of table at.state symbol) halts.last ≡ None =
    ap (λ x. followed x halts.last) (sym entry) ∙ halts.no_next in
    record {
      state = at.state;
      symbol = symbol;
      undefined = record {
        last = halts.last;
        exists = halts.exists;
        in_state = at.is;
        at_symbol = refl;
        undefined = undefined_here (entry_of table at.state symbol) halts.last none;
      };
      below = subst (λ x. IsNextOf (length table) x) at.is named.state;
      inside = named.symbols halts.last.head;
    }

-- a machine without `---` and without entries into Z never halts
pub full_never_halts : (table : Table) → IsMachine table → HasNoZ table → undefined_entries table ≡ 0 → Never table
full_never_halts table machine no_Z none = record {
  never = λ n halts.
      let there = halts_on_undefined table machine no_Z n halts in
      no_undefined table machine there.state there.symbol none there.below there.inside there.undefined.undefined;
}

-- the entry of a completion there
module _ (table machine : Table) (completion : IsCompletion table machine) (n q s : ℕ)
    (undefined : HaltsOnUndefined table n q s) where
  here : conf machine n ≡ Some undefined.last
  here = conf_kept table machine completion n undefined.last undefined.exists

  entry_here : entry_at machine undefined.last.state (cell undefined.last.tape undefined.last.head) ≡ entry_of machine q s
  entry_here = ap (λ x. entry_at machine x (cell undefined.last.tape undefined.last.head)) undefined.in_state
      ∙ ap (entry_of machine q) undefined.at_symbol

  scored : (ones : ℕ) → IsScore table n ones → ones ≡ score undefined.last.tape
  scored ones counts =
      let same : counts.here ≡ undefined.last = cc in
      counts.counted ∙ ap (λ x. score x.tape) same

  pub still_halts : entry_of machine q s ≡ Undefined → (ones : ℕ) → IsScore table n ones
      → Claim machine (verdict.Halt n ones)
  unfolding next
  still_halts e ones counts = (
    record {
      last = undefined.last;
      exists = here;
      no_next = ap (λ x. followed x undefined.last) (entry_here ∙ e);
    },
    record { here = undefined.last; exists = here; counted = scored ones counts },
  )

  pub halts_next : (write : ℕ) (dir : _) → entry_of machine q s ≡ Go write dir Halt → (ones : ℕ)
      → IsScore table n ones → HaltsNext machine n ones s write
  unfolding next
  halts_next write dir e ones counts =
      let there = conf-next machine n undefined.last here write dir Halt (entry_here ∙ e) in
      let was = scored ones counts in
      let one = score-with_cell undefined.last.tape undefined.last.head write in
      let under = undefined.at_symbol in
      record {
        new_score = score (led undefined.last write dir Halt).tape;
        halts = record { last = led undefined.last write dir Halt; exists = there; no_next = refl };
        scores = record { here = led undefined.last write dir Halt; exists = there; counted = refl };
        counted = rw (was, ← under) one;
      }

pub undefined_entries_keep_halts : UndefinedEntriesKeepHalts
undefined_entries_keep_halts table machine n ones q s completion undefined e claim =
    still_halts table machine completion n q s undefined e ones claim.1

pub filled_entries_halt_next : FilledEntriesHaltNext
filled_entries_halt_next table machine n ones q s write dir completion undefined e claim =
    halts_next table machine completion n q s undefined write dir e ones claim.1
