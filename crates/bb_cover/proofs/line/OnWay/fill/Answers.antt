use Rattle.std.proofs.Common.{◌≡◌, ℕ, ◌+◌, min, ap, ap₂, refl, sym, subst, ◌∙◌, arith}
use Rattle.bb_machine.specs.declared.entry.Entry.TheVariants.{Go}
use Rattle.bb_machine.specs.declared.entry.Next.TheVariants.{State}
use Rattle.laws_of_verdicts.specs.Change.{swapped, turned}
use Rattle.laws_of_verdicts.specs.Closed.{with_entry}
use Rattle.laws_of_verdicts.specs.LineOf.{IsOnWay}
use Rattle.laws_of_verdicts.proofs.Facts.{goes_on, swapped-used}
use Rattle.bb_cover.specs.Line.{change_of}
use Rattle.bb_cover.specs.Names.{name_in}
use Rattle.bb_cover.specs.UndefinedEntries.{undefined_entries_of}
use Rattle.bb_cover.proofs.Tables.{filled_undefined_entries}
use Rattle.bb_cover.proofs.line.OnWay.fill.Goals as goal

pub filled-requires-clause-named : goal.filled-requires-clause-named
filled-requires-clause-named c = (
  let few = c.requires.symbol in let name = c.old_name-symbol.ensures in let least = c.min-first_symbol.ensures in
      omega (arith, few, name, least),
  let few = c.requires.state in let name = c.old_name-state.ensures in let least = c.min-first_state.ensures in
      omega (arith, few, name, least),
)

-- the names that are swapped
same_swap : (first second a least : ℕ) → second ≡ a → first ≡ min second least → (x : ℕ)
    → swapped first second x ≡ swapped (min a least) a x
same_swap first second a least is is_first x =
    ap₂ (λ m n. swapped m n x) (is_first ∙ ap (λ n. min n least) is) is

pub swap-requires-clause-keeps_A : goal.swap-requires-clause-keeps_A
swap-requires-clause-keeps_A c =
    same_swap _ _ _ c.count_used-used.result.states refl c.min-first_state.ensures 0
    ∙ swapped-used c.old_name-state.result c.count_used-used.result.states 0
    c.count_used-used.ensures.uses.first.some_state

pub swap-requires-clause-keeps_0 : goal.swap-requires-clause-keeps_0
swap-requires-clause-keeps_0 c =
    same_swap _ _ _ c.count_used-used.result.symbols refl c.min-first_symbol.ensures 0
    ∙ swapped-used c.old_name-symbol.result c.count_used-used.result.symbols 0
    c.count_used-used.ensures.uses.first.some_symbol

pub returns-clause-on_way : goal.returns-clause-on_way
returns-clause-on_way c bounds machine steps is on undefined inside other e =
    let change = change_of c.args.self.now.change in
    let there = c.turn-there.ensures in
    let symbol = c.min-first_symbol.ensures ∙ ap (λ n. min n c.count_used-used.result.symbols) c.old_name-symbol.ensures in
    let state = c.min-first_state.ensures ∙ ap (λ n. min n c.count_used-used.result.states) c.old_name-state.ensures in
    let turn = c.turn.ensures ∙ ap (turned c.begins_left-mirrored.result) there in
    let entry : Go c.min-first_symbol.result c.turn.result (State c.min-first_state.result)
    ≡ Go (min (change.symbols.old c.args.step.write) c.count_used-used.result.symbols)
    (turned c.begins_left-mirrored.result (turned change.mirrored c.args.step.dir))
    (State (min (change.states.old c.args.step.to) c.count_used-used.result.states)) =
    (λ i. Go (symbol i) (turn i) (State (state i))) in
    subst (λ m. IsOnWay (change_of c.swap.result) bounds m machine)
    (sym (c.filled.ensures
    ∙ ap (with_entry c.args.self.now.machine c.args.undefined.state c.args.undefined.symbol) entry))
    (goes_on change (change_of c.swap.result) bounds c.args.self.now.machine machine is on steps c.args.undefined.state
    c.args.undefined.symbol undefined inside other c.args.step.write c.args.step.to c.args.step.dir e
    c.count_used-used.result.states c.count_used-used.result.symbols c.count_used-used.ensures.uses
    c.begins_left-mirrored.result c.begins_left-mirrored.ensures.empty
    (λ left empty. c.begins_left-mirrored.ensures.right (ap (turned c.begins_left-mirrored.result) there ∙ left) empty)
    c.swap.ensures.mirrored
    (λ x. c.swap.ensures.states x ∙ ap (name_in c.args.self.now.change.states.new)
    (same_swap _ _ _ c.count_used-used.result.states c.old_name-state.ensures c.min-first_state.ensures x))
    (λ x. c.swap.ensures.symbols x ∙ ap (name_in c.args.self.now.change.symbols.new)
    (same_swap _ _ _ c.count_used-used.result.symbols c.old_name-symbol.ensures c.min-first_symbol.ensures x)))

pub returns-clause-fewer : goal.returns-clause-fewer
returns-clause-fewer c =
    ap (λ m. undefined_entries_of m + 1) c.filled.ensures
    ∙ filled_undefined_entries c.args.self.now.machine c.show_machine.ensures.machine c.args.undefined.state
    c.args.undefined.symbol c.min-first_symbol.result c.turn.result (State c.min-first_state.result)
    c.requires.undefined.below c.requires.undefined.inside c.requires.undefined.is_undefined
