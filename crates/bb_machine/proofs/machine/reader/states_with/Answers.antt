use Rattle.std.proofs.Common.{◌≡◌, ◌+◌, ◌*◌, ℕ, List, length, ap, sym, ◌∙◌, rules, arith}
use Rattle.std.proofs.Math.Nat.{eq_of_mul-eq-mul_right}
use Rattle.bb_machine.specs.declared.entry.Entry.{Entry}
use Rattle.bb_machine.specs.Machine.{IsMachine, symbols_of, text}
use Rattle.bb_machine.proofs.Lengths.{length-text}
use Rattle.bb_machine.proofs.machine.reader.states_with.Goals as goal

-- how long a machine's text is, by its states and symbols
long : (line : List ℕ) (gs : List (List Entry)) (symbols : ℕ) → IsMachine gs → text gs ≡ line
    → symbols ≡ symbols_of gs → length line + 1 ≡ length gs * (3 * symbols + 1)
long line gs symbols machine is same =
    ap (λ n. n + 1) (ap length (sym is))
    ∙ (length-text (length gs) (symbols_of gs) gs machine.some_state machine.groups
    ∙ ap (λ k. length gs * (3 * k + 1)) (sym same))

pub returns-in_err-states : goal.returns-in_err-states
returns-in_err-states c = rw c.from_residual.ensures none
  where
    none : (gs : List (List Entry)) → IsMachine gs → symbols_of gs ≡ c.args.symbols
        → text gs ≡ c.args.line.now → ⊥
    none gs machine symbols is =
        c.in_err-states.ensures (length gs) machine.some_state machine.states
        (long c.args.line.now gs c.args.symbols machine is (sym symbols))

pub returns-else-is_table : goal.returns-else-is_table
returns-else-is_table c gs machine symbols is =
    let same : c.in_ok-states.states * (3 * c.args.symbols + 1) ≡ length gs * (3 * c.args.symbols + 1) =
    sym c.in_ok-states.ensures.2 ∙ long c.args.line.now gs c.args.symbols machine is (sym symbols) in
    let states : c.in_ok-states.states ≡ length gs =
    eq_of_mul-eq-mul_right (3 * c.args.symbols + 1) (omega arith) c.in_ok-states.states (length gs) same in
    let no = c.is_table.ensures.1
    (gs, record { machine = machine; states_is = sym states; symbols_is = symbols }, is) in
    absurd (search rules)
