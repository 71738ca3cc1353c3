use Rattle.std.proofs.Common.{◌≡◌, ◌∙◌, ℕ, true, sym, subst}
use Rattle.bb_machine.specs.Rows.{is_small, table_of, IsTable}
use Rattle.bb_machine.proofs.Stored.{is_stored, small_is, small_symbols}
use Rattle.bb_machine.proofs.machine.Machine.read_in_place.Goals as goal

pub invariant_of-self : goal.invariant_of-self
invariant_of-self c =
    let found = c.in-Some.ensures in
    let small : is_small c.in-Some.states c.in-Some.symbols ≡ true =
    sym c.is_small_table.ensures ∙ c.if-is_small_table.true in
    let two = small_symbols c.in-Some.states c.in-Some.symbols small in
    let packed = c.read-self-inside.ensures found.0 (subst (λ (k : ℕ). IsTable c.in-Some.states k found.0) two found.1)
    found.2 in
    is_stored c.in-Some.states c.in-Some.symbols c.read-self-inside.result c.self.inside.slots found.0
    (small_is c.in-Some.states c.in-Some.symbols c.read-self-inside.result c.self.inside.slots found.0 small found.1 packed)
    found.1 (λ _. packed)

pub returns-then-is_small_table-clause-found : goal.returns-then-is_small_table-clause-found
returns-then-is_small_table-clause-found c =
    let found = c.in-Some.ensures in
    let small : is_small c.in-Some.states c.in-Some.symbols ≡ true =
    sym c.is_small_table.ensures ∙ c.if-is_small_table.true in
    let two = small_symbols c.in-Some.states c.in-Some.symbols small in
    let packed = c.read-self-inside.ensures found.0 (subst (λ (k : ℕ). IsTable c.in-Some.states k found.0) two found.1)
    found.2 in
    let is : table_of c.in-Some.states c.in-Some.symbols c.read-self-inside.result c.self.inside.slots ≡ found.0 =
    small_is c.in-Some.states c.in-Some.symbols c.read-self-inside.result c.self.inside.slots found.0 small found.1 packed in
    rw is (found.1.machine, found.2)
