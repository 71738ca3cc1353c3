use Rattle.std.proofs.Common.{◌≡◌, ◌++◌, ◌∷◌, [], rules}
use Rattle.bb_machine.proofs.Checked.{entry_there, group_grows, group_whole}
use Rattle.bb_machine.proofs.machine.reader.is_group.Goals as goal

pub returns-then-not-is_at_first : goal.returns-then-not-is_at_first
returns-then-not-is_at_first c = (
  λ is_so. absurd (search rules),
  λ g. let e =
      entry_there c.args.states c.args.symbols c.loop-symbol.symbol c.args.bytes.now g.0 g.1 g.2
      c.loop-symbol-test.true in
      absurd (search rules),
)

pub loop-symbol-preserved : goal.loop-symbol-preserved
loop-symbol-preserved c =
    let so_far = c.loop-symbol.invariant in
    let e = c.is_at_first.ensures.0 (search rules) in (
      so_far.0 ++ e.0 ∷ [],
      group_grows c.args.states c.args.symbols c.loop-symbol.symbol c.args.bytes.now so_far.0 e.0 so_far.1
          e.1 e.2,
    )

pub returns : goal.returns
returns c = (
  λ is_so. let so_far = c.loop-symbol.invariant in
      let all : c.loop-symbol.symbol ≡ c.args.symbols = search rules in
      let whole =
      group_whole c.args.states c.args.symbols c.args.bytes.now so_far.0 (rw all at so_far.1) in
      (so_far.0, whole.0, whole.1),
  λ g. search rules,
)
