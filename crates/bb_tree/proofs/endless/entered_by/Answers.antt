use Rattle.std.proofs.Common.{◌≡◌, ◌<◌, inl, inr, sym, ◌∙◌, rules}
use Rattle.bb_tree.proofs.EndlessPaths.{in_either, in_one, same_go}
use Rattle.bb_tree.proofs.endless.entered_by.Goals as goal
use Rattle.bb_tree.proofs.endless.entered_by.Goals.{then-eq, else-eq}

pub loop-symbol-preserved : goal.loop-symbol-preserved
loop-symbol-preserved c state is = elim c.if-eq.branch [
  | then-eq w ↦
      let entry = c.in-Go-default-default-State in
      let same : entry.to ≡ c.args.dir = search rules in
      let less : entry.state < 32 = search rules in
      elim (in_either _ _ state (rw w.entered-is at is)) [
        | inl before ↦ c.loop-symbol.invariant state before
        | inr here ↦ record {
          symbol = c.loop-symbol.symbol;
          write = entry.write;
          entry = sym c.entry.ensures.value ∙ entry.is ∙ same_go entry.write same entry.next-is
              (in_one entry.state state less here);
        }
      ]
  | else-eq w ↦ c.loop-symbol.invariant state (rw w.entered-is at is)
]
