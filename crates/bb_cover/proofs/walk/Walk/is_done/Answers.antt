use Rattle.std.proofs.Common.{◌≡◌, ap, sym, ◌∙◌, length, arith}
use Rattle.std.proofs.lemmas.Grind.{common_steps}
use Rattle.std.proofs.lemmas.List.{nil_from_length}
use Rattle.bb_cover.specs.Left.{left}
use Rattle.bb_cover.proofs.Lefts.{left_nothing}
use Rattle.bb_cover.proofs.walk.Walk.is_done.Goals as goal

pub returns : goal.returns
returns c = (
  λ done.
      let none : length c.self.inside.frames.items ≡ 0 = grind (arith, common_steps) in
      sym c.self.view_is ∙ ap left (nil_from_length c.self.inside.frames.items none),
  λ done.
      let none : length c.self.inside.frames.items ≡ 0 =
      ap (λ frames. length frames) (left_nothing 0 c.self.inside.frames.items c.self.invariant.0
      (c.self.view_is ∙ done)) in
      grind (arith, common_steps),
)
