use Rattle.std.proofs.Common.{FitsSigned, refl, rules, w64}
use Rattle.std.proofs.lemmas.Int.{to_z-of_z}
use Rattle.bb_recurrence.proofs.GoingOn.{inside_of, steps_on}
use Rattle.bb_recurrence.proofs.recurrence.KnownPair.step.Goals as goal

pub unreachable-requires : goal.unreachable-requires
unreachable-requires g c =
    let on = steps_on _ _ _ _ _ c.requires.goes_on c.requires.before c.in_ok-advance.ensures.answers in
    let is = c.in-Halted.is in
    cc

pub unreachable-requires-in-NoSteps : goal.unreachable-requires-in-NoSteps
unreachable-requires-in-NoSteps g c =
    let on = steps_on _ _ _ _ _ c.requires.goes_on c.requires.before c.in_ok-advance.ensures.answers in
    let is = c.in-NoSteps.is in
    cc

pub unreachable-requires-in-NoCells : goal.unreachable-requires-in-NoCells
unreachable-requires-in-NoCells g c =
    let on = steps_on _ _ _ _ _ c.requires.goes_on c.requires.before c.in_ok-advance.ensures.answers in
    let is = c.in-NoCells.is in
    cc

pub read_inside-symbol-requires : goal.read_inside-symbol-requires
read_inside-symbol-requires g c =
    let fits : FitsSigned w64 c.position.result = search rules in
    let inside = inside_of _ _ _ _ _ _ c.requires.goes_on c.requires.at in
    simp to_z-of_z (rw c.position.ensures inside)

pub take_in-requires-clause-read : goal.take_in-requires-clause-read
take_in-requires-clause-read g c reads =
    let fits : FitsSigned w64 c.position.result = search rules in
    record {
      runner = _;
      view = _;
      stands = c.requires.at.stands;
      at = refl;
      reads = rw c.position.ensures at (simp to_z-of_z at c.read_inside-symbol.ensures);
    }

pub take_in-requires-clause-after : goal.take_in-requires-clause-after
take_in-requires-clause-after g c = record {
  view = _;
  stands = c.in_ok-advance.ensures.stands;
  at = (rw c.in-Stepped.is at c.in_ok-advance.ensures.moves).0;
}
