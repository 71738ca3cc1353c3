-- Why walks compose.
use Rattle.std.proofs.Common.{List, [], ◌∷◌, ◌++◌, refl, ap, sym, subst, append_assoc}
use Rattle.bb_machine.specs.Machine.{Table}
use Rattle.laws_of_verdicts.specs.Closed.{VerdictLine}
use Rattle.laws_of_verdicts.specs.Walk.{AreTwoWalks, IsWalk, WalksCompose}

parted : (first second : List Table) (lines : List VerdictLine) → IsWalk (first ++ second) lines
    → AreTwoWalks first second lines
parted [] second lines walk =
    record { before = []; after = lines; joined = refl; walk_before = tt; walk_after = walk }
parted (t ∷ first) second [] walk = absurd walk
parted (t ∷ first) second (line ∷ lines) walk =
    let two = parted (walk.1.0 ++ first) second lines
    (subst (λ ts. IsWalk ts lines) (sym (append_assoc walk.1.0 first second)) walk.1.2) in
    record {
      before = line ∷ two.before;
      after = two.after;
      joined = ap (λ l. line ∷ l) two.joined;
      walk_before = (walk.0, (walk.1.0, walk.1.1, two.walk_before));
      walk_after = two.walk_after;
    }

joined : (first second : List Table) (before after : List VerdictLine) → IsWalk first before
    → IsWalk second after → IsWalk (first ++ second) (before ++ after)
joined [] second [] after walk walk_too = walk_too
joined [] second (line ∷ before) after walk walk_too = absurd walk
joined (t ∷ first) second [] after walk walk_too = absurd walk
joined (t ∷ first) second (line ∷ before) after walk walk_too = (
  walk.0,
  (
    walk.1.0,
    walk.1.1,
    subst (λ ts. IsWalk ts (before ++ after)) (append_assoc walk.1.0 first second)
        (joined (walk.1.0 ++ first) second before after walk.1.2 walk_too),
  ),
)

pub walks_compose : WalksCompose
walks_compose first second lines = (
  parted first second lines,
  λ two. subst (IsWalk (first ++ second)) (sym two.joined)
      (joined first second two.before two.after two.walk_before two.walk_after),
)
