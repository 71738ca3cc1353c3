use Rattle.std.proofs.Common.{◌≡◌, ℕ, ap, arith, ◌∙◌}
use Rattle.bb_machine.specs.declared.machine.TheConstants.{MAX_STATES}
use Rattle.bb_cover.specs.Names.{name_in}
use Rattle.bb_cover.proofs.Renamings.{own_names}
use Rattle.bb_cover.proofs.naming.Names.own.Goals as goal
use Rattle.bb_cover.proofs.naming.Names.own.Goals.{After-loop-name}

-- after the loop each number has its own name
module _ (c : After-loop-name) where
  names : (n : ℕ) → name_in c.loop-name.own n ≡ n
  names = own_names c.loop-name.own MAX_STATES c.loop-name.invariant.whole
      (λ n h. let past = c.loop-name-test.false in c.loop-name.invariant.named n (omega (arith, h, past)))

pub invariant_of-result : goal.invariant_of-result
invariant_of-result c = record {
  new_whole = c.loop-name.invariant.whole;
  old_whole = c.loop-name.invariant.whole;
  old_of_new = λ n. ap (name_in c.loop-name.own) (names c n) ∙ names c n;
  new_of_old = λ n. ap (name_in c.loop-name.own) (names c n) ∙ names c n;
}

pub returns : goal.returns
returns c = names (goal.at.returns c).After-loop-name
