-- A configuration that comes again.
use Rattle.std.proofs.Common.{◌≡◌, ℕ, zero, suc, ◌+◌, ◌-◌, ◌≤◌, inl, inr, option_and_then, ap, sym, subst}
use Rattle.std.proofs.Common.{◌∙◌, arith}
use Rattle.std.proofs.lemmas.Bool.{cases_lt}
use Rattle.bb_machine.specs.Machine.{Table}
use Rattle.bb_sim.specs.Configuration.{next}
use Rattle.bb_sim.specs.Run.{conf, HaltsAt}
use Rattle.bb_sim.proofs.Facts.{conf-suc}
use Rattle.bb_cert.specs.claims.Repeat.{Same}
use Rattle.bb_cert.specs.claims.Laws.{RepeatsGoOn, RepeatsNeverHalt, RepeatsKeepDistance}
use Rattle.bb_tree.proofs.Facts.{no_halt_before, steps_of_never}

-- the run goes on from both in the same way, also to its end
pub together : (table : Table) (a b : ℕ) → Same table a b → (u : ℕ) → conf table (a + u) ≡ conf table (b + u)
together table a b same zero =
    let at_a : a + zero ≡ a = omega arith in
    let at_b : b + zero ≡ b = omega arith in
    rw at_a (rw at_b (same.at_first ∙ sym same.at_second))
together table a b same (suc u) =
    let at_a : a + suc u ≡ suc (a + u) = omega arith in
    let at_b : b + suc u ≡ suc (b + u) = omega arith in
    let before = together table a b same u in
    rw at_a (rw at_b (conf-suc table (a + u) ∙ ap (option_and_then (next table)) before
    ∙ sym (conf-suc table (b + u))))

-- a halt after the second would be one b - a steps before, too
halts_before : (table : Table) (a b n : ℕ) → Same table a b → b ≤ n → HaltsAt table n
    → HaltsAt table (a + (n - b))
halts_before table a b n same h halts =
    let e : b + (n - b) ≡ n = omega (arith, h) in
    record {
      last = halts.last;
      exists = together table a b same (n - b) ∙ ap (conf table) e
          ∙ halts.exists;
      no_next = halts.no_next;
    }

pub repeats_never_halt : RepeatsNeverHalt
repeats_never_halt table a b in_order same = record {
  never = λ n halts. elim (cases_lt n b) [
    | inl less ↦ no_halt_before table n b less (record { here = same.here; exists = same.at_second }) halts
    | inr more ↦ no_halt_before table (a + (n - b)) n (omega (arith, in_order, more))
        (record { here = halts.last; exists = halts.exists }) (halts_before table a b n same more halts)
  ];
}

pub repeats_go_on : RepeatsGoOn
repeats_go_on table a b in_order same u =
    let step = steps_of_never table (repeats_never_halt table a b in_order same) (a + u) in
    record {
      here = step.here;
      at_first = step.exists;
      at_second = sym (together table a b same u)
          ∙ step.exists;
    }

pub repeats_keep_distance : RepeatsKeepDistance
repeats_keep_distance table a p k some same =
    let e : (a + p) + k ≡ (a + k) + p = omega arith in
    subst (Same table (a + k)) e (repeats_go_on table a (a + p) (omega (arith, some)) same k)
