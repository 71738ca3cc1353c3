-- What the end of a single-pass run in registers means for the searches.
use Rattle.std.proofs.Common.{◌≡◌, ℕ, ◌≤◌, ◌⊎◌, inl, inr, Some, ℤ, pos, length, refl, ap, sym, subst}
use Rattle.std.proofs.Common.{◌∙◌, arith}
use Rattle.std.proofs.lemmas.Bool.{cases_lt}
use Rattle.std.proofs.lemmas.Int.{ints}
use Rattle.bb_machine.specs.Limits.{Bounds}
use Rattle.bb_machine.specs.Machine.{Table, symbols_of}
use Rattle.bb_sim.specs.declared.meter.Meter.{Meter}
use Rattle.bb_sim.specs.declared.simulation.Outcome.{Outcome}
use Rattle.bb_sim.specs.Meter.{CountsTo}
use Rattle.bb_sim.specs.Runner.{steps_of}
use Rattle.bb_sim.specs.Span.{counted_head}
use Rattle.bb_sim.proofs.Facts.{counted_head-at}
use Rattle.bb_registers.specs.declared.run.RegisterRun.{RegisterRun}
use Rattle.bb_registers.specs.Registers.{EndsWith, FitsRegisters, IsRegisterRun}
use Rattle.bb_registers.proofs.Facts.{fits_before, stays_in_word}
use Rattle.bb_cert.specs.claims.Claim.{Claim}
use Rattle.bb_cert.specs.declared.verdict.Verdict.{Verdict}
use Rattle.bb_cert.specs.declared.verdict.Verdict.TheVariants.{Cycler, Translated}
use Rattle.bb_cert.proofs.Facts.{claimed_is_said}
use Rattle.bb_decide.specs.Cycle.{FindsCycle}
use Rattle.bb_decide.specs.Fingerprint.{named_step}
use Rattle.bb_decide.specs.SinglePassCost.{IsStoppedAt}
use Rattle.bb_decide.specs.Translation.{FindsTranslation}
use Rattle.bb_decide.specs.declared.search_result.SearchResult.TheVariants.{Found}
use Rattle.bb_decide.specs.inside.SearchResult.{MakesSinglePass}
use Rattle.bb_decide.proofs.RegisterHandover.{fits_so_far}
use Rattle.bb_decide.proofs.Translations.{pair_agrees}

module _ {table : Table} {bounds : Bounds} {run : RegisterRun} (known : IsRegisterRun table bounds run)
    (symbols : symbols_of table ≡ 2) (states : length table ≤ 7) where
  -- what was found in registers, and its claim
  pub finds_in_registers : (key : ℤ → ℕ) (old new : Meter) (verdict : Verdict)
      → FindsCycle table bounds (Some verdict) ⊎ FindsTranslation table bounds (Some verdict)
      → named_step bounds verdict ≡ run.steps → CountsTo table (steps_of known.runner) old new
      → MakesSinglePass table bounds key old new (Some (Found verdict)) × Claim table verdict
  finds_in_registers key old new (Cycler first second) (inl found) named counts =
      let at : second ≡ steps_of known.runner = named ∙ known.steps_is in
      let fits = fits_so_far known symbols states second (omega (arith, at)) in (
        (
          found,
          subst (λ n. CountsTo table n old new) (sym at) counts,
          (λ n stopped. elim (cases_lt second n) [
            | inl less ↦ stopped.no_cycle first second less found.cycle
            | inr few ↦ stopped.wide (fits_before few fits)
          ]),
          fits,
        ),
        (found.cycle.partner.below, found.cycle.same),
      )
  finds_in_registers key old new (Cycler first second) (inr found) named counts = absurd found
  finds_in_registers key old new (Translated side first second extent) (inl found) named counts = absurd found
  finds_in_registers key old new (Translated side first second extent) (inr found) named counts =
      let at : second ≡ steps_of known.runner = named ∙ known.steps_is in
      let fits = fits_so_far known symbols states second (omega (arith, at)) in (
        (
          found,
          subst (λ n. CountsTo table n old new) (sym at) counts,
          λ n stopped. elim (cases_lt second n) [
            | inl less ↦ stopped.no_record side first second less found.0.translation
            | inr few ↦ stopped.wide (fits_before few fits)
          ],
        ),
        (
          pair_agrees table side first second found.0.translation.pair,
          claimed_is_said table side first second extent found.1,
        ),
      )
  finds_in_registers key old new verdict (inl found) named counts = absurd found
  finds_in_registers key old new verdict (inr found) named counts = absurd found

  -- a run that ended in registers fits them to its end
  fits_at_end : {outcome : Outcome} (end : EndsWith known outcome) → FitsRegisters table (steps_of end.runner)
  fits_at_end end = record {
    symbols = symbols;
    states = states;
    word = λ m few. elim end.no_further [
      | inl stayed ↦ stays_in_word known m (omega (arith, few, stayed))
      | inr halts ↦ elim (cases_lt (steps_of known.runner) m) [
        | inr before ↦ stays_in_word known m before
        | inl past ↦
            let at : m ≡ steps_of end.runner = omega (arith, past, few, halts.1) in
            let zero : counted_head table (steps_of end.runner) ≡ pos 0 =
            counted_head-at table (steps_of end.runner) _ end.stands.at ∙ rw halts.0 refl in
            let none : counted_head table m ≡ pos 0 = ap (counted_head table) at ∙ zero in
            (omega (arith, ints, none), omega (arith, ints, none))
      ]
    ];
  }

  -- so it wasn't stopped
  pub not_stopped_in_registers : {key : ℤ → ℕ} {outcome : Outcome} (end : EndsWith known outcome) (n : ℕ)
      → IsStoppedAt key table bounds n → ⊥
  not_stopped_in_registers end n stopped =
      stopped.wide (fits_before (end.last.greatest n stopped.inside) (fits_at_end end))
