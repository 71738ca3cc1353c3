use Rattle.std.proofs.Common.{◌≡◌, ◌++◌, length, ap, arith, sym, ◌∙◌}
use Rattle.std.proofs.lemmas.Bool.{eqb-true}
use Rattle.std.proofs.lemmas.Bool.Decides.{Decides-eqb}
use Rattle.std.proofs.lemmas.Slice.Eq.{starts_is}
use Rattle.bb_machine.specs.Machine.{text}
use Rattle.bb_run.proofs.Validations.{length-text, same_beginning}
use Rattle.bb_run.proofs.reply_validation.is_text.Goals as goal

pub returns-then-line-length : goal.returns-then-line-length
returns-then-line-length c =
    let table = c.args.machine.now in
    let long = length-text table c.states.ensures.machine in
    let states = c.states.ensures.value in
    let symbols = c.symbols.ensures.value in
    let counted = rw (states, symbols) at c.if-line-length.true in
    let same : length (text table) ≡ length c.args.line.now = omega (arith, long, counted) in
    let begins = starts_is Decides-eqb c.args.reply.now c.args.line.now c.starts_with.result
    c.starts_with.ensures.value in (
      λ is. same_beginning (text table) c.args.line.now _ _ (sym c.requires.1 ∙ begins.0 is) same,
      λ is. begins.1 c.requires.0 (c.requires.1 ∙ ap (λ bytes. bytes ++ c.requires.0) is),
    )

pub returns-else-line-length : goal.returns-else-line-length
returns-else-line-length c =
    let table = c.args.machine.now in
    let long = length-text table c.states.ensures.machine in
    let states = c.states.ensures.value in
    let symbols = c.symbols.ensures.value in (
      λ is. absurd (c.if-line-length.false (eqb-true _ _ is)),
      λ is. absurd (c.if-line-length.false (rw (states, symbols) (omega (arith, long, ap length is)))),
    )
