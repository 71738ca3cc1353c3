use Rattle.std.proofs.Common.{◌≡◌, ◌∙◌, sym, true, rules}
use Rattle.bb_machine.proofs.Entries.{letters_make, letters_of}
use Rattle.bb_machine.proofs.entry.Entry.is_at_first.Goals as goal
use Rattle.bb_machine.proofs.entry.Entry.is_at_first.Goals.{then-is_digit, else-is_digit}

pub returns-then-has_letter : goal.returns-then-has_letter
returns-then-has_letter c =
    elim c.if-is_digit.branch [
      | then-is_digit w ↦
          let digit = c.is_digit.ensures.0 (search rules) in
          let dir = w.has_letter.ensures.0 (search rules) in (
            λ is_so. let next = c.has_letter-then-has_letter.ensures.0 is_so in
                letters_make c.args.bytes.now c.args.states c.args.symbols digit.0 dir.0 next.0
                c.requires.room digit.1 next.1 digit.2 dir.1 next.2,
            λ e. let letters =
                letters_of c.args.bytes.now c.args.states c.args.symbols c.if-first-eq45.false e.0 e.1 e.2 in
                c.has_letter-then-has_letter.ensures.1 letters.next,
          )
      | else-is_digit w ↦
          (let no : true ≡ _ = sym c.if-has_letter.true ∙ (w.value-is ∙ w.if-is_digit.false) in
          absurd (search rules))
    ]
