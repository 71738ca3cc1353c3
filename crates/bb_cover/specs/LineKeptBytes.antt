-- Why the first bytes of a line, one more than the longest machine's text has, decide its reply: a law that
-- the engine asks for. It is a proof; it stands here, since a trait's law may cite nothing of `proofs/`.
use Rattle.std.proofs.Common.{◌≡◌, ℕ, ◌+◌, ◌≤◌, List, take, length, inl, inr, ap, subst, arith}
use Rattle.std.proofs.lemmas.Bool.{cases_lt}
use Rattle.std.proofs.lemmas.List.{take_all, length-take}
use Rattle.bb_machine.specs.declared.machine.TheConstants.{LINE, MAX_STATES, MAX_SYMBOLS}
use Rattle.bb_machine.specs.Limits.{Bounds}
use Rattle.bb_machine.specs.Machine.{IsTextOf, Table}
use Rattle.bb_machine.proofs.Facts.{text_short}
use Rattle.bb_cover.specs.LineReply.{IsLineReply}

short : (table : Table) (bytes : List ℕ) → IsTextOf table bytes → length bytes ≤ LINE
short table bytes is =
    let few = text_short MAX_STATES MAX_SYMBOLS table is.machine in
    let same = ap length is.is_text in
    omega (arith, few, same)

pub line_reply_of_kept : (bounds : Bounds) (line reply : List ℕ)
    → IsLineReply bounds (take (LINE + 1) line) reply → IsLineReply bounds line reply
line_reply_of_kept bounds line reply is = elim (cases_lt LINE (length line)) [
  | inl long ↦ elim is [
    | inl found ↦
        let few = short found.table (take (LINE + 1) line) found.is_text in
        let kept = length-take (LINE + 1) line in
        absurd (omega (arith, few, kept, long))
    | inr none ↦ inr (record {
      none = λ machine. let few = short machine.0 line machine.1 in omega (arith, few, long);
      is_reply = none.is_reply;
    })
  ]
  | inr fits ↦
      subst (λ bytes. IsLineReply bounds bytes reply) (take_all (LINE + 1) line (omega (arith, fits))) is
]

pub same_reply : (one other : Bounds) (line reply : List ℕ) → one ≡ other → IsLineReply one line reply
    → IsLineReply other line reply
same_reply one other line reply same is = subst (λ bounds. IsLineReply bounds line reply) same is
