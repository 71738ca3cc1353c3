-- What a look at replies rests on: which replies have their form, and how many there are of each kind.
use Rattle.std.proofs.Common.{suc, ◌≡◌, ◌≢◌, ℕ, ◌+◌, ◌*◌, ◌≤◌, cond, List, []}
use Rattle.std.proofs.Common.{◌∷◌, ◌++◌, length, refl, sym, ◌∙◌, ap, subst, inl, inr, arith, zero-mul}
use Rattle.std.proofs.Common.{append_assoc, length-append}
use Rattle.std.specs.Prelude.{◌==◌}
use Rattle.std.specs.List.{AllByRecursion}
use Rattle.std.proofs.lemmas.List.{append-nil}
use Rattle.std.proofs.lemmas.List.Elements.{All-append}
use Rattle.std.proofs.lemmas.List.Sums.{count_by-le-length, sum_by-append}
use Rattle.bb_machine.specs.declared.entry.Entry.{Entry}
use Rattle.bb_machine.specs.declared.entry.Entry.TheVariants.{Undefined, Go}
use Rattle.bb_machine.specs.declared.plan.Plan.{Plan}
use Rattle.bb_machine.specs.Limits.{Bounds}
use Rattle.bb_machine.specs.Machine.{Table, IsGroup, IsMachine, group_text, symbols_of, text}
use Rattle.bb_machine.proofs.Facts.{tail_text}
use Rattle.bb_cert.specs.declared.verdict.reader.Line.{Line}
use Rattle.bb_cert.specs.declared.verdict.reader.Line.TheVariants.{Claim, Refusal}
use Rattle.bb_cert.specs.declared.verdict.Verdict.{Verdict}
use Rattle.bb_cert.specs.verdict.Line.{IsLineOf, verdict_text}
use Rattle.bb_cert.proofs.Facts.{line_unique}
use Rattle.bb_lines.specs.Lines.{AreReplies, HasNoNewline}
use Rattle.bb_run.specs.declared.reply_validation.KindCounts.{KindCounts}
use Rattle.bb_run.specs.declared.reply_validation.ReplyKind.{ReplyKind}
use Rattle.bb_run.specs.declared.reply_validation.ReplyKind.TheVariants as kind
use Rattle.bb_run.specs.Validation.{AreOfKinds, CountsReplies, HasForm, HasNoReply, IsFirstWithout, IsOfKind}
use Rattle.bb_run.specs.Validation.{count_of}
use Rattle.bb_run.specs.Validation.{counts_of, kind_of, number_of, sum_of}
use Rattle.bb_run.specs.Reply.{IsRefusal, IsReply}
use Rattle.bb_run.specs.inside.Validating.{IsRefusedAt}
use Rattle.bb_run.proofs.Lengths.{column_small}
use Rattle.bb_run.proofs.Newlines.{none_within, refusal_none, same_cut, verdict_none}

-- ---- texts

length-group : (g : List Entry) → length (group_text g) ≡ 3 * length g
length-group [] = refl
length-group (Undefined ∷ g) = omega (arith, length-group g)
length-group (Go write dir next ∷ g) = omega (arith, length-group g)

length-tail : (n m : ℕ) (gs : Table) → AllByRecursion (IsGroup n m) gs
    → length (tail_text gs) ≡ length gs * (3 * m + 1)
length-tail n m [] _ = sym (zero-mul (3 * m + 1))
length-tail n m (g ∷ gs) p =
    let both = length-append (group_text g) (tail_text gs) in
    omega (arith, both, length-group g, p.0.full, length-tail n m gs p.1)

-- how long a machine's text is, by its states and symbols
pub length-text : (table : Table) → IsMachine table
    → length (text table) + 1 ≡ length table * (3 * symbols_of table + 1)
length-text [] machine = omega (arith, machine.some_state)
length-text (g ∷ gs) machine = omega (arith, length-tail (length (g ∷ gs)) (length g) (g ∷ gs) machine.groups)

-- of two beginnings of one length there is one
pub same_beginning : (a b x y : List ℕ) → a ++ x ≡ b ++ y → length a ≡ length b → a ≡ b
same_beginning [] [] x y is long = refl
same_beginning [] (d ∷ b) x y is long = absurd (omega arith)
same_beginning (c ∷ a) [] x y is long = absurd (omega arith)
same_beginning (c ∷ a) (d ∷ b) x y is long =
    let tails : a ++ x ≡ b ++ y = cc in
    let same = same_beginning a b x y tails (omega arith) in
    cc

-- ---- forms

-- a refusal is a verdict line
line_of_refusal : (line reply : List ℕ) (refused : IsRefusal line reply)
    → IsLineOf (Refusal refused.column) reply
line_of_refusal line reply refused =
    let small = column_small line refused.column refused.is_column in
    (omega (arith, refused.is_column.1), small, sym refused.is_reply)

-- bytes that are no verdict line are no reply
pub no_form : (line reply : List ℕ) → ((said : Line) → IsLineOf said reply → ⊥) → (of_kind : ReplyKind)
    → IsOfKind of_kind line reply → ⊥
no_form line reply none of_kind (inl says) = none (Claim says.table says.verdict) says.is_reply
no_form line reply none of_kind (inr refused) =
    none (Refusal refused.0.column) (line_of_refusal line reply refused.0)

-- the line of another machine is no reply
pub other_text : (line reply : List ℕ) (table : Table) (verdict : Verdict)
    → IsLineOf (Claim table verdict) reply → (text table ≡ line → ⊥) → (of_kind : ReplyKind)
    → IsOfKind of_kind line reply → ⊥
other_text line reply table verdict is other of_kind (inl says) =
    let same = line_unique (Claim table verdict) (Claim says.table says.verdict) reply is says.is_reply in
    let tables : table ≡ says.table = cc in
    other (ap text tables ∙ says.of.is_text)
other_text line reply table verdict is other of_kind (inr refused) =
    let same = line_unique (Claim table verdict) (Refusal refused.0.column) reply is
    (line_of_refusal line reply refused.0) in cc

-- nor is the refusal at another column
pub other_column : (line reply : List ℕ) (column : ℕ) → IsLineOf (Refusal column) reply
    → (IsRefusedAt line column → ⊥) → (of_kind : ReplyKind) → IsOfKind of_kind line reply → ⊥
other_column line reply column is other of_kind (inl says) =
    let same = line_unique (Refusal column) (Claim says.table says.verdict) reply is says.is_reply in cc
other_column line reply column is other of_kind (inr refused) =
    let same = line_unique (Refusal column) (Refusal refused.0.column) reply is
    (line_of_refusal line reply refused.0) in
    let columns : column ≡ refused.0.column = cc in
    other (record { no_machine = refused.0.no_machine; is_column = rw columns refused.0.is_column })

-- a reply to a line has no newline
form_none : (line reply : List ℕ) → HasNoNewline line → HasForm line reply → HasNoNewline reply
form_none line reply none (of_kind, inl says) =
    let words = verdict_none says.verdict says.is_reply.1 in
    let of : HasNoNewline (text says.table) = subst HasNoNewline (sym says.of.is_text) none in
    subst HasNoNewline says.is_reply.2
    (All-append (λ byte. byte ≢ 10) (text says.table) (verdict_text says.verdict) of words)
form_none line reply none (of_kind, inr refused) =
    let small = column_small line refused.0.column refused.0.is_column in
    subst HasNoNewline (sym refused.0.is_reply) (refusal_none refused.0.column (omega (arith, small)))

-- where the bytes up to a newline are no reply to a line, none begins there
pub fails_here : (line : List ℕ) (lines : List (List ℕ)) (reply rest : List ℕ) → HasNoNewline line
    → HasNoNewline reply → ((of_kind : ReplyKind) → IsOfKind of_kind line reply → ⊥)
    → HasNoReply (line ∷ lines) ((reply ++ 10 ∷ []) ++ rest)
fails_here line lines reply rest none none_too unlike other more form is =
    let same = same_cut reply other rest more none_too (form_none line other none form) is in
    unlike form.0 (subst (λ bytes. IsOfKind form.0 line bytes) (sym same.0) form.1)

-- nor where there is no newline
pub fails_at_end : (line : List ℕ) (lines : List (List ℕ)) (bytes : List ℕ) → HasNoNewline bytes
    → HasNoReply (line ∷ lines) bytes
fails_at_end line lines bytes none reply rest form is = none_within reply rest bytes none is

-- after a reply to a line there are those to the others
pub others_are : (line : List ℕ) (lines : List (List ℕ)) (reply rest bytes : List ℕ) → HasNoNewline line
    → HasNoNewline reply → (reply ++ 10 ∷ []) ++ rest ≡ bytes → AreReplies HasForm (line ∷ lines) bytes
    → AreReplies HasForm lines rest
others_are line lines reply rest bytes none none_too is are =
    let same = same_cut reply are.0 rest are.1 none_too (form_none line are.0 none are.2) (is ∙ are.4) in
    subst (AreReplies HasForm lines) (sym same.1) are.3

-- ---- kinds

are_replies : (lines : List (List ℕ)) (kinds : List ReplyKind) (bytes : List ℕ)
    → AreOfKinds lines kinds bytes → AreReplies HasForm lines bytes
are_replies [] [] bytes are = are
are_replies (line ∷ lines) (k ∷ kinds) bytes are =
    (are.0, are.1, (k, are.2), are_replies lines kinds are.1 are.3, are.4)
are_replies lines kinds bytes are = absurd are

pub as_many : (lines : List (List ℕ)) (kinds : List ReplyKind) (bytes : List ℕ)
    → AreOfKinds lines kinds bytes → length kinds ≡ length lines
as_many [] [] bytes are = refl
as_many (line ∷ lines) (k ∷ kinds) bytes are = ap suc (as_many lines kinds are.1 are.3)
as_many lines kinds bytes are = absurd are

-- one reply more
pub one_more : (lines : List (List ℕ)) (kinds : List ReplyKind) (bytes line reply : List ℕ) (k : ReplyKind)
    → AreOfKinds lines kinds bytes → IsOfKind k line reply
    → AreOfKinds (lines ++ line ∷ []) (kinds ++ k ∷ []) (bytes ++ (reply ++ 10 ∷ []))
one_more [] [] bytes line reply k are is =
    (reply, [], is, refl, ap (λ b. b ++ (reply ++ 10 ∷ [])) are ∙ sym (append-nil (reply ++ 10 ∷ [])))
one_more (first ∷ lines) (other ∷ kinds) bytes line reply k are is = (
  are.0,
  are.1 ++ (reply ++ 10 ∷ []),
  are.2,
  one_more lines kinds are.1 line reply k are.3 is,
  ap (λ b. b ++ (reply ++ 10 ∷ [])) are.4 ∙ append_assoc (are.0 ++ 10 ∷ []) are.1 (reply ++ 10 ∷ []),
)
one_more lines kinds bytes line reply k are is = absurd are

-- a reply is of one kind
pub has_one_kind : (line reply : List ℕ) (a b : ReplyKind) → IsOfKind a line reply → IsOfKind b line reply
    → a ≡ b
has_one_kind line reply a b (inl p) (inl q) =
    let same = line_unique (Claim p.table p.verdict) (Claim q.table q.verdict) reply p.is_reply q.is_reply in
    let verdicts : p.verdict ≡ q.verdict = cc in
    p.is_kind ∙ ap kind_of verdicts ∙ sym q.is_kind
has_one_kind line reply a b (inl p) (inr q) = absurd (q.0.no_machine (p.table, p.of))
has_one_kind line reply a b (inr p) (inl q) = absurd (p.0.no_machine (q.table, q.of))
has_one_kind line reply a b (inr p) (inr q) = p.1 ∙ sym q.1

-- what deciding replies has its form
pub reply_has_form : (bounds : Bounds) (plan : Plan) (line reply : List ℕ) → IsReply bounds plan line reply
    → HasForm line reply
reply_has_form bounds plan line reply (inl r) = (
  kind_of r.verdict,
  inl (record {
    table = r.table;
    of = r.of;
    verdict = r.verdict;
    is_reply = r.is_reply;
    is_kind = refl;
  }),
)
reply_has_form bounds plan line reply (inr r) = (kind.Refused, inr (r, refl))

-- ---- counts

pub count_small : (of_kind : ReplyKind) (kinds : List ReplyKind) → count_of of_kind kinds ≤ length kinds
count_small of_kind kinds = count_by-le-length (λ k. number_of k == number_of of_kind) kinds

-- 1 where two kinds are the same
one : ReplyKind → ReplyKind → ℕ
one k of_kind = 0 + cond (number_of k == number_of of_kind) 1 0

-- each kind is one of the seven
ones : (k : ReplyKind)
    → one k kind.Halt + one k kind.Cycler + one k kind.Translated + one k kind.Backward
    + one k kind.UndecidedSteps + one k kind.UndecidedCells + one k kind.Refused ≡ 1
unfolding one
ones kind.Halt = refl
ones k = refl

count_first : (of_kind k : ReplyKind) (kinds : List ReplyKind)
    → count_of of_kind (k ∷ kinds) ≡ one k of_kind + count_of of_kind kinds
unfolding one
count_first of_kind k kinds =
    sum_by-append (λ other. cond (number_of other == number_of of_kind) 1 0) (k ∷ []) kinds

-- all kinds together
sum_is_length : (kinds : List ReplyKind) → sum_of (counts_of kinds) ≡ length kinds
sum_is_length [] = refl
sum_is_length (k ∷ kinds) =
    let first = λ (of_kind : ReplyKind). count_first of_kind k kinds in
    omega (
      arith,
      ones k,
      sum_is_length kinds,
      first kind.Halt,
      first kind.Cycler,
      first kind.Translated,
      first kind.Backward,
      first kind.UndecidedSteps,
      first kind.UndecidedCells,
      first kind.Refused,
    )

-- ---- ends

-- the first lines are answered by the beginning of the replies; what is left is still to be looked at
pub record IsValidated (all left : List (List ℕ)) (bytes bytes_left : List ℕ) (count : ℕ) : Type 0 where
  pub first : List (List ℕ)
  pub kinds : List ReplyKind
  pub answered : List ℕ
  pub are_lines : first ++ left ≡ all
  pub are_bytes : answered ++ bytes_left ≡ bytes
  pub are_of_kinds : AreOfKinds first kinds answered
  pub is_count : count ≡ length first
  pub only : AreReplies HasForm all bytes → AreReplies HasForm left bytes_left

abbrev pub validated_at_none : (all : List (List ℕ)) (bytes : List ℕ) → IsValidated all all bytes bytes 0
validated_at_none all bytes = record {
  first = [];
  kinds = [];
  answered = [];
  are_lines = refl;
  are_bytes = refl;
  are_of_kinds = refl;
  is_count = refl;
  only = λ are. are;
}

module _ {all left : List (List ℕ)} {bytes bytes_left : List ℕ} {count : ℕ}
    (here : IsValidated all left bytes bytes_left count) where
  -- one line more
  abbrev pub looked_on : (line : List ℕ) (others : List (List ℕ)) (reply rest : List ℕ) (k : ReplyKind)
      → left ≡ line ∷ others → HasNoNewline line → HasNoNewline reply
      → (reply ++ 10 ∷ []) ++ rest ≡ bytes_left
      → IsOfKind k line reply → IsValidated all others bytes rest (count + 1)
  looked_on line others reply rest k cut none none_too cut_too is = record {
    first = here.first ++ line ∷ [];
    kinds = here.kinds ++ k ∷ [];
    answered = here.answered ++ (reply ++ 10 ∷ []);
    are_lines = append_assoc here.first (line ∷ []) others ∙ ap (λ more. here.first ++ more) (sym cut)
        ∙ here.are_lines;
    are_bytes = append_assoc here.answered (reply ++ 10 ∷ []) rest
        ∙ ap (λ more. here.answered ++ more) cut_too ∙ here.are_bytes;
    are_of_kinds = one_more here.first here.kinds here.answered line reply k here.are_of_kinds is;
    is_count = omega (arith, here.is_count, length-append here.first (line ∷ []));
    only = λ are. others_are line others reply rest bytes_left none none_too cut_too
        (subst (λ more. AreReplies HasForm more bytes_left) cut (here.only are));
  }

  -- where nothing is left, all lines are answered
  module _ (no_line : left ≡ []) (no_byte : bytes_left ≡ []) where
    firsts : here.first ≡ all
    firsts = sym (append-nil here.first) ∙ (rw no_line at here.are_lines)

    answers : here.answered ≡ bytes
    answers = sym (append-nil here.answered) ∙ (rw no_byte at here.are_bytes)

    pub all_counted : (counts : KindCounts) → counts ≡ counts_of here.kinds
        → CountsReplies all bytes counts count
    all_counted counts are_counts =
        let many = as_many here.first here.kinds here.answered here.are_of_kinds in
        let sum = sum_is_length here.kinds in
        record {
          kinds = here.kinds;
          are_replies = rw (← firsts, ← answers) here.are_of_kinds;
          are_counts = are_counts;
          is_sum = rw are_counts (here.is_count ∙ sym many ∙ sym sum);
          is_count = here.is_count ∙ ap length firsts;
        }

    pub all_replied : AreReplies HasForm all bytes
    all_replied =
        rw (← firsts, ← answers) (are_replies here.first here.kinds here.answered here.are_of_kinds)

  -- where there is no reply to the next line, it is the first without, and the bytes are no replies
  module _ (fails : HasNoReply left bytes_left) where
    pub stops_here : IsFirstWithout all bytes count
    stops_here = record {
      first = here.first;
      others = left;
      are_lines = here.are_lines;
      is_count = here.is_count;
      answered = here.answered;
      left = bytes_left;
      are_bytes = here.are_bytes;
      are_replies = are_replies here.first here.kinds here.answered here.are_of_kinds;
      fails = fails;
    }

    pub no_replies : AreReplies HasForm all bytes → ⊥
    no_replies are = none_left left bytes_left fails (here.only are) where
      none_left : (lines : List (List ℕ)) (rest : List ℕ) → HasNoReply lines rest
          → AreReplies HasForm lines rest
          → ⊥
      none_left [] rest none are = none are
      none_left (line ∷ lines) rest none are = none are.0 are.1 are.2 are.4
