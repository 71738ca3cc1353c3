-- The lines of a trace, one after another, as they are sent.
use Rattle.std.proofs.Common.{◌≡◌, ℕ, ◌+◌, ◌≤◌, List, [], ◌∷◌, ◌++◌, append_assoc, take, drop, sym, ◌∙◌}
use Rattle.std.proofs.Common.{subst, ap, arith, Option, ℤ, pos, ◌+ℤ◌}
use Rattle.std.proofs.lemmas.List.{take-append-drop}
use Rattle.std.proofs.lemmas.List.FromFn.{map-range_with_len_more, take-map-range_with_len}
use Rattle.bb_machine.specs.Machine.{Table}
use Rattle.bb_tape.specs.Content.{Content, cell}
use Rattle.bb_tape.specs.TapeView.{TapeView}
use Rattle.bb_sim.specs.declared.runner.Runner.{Runner}
use Rattle.bb_sim.specs.CellsBetween.{cells_between}
use Rattle.bb_sim.specs.Span.{counted_head, least, span}
use Rattle.bb_sim.specs.Runner.{Stands, high_of, low_of, position_of, state_of, steps_of}
use Rattle.bb_lines.specs.Ends.{AppendsPrefix}
use Rattle.bb_lines.specs.Output.{Sends}
use Rattle.bb_lines.proofs.Facts.{AppendsPrefix-further, AppendsPrefix-more, AppendsPrefix-after, Sends-trans}
use Rattle.bb_run.specs.declared.tracing.Form.{Form}
use Rattle.bb_run.specs.Trace.{cells_text, front_text, line_text, text_at}

-- one cell more
pub cells-next : (tape : Content) (low : ℤ) (i : ℕ)
    → cells_text tape low (i + 1) ≡ cells_text tape low i ++ (48 + cell tape (low +ℤ pos i)) ∷ []
cells-next tape low i = map-range_with_len_more (λ j. 48 + cell tape (low +ℤ pos j)) 0 i i (omega arith)

-- a cell's digit is sent
pub Sends-cell : {old mid new : Option (List ℕ)} {waiting between after : List ℕ} (tape : Content) (low : ℤ)
    (i : ℕ) {digit : ℕ} → digit ≡ 48 + cell tape (low +ℤ pos i)
    → Sends old mid waiting between (cells_text tape low i) → Sends mid new between after (digit ∷ [])
    → Sends old new waiting after (cells_text tape low (i + 1))
Sends-cell {old} {new} {waiting} {after} tape low i {digit} is before sent =
    let joined = Sends-trans before sent in
    let e : cells_text tape low i ++ digit ∷ [] ≡ cells_text tape low (i + 1) =
    ap (λ n. cells_text tape low i ++ n ∷ []) is ∙ sym (cells-next tape low i) in
    subst (λ bytes. Sends old new waiting after bytes) e joined

-- a prefix up to one of the cells
pub AppendsPrefix-cells : {old new : Option (List ℕ)} (past : List ℕ) (tape : Content) (low : ℤ) (i n : ℕ)
    → i ≤ n → AppendsPrefix old new (past ++ cells_text tape low i)
    → AppendsPrefix old new (past ++ cells_text tape low n)
AppendsPrefix-cells {old} {new} past tape low i n h f =
    let cells : List ℕ = cells_text tape low n in
    let t : take i cells ≡ cells_text tape low i =
    take-map-range_with_len (λ j. 48 + cell tape (low +ℤ pos j)) 0 n i h in
    let w : cells_text tape low i ++ drop i cells ≡ cells =
    ap (λ b. b ++ drop i cells) (sym t) ∙ take-append-drop i cells in
    let e : (past ++ cells_text tape low i) ++ drop i cells ≡ past ++ cells =
    append_assoc past (cells_text tape low i) (drop i cells) ∙ ap (λ b. past ++ b) w in
    subst (λ bytes. AppendsPrefix old new bytes) e (AppendsPrefix-more (drop i cells) f)

-- a line, as its head and its cells
pub record IsJoined (line head cells : List ℕ) : Type 0 where
  pub is : line ≡ head ++ cells

same_cells : (tape : Content) (low high least greatest : ℤ) → low ≡ least → high ≡ greatest
    → cells_text tape least (cells_between least greatest) ≡ cells_text tape low (cells_between low high)
same_cells tape low high least greatest l h =
    ap (λ x. cells_text tape x (cells_between x greatest)) (sym l)
    ∙ ap (λ x. cells_text tape low (cells_between low x)) (sym h)

-- the line of the step at which a runner stands, by the runner and its tape
pub line_text-is : (form : Form) {table : Table} {runner : Runner} {view : TapeView} {head : List ℕ}
    → Stands table runner view
    → head ≡ front_text form (steps_of runner) (state_of runner) (position_of runner) (low_of runner)
    → IsJoined (line_text form table (steps_of runner)) head
    (cells_text view.content (low_of runner) (cells_between (low_of runner) (high_of runner)))
line_text-is form {table} {runner} {view} stands is_head = record {
  is = ap (text_at form table (steps_of runner)) stands.at
      ∙ ap (λ low. front_text form (steps_of runner) (state_of runner) (position_of runner) low
      ++ cells_text view.content (least (counted_head table) (steps_of runner))
      (span table (steps_of runner))) (sym stands.low)
      ∙ ap (λ c. front_text form (steps_of runner) (state_of runner) (position_of runner) (low_of runner) ++ c)
      (same_cells view.content _ _ _ _ stands.low stands.high)
      ∙ ap (λ h. h ++ cells_text view.content (low_of runner)
      (cells_between (low_of runner) (high_of runner))) (sym is_head);
}

module _ {old first : Option (List ℕ)} {waiting one head cells line : List ℕ}
    (parts : IsJoined line head cells) (sent_head : Sends old first waiting one head) where
  -- after the head a prefix of the cells
  pub AppendsPrefix-line : {second : Option (List ℕ)} → AppendsPrefix first second (one ++ cells)
      → AppendsPrefix old second (waiting ++ (line ++ 10 ∷ []))
  AppendsPrefix-line {second} begun =
      let more = AppendsPrefix-more (10 ∷ []) (AppendsPrefix-further sent_head cells begun) in
      let e : (waiting ++ (head ++ cells)) ++ 10 ∷ [] ≡ waiting ++ (line ++ 10 ∷ []) =
      append_assoc waiting (head ++ cells) (10 ∷ []) ∙ ap (λ b. waiting ++ (b ++ 10 ∷ [])) (sym parts.is) in
      subst (λ bytes. AppendsPrefix old second bytes) e more

  module _ {second : Option (List ℕ)} {two : List ℕ} (sent_cells : Sends first second one two cells) where
    both : Sends old second waiting two line
    both = subst (λ bytes. Sends old second waiting two bytes) (sym parts.is)
        (Sends-trans sent_head sent_cells)

    -- after both the newline
    pub Sends-line : {third : Option (List ℕ)} {three : List ℕ} → Sends second third two three (10 ∷ [])
        → Sends old third waiting three (line ++ 10 ∷ [])
    Sends-line sent = Sends-trans both sent

    -- or nothing of it
    pub AppendsPrefix-end : {third : Option (List ℕ)} → AppendsPrefix second third two
        → AppendsPrefix old third (waiting ++ (line ++ 10 ∷ []))
    AppendsPrefix-end {third} begun =
        let more = AppendsPrefix-more (10 ∷ []) (AppendsPrefix-after both begun) in
        subst (λ bytes. AppendsPrefix old third bytes) (append_assoc waiting line (10 ∷ [])) more
