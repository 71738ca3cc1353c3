-- How a trace ends, by the step at which its runner stands.
use Rattle.std.proofs.Common.{◌≡◌, ℕ, zero, suc, ◌+◌, ◌*◌, ◌<◌, ◌≤◌, List, [], ◌∷◌, ◌++◌}
use Rattle.std.proofs.Common.{take, drop, sym, ◌∙◌, subst, ap, arith, Option}
use Rattle.std.specs.Io.KnownBytes.{Appends}
use Rattle.std.proofs.lemmas.Grind.{flat_map-append}
use Rattle.std.proofs.lemmas.List.{append-nil, take-append-drop}
use Rattle.std.proofs.lemmas.List.FromFn.{map-range_with_len_more, take-map-range_with_len}
use Rattle.bb_machine.specs.Limits.{Bounds}
use Rattle.bb_machine.specs.Machine.{Table}
use Rattle.bb_sim.specs.Span.{Inside, IsLastInside}
use Rattle.bb_lines.specs.Ends.{AppendsPrefix}
use Rattle.bb_lines.specs.Output.{Sends}
use Rattle.bb_run.specs.declared.tracing.Form.{Form}
use Rattle.bb_run.specs.Sample.{IsSampleSize, sampled_lines}
use Rattle.bb_run.specs.Trace.{line_text, lines_text}
use Rattle.bb_run.specs.inside.RunningOn.{EndsWithin, IsWantedBefore, StopsBefore}
use Rattle.bb_run.proofs.SampledRuns.{printed_before, printed_later, size_is_unique}
use Rattle.bb_lines.proofs.Facts.{AppendsPrefix-further, AppendsPrefix-more, Sends-none, Sends-trans}

module _ (form : Form) (table : Table) (from every : ℕ) where
  lines_of : ℕ → List ℕ
  lines_of count = lines_text (sampled_lines form table from every count)

  -- the lines of one printed step more
  lines-next : (n step : ℕ) → step ≡ from + every * n
      → lines_of n ++ (line_text form table step ++ 10 ∷ []) ≡ lines_of (n + 1)
  unfolding lines_of
  lines-next n step is =
      let f : List ℕ → List ℕ = λ line. line ++ 10 ∷ [] in
      let printed : ℕ → List ℕ = λ k. line_text form table (from + every * k) in
      let all : List (List ℕ) = sampled_lines form table from every n in
      let more : sampled_lines form table from every (n + 1) ≡ all ++ printed n ∷ [] =
      map-range_with_len_more printed 0 n n (omega arith) in
      let one : f (printed n) ++ [] ≡ f (printed n) = append-nil _ in
      let same : line_text form table step ≡ printed n = ap (line_text form table) is in
      ap (λ line. lines_text all ++ (line ++ 10 ∷ [])) same
      ∙ sym (ap lines_text more ∙ flat_map-append f all (printed n ∷ []) ∙ ap (λ b. lines_text all ++ b) one)

  -- the lines of fewer printed steps are the first ones
  lines_split : (n m : ℕ) → n ≤ m
      → lines_of n ++ lines_text (drop n (sampled_lines form table from every m)) ≡ lines_of m
  unfolding lines_of
  lines_split n m h =
      let f : List ℕ → List ℕ = λ line. line ++ 10 ∷ [] in
      let all : List (List ℕ) = sampled_lines form table from every m in
      let first : take n all ≡ sampled_lines form table from every n =
      take-map-range_with_len (λ k. line_text form table (from + every * k)) 0 m n h in
      ap (λ l. lines_text l ++ lines_text (drop n all)) (sym first)
      ∙ sym (flat_map-append f (take n all) (drop n all)) ∙ ap lines_text (take-append-drop n all)

  -- a beginning of the lines of fewer printed steps is one of all
  begun-more : {old new : Option (List ℕ)} (n m : ℕ) → n ≤ m → AppendsPrefix old new (lines_of n)
      → AppendsPrefix old new (lines_of m)
  begun-more {old} {new} n m h begun =
      subst (λ bytes. AppendsPrefix old new bytes) (lines_split n m h) (AppendsPrefix-more _ begun)

  -- a runner stands at a step, the next one to be printed is known, and the lines of those before were sent
  pub record HasPrinted (here next : ℕ) (old new : Option (List ℕ)) (waiting : List ℕ) : Type 0 where
    pub count : ℕ
    pub next_is : next ≡ from + every * count
    pub past : (k : ℕ) → k < count → from + every * k ≤ here
    pub sent : Sends old new [] waiting (lines_text (sampled_lines form table from every count))

  -- before the first one nothing was sent
  pub printed_none : (held : Option (List ℕ)) {here : ℕ} (waiting : List ℕ) → here ≡ 0 → waiting ≡ []
      → HasPrinted here (here + from) held held waiting
  printed_none held {here} waiting start empty = record {
    count = 0;
    next_is = omega (arith, start);
    past = λ k wrong. absurd (omega (arith, wrong));
    sent = rw empty Sends-none;
  }

  module _ {here next : ℕ} {old new : Option (List ℕ)} {waiting : List ℕ}
      (printed : HasPrinted here next old new waiting) where
    -- between both steps no other one is printed
    printed_size : (n : ℕ) → here ≤ n → n < next → IsSampleSize from every n printed.count
    printed_size n after before = record {
      are = λ k. (
        λ few. let early = printed.past k few in omega (arith, early, after),
        λ early. let next_is = printed.next_is in
            printed_before from every k printed.count (omega (arith, early, before, next_is)),
      );
    }

    -- where the run ends between both, the lines are all
    pub printed_all : {bounds : Bounds} {left n last total : ℕ} → EndsWithin table bounds here left n
        → next ≡ here + left → IsLastInside table bounds last → IsSampleSize from every last total
        → Sends old new [] waiting (lines_text (sampled_lines form table from every total))
    printed_all {bounds} {left} {n} {last} {total} end is is_last size =
        let above = is_last.greatest n end.is_last.inside in
        let same : n ≡ last = omega (arith, end.is_last.greatest last is_last.inside, above) in
        let here_size : IsSampleSize from every n printed.count =
        printed_size n end.from_old (omega (arith, end.few, is)) in
        let last_size : IsSampleSize from every last printed.count =
        subst (λ m. IsSampleSize from every m printed.count) same here_size in
        subst (λ k. Sends old new [] waiting (lines_text (sampled_lines form table from every k)))
        (size_is_unique last_size size) printed.sent

    -- where a step between both was wanted and not made, the run was left before the last one
    pub printed_early : {bounds : Bounds} {left last : ℕ} {new_then : Option (List ℕ)}
        → IsWantedBefore table bounds here left
        → next ≡ here + left → IsLastInside table bounds last
        → Appends old new_then (lines_text (sampled_lines form table from every printed.count))
        → StopsBefore form table from every last old new_then
    printed_early {bounds} {left} {last} wanted is is_last appends =
        record {
          at = wanted.at;
          before = omega (arith, is_last.greatest (wanted.at + 1) wanted.next);
          count = printed.count;
          is_size = printed_size wanted.at wanted.from_old (omega (arith, wanted.few, is));
          appends = appends;
        }

    -- a beginning of the lines so far is one of all
    pub printed_begun : {bounds : Bounds} {last total : ℕ} {new_then : Option (List ℕ)}
        → Inside table bounds here → IsLastInside table bounds last → IsSampleSize from every last total
        → AppendsPrefix old new_then (lines_text (sampled_lines form table from every printed.count))
        → AppendsPrefix old new_then (lines_text (sampled_lines form table from every total))
    unfolding lines_of
    printed_begun {bounds} {last} {total} inside is_last size begun =
        let most = is_last.greatest here inside in
        begun-more printed.count total (few_printed most printed.count (λ k. printed.past k)) begun
      where
        few_printed : here ≤ last → (count : ℕ) → ((k : ℕ) → k < count → from + every * k ≤ here)
            → count ≤ total
        few_printed most zero past = omega arith
        few_printed most (suc k) past =
            omega (arith, (size.are k).1 (omega (arith, past k (omega arith), most)))

    -- at the next step its line is sent
    module _ {at : ℕ} (is : at ≡ next) where
      pub printed_next : {new_then : Option (List ℕ)} {waiting_then : List ℕ} → here ≤ at
          → Sends new new_then waiting waiting_then (line_text form table at ++ 10 ∷ [])
          → HasPrinted at (at + every) old new_then waiting_then
      unfolding lines_of
      printed_next {new_then} {waiting_then} after line =
          let next_is = printed.next_is in
          record {
            count = printed.count + 1;
            next_is = omega (arith, next_is, is);
            past = λ k few.
                omega (arith, printed_later from every k printed.count (omega (arith, few)), next_is, is);
            sent = subst (λ bytes. Sends old new_then [] waiting_then bytes)
                (lines-next printed.count at (is ∙ next_is)) (Sends-trans printed.sent line);
          }

      pub printed_begun_next : {bounds : Bounds} {last total : ℕ} {new_then : Option (List ℕ)}
          → Inside table bounds at → IsLastInside table bounds last → IsSampleSize from every last total
          → AppendsPrefix new new_then (waiting ++ (line_text form table at ++ 10 ∷ []))
          → AppendsPrefix old new_then (lines_text (sampled_lines form table from every total))
      unfolding lines_of
      printed_begun_next {bounds} {last} {total} {new_then} inside is_last size begun =
          let next_is = printed.next_is in
          let less = (size.are printed.count).1 (omega (arith, next_is, is, is_last.greatest at inside)) in
          let longer : AppendsPrefix old new_then (lines_of (printed.count + 1)) =
          subst (λ bytes. AppendsPrefix old new_then bytes) (lines-next printed.count at (is ∙ next_is))
          (AppendsPrefix-further printed.sent _ begun) in
          begun-more (printed.count + 1) total (omega (arith, less)) longer
