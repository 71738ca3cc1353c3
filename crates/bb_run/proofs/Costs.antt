-- The cost of a list, line by line, and why no check costs more.
use Rattle.std.proofs.Common.{◌≡◌, ℕ, ◌+◌, ◌-◌, ◌≤◌, ◌^◌, ◌⊎◌, min, sum_by, List, [], ◌∷◌, ◌++◌, length}
use Rattle.std.proofs.Common.{refl, sym, ap, subst, ◌∙◌, inl, inr, arith, length-append, append_assoc}
use Rattle.std.specs.List.{AllByRecursion}
use Rattle.std.proofs.lemmas.List.{append-nil}
use Rattle.std.proofs.lemmas.List.Sums.{sum_by-append}
use Rattle.bb_machine.specs.Limits.{Bounds}
use Rattle.bb_machine.specs.Machine.{Table}
use Rattle.bb_sim.specs.declared.meter.Meter.{Meter}
use Rattle.bb_cert.specs.declared.verdict.reader.Line.TheVariants.{Claim}
use Rattle.bb_cert.specs.declared.verdict.Verdict.{Verdict}
use Rattle.bb_cert.specs.verdict.Line.{IsLineOf}
use Rattle.bb_run.specs.declared.cost.CheckCost.{CheckCost}
use Rattle.bb_run.specs.declared.cost.LineCost.{LineCost}
use Rattle.bb_run.specs.Cost.{AreLineCosts, CostNothing, IsCheckCost, IsClaimCost, IsLineCost, IsMostAt, both}
use Rattle.bb_run.specs.Laws.{ChecksCostNoMore, ConfirmedClaimsCostThat}
use Rattle.bb_run.specs.inside.Costing.{AddsLine, IsNewMost, IsOldMost}
use Rattle.bb_run.proofs.CheckReplies.{one_verdict}

all_append : (P : LineCost → Type 0) (first second : List LineCost) → AllByRecursion P first
    → AllByRecursion P second → AllByRecursion P (first ++ second)
all_append P [] second _ q = q
all_append P (cost ∷ costs) second p q = (p.0, all_append P costs second p.1 q)

all_map : (P Q : LineCost → Type 0) → ((c : LineCost) → P c → Q c) → (cs : List LineCost)
    → AllByRecursion P cs → AllByRecursion Q cs
all_map P Q by [] _ = tt
all_map P Q by (c ∷ cs) p = (by c p.0, all_map P Q by cs p.1)

-- ---- the lines so far

as_many_costs : (bounds : Bounds) (lines : List (List ℕ)) (costs : List LineCost)
    → AreLineCosts bounds lines costs → length costs ≡ length lines
as_many_costs bounds [] [] _ = refl
as_many_costs bounds [] (cost ∷ costs) are = absurd are
as_many_costs bounds (line ∷ lines) [] are = absurd are
as_many_costs bounds (line ∷ lines) (cost ∷ costs) are =
    let rest = as_many_costs bounds lines costs are.1 in omega (arith, rest)

costs_append : (bounds : Bounds) (lines : List (List ℕ)) (line : List ℕ) (costs : List LineCost)
    (cost : LineCost) → AreLineCosts bounds lines costs → IsLineCost bounds line cost
    → AreLineCosts bounds (lines ++ line ∷ []) (costs ++ cost ∷ [])
costs_append bounds [] line [] cost _ is = (is, tt)
costs_append bounds [] line (other ∷ costs) cost are is = absurd are
costs_append bounds (other ∷ lines) line [] cost are is = absurd are
costs_append bounds (other ∷ lines) line (c ∷ costs) cost are is =
    (are.0, costs_append bounds lines line costs cost are.1 is)

-- a sum that stops at a bound, with one more
sum_more : (f : LineCost → ℕ) (costs : List LineCost) (cost : LineCost) (old new most : ℕ)
    → old ≡ min (sum_by f costs) most → new ≡ min (old + f cost) most
    → new ≡ min (sum_by f (costs ++ cost ∷ [])) most
sum_more f costs cost old new most was is =
    let whole = sum_by-append f costs (cost ∷ []) in
    let one : sum_by f (cost ∷ []) ≡ f cost = omega arith in
    omega (arith, was, is, whole, one)

module _ (costs : List LineCost) (old : CheckCost) (line : LineCost) (new : CheckCost) where
  within : CostNothing costs old.most old.line ⊎ IsMostAt costs old.most old.line
      → AllByRecursion (λ cost. both cost ≤ old.most) costs
  within (inl none) = all_map _ _ (λ c is. omega (arith, is)) costs none.nothing
  within (inr most) = subst (AllByRecursion (λ cost. both cost ≤ old.most)) (sym most.is)
      (all_append _ most.before (most.cost ∷ most.after)
      (all_map _ _ (λ c less. omega (arith, less)) most.before most.less)
      (omega (arith, most.is_most), most.no_more))

  new_most : IsNewMost old (length costs) line new
      → CostNothing costs old.most old.line ⊎ IsMostAt costs old.most old.line
      → IsMostAt (costs ++ line ∷ []) new.most new.line
  new_most is before = record {
    before = costs;
    cost = line;
    after = [];
    is = refl;
    at = is.at;
    some = omega (arith, is.more, is.most);
    is_most = is.most;
    less = all_map _ _ (λ c few. omega (arith, few, is.more, is.most)) costs (within before);
    no_more = tt;
  }

  same_most : IsOldMost old line new → CostNothing costs old.most old.line ⊎ IsMostAt costs old.most old.line
      → CostNothing (costs ++ line ∷ []) new.most new.line ⊎ IsMostAt (costs ++ line ∷ []) new.most new.line
  same_most is (inl none) = inl (record {
    nothing = all_append _ costs (line ∷ []) none.nothing (omega (arith, is.no_more, none.none), tt);
    none = is.most ∙ none.none;
    at_first = is.at ∙ none.at_first;
  })
  same_most is (inr most) = inr (record {
    before = most.before;
    cost = most.cost;
    after = most.after ++ line ∷ [];
    is = ap (λ cs. cs ++ line ∷ []) most.is ∙ append_assoc most.before (most.cost ∷ most.after) (line ∷ []);
    at = is.at ∙ most.at;
    some = omega (arith, most.some, is.most);
    is_most = is.most ∙ most.is_most;
    less = all_map _ _ (λ c few. omega (arith, few, is.most)) most.before most.less;
    no_more = all_append _ most.after (line ∷ [])
        (all_map _ _ (λ c few. omega (arith, few, is.most)) most.after most.no_more)
        (omega (arith, is.no_more, is.most), tt);
  })

-- some lines of a list were added up
pub record IsAddedUp (bounds : Bounds) (all left : List (List ℕ)) (index : ℕ) (cost : CheckCost) : Type 0
  where
    pub past : List (List ℕ)
    pub is : all ≡ past ++ left
    pub at : index ≡ length past
    pub is_cost : IsCheckCost bounds past cost

pub none_added : (bounds : Bounds) (all : List (List ℕ)) (cost : CheckCost) → cost.steps ≡ 0
    → cost.nodes ≡ 0 → cost.most ≡ 0 → cost.line ≡ 0 → IsAddedUp bounds all all 0 cost
none_added bounds all cost steps nodes most line = record {
  past = [];
  is = refl;
  at = refl;
  is_cost = record {
    costs = [];
    of_lines = tt;
    steps = omega (arith, steps);
    nodes = omega (arith, nodes);
    most = inl (record { nothing = tt; none = most; at_first = line });
  };
}

pub one_added : (bounds : Bounds) (all left : List (List ℕ)) (line : List ℕ) (index : ℕ) (one : LineCost)
    (old new : CheckCost) → IsLineCost bounds line one → AddsLine old index one new
    → IsAddedUp bounds all (line ∷ left) index old → IsAddedUp bounds all left (index + 1) new
one_added bounds all left line index one old new of adds before =
    let so_far = before.is_cost in
    let many = as_many_costs bounds before.past so_far.costs so_far.of_lines in
    let at : index ≡ length so_far.costs = before.at ∙ sym many in
    let longer = length-append before.past (line ∷ []) in
    record {
      past = before.past ++ line ∷ [];
      is = before.is ∙ sym (append_assoc before.past (line ∷ []) left);
      at = omega (arith, before.at, longer);
      is_cost = record {
        costs = so_far.costs ++ one ∷ [];
        of_lines = costs_append bounds before.past line so_far.costs one so_far.of_lines of;
        steps = sum_more (λ (c : LineCost). c.steps) so_far.costs one old.steps new.steps (2 ^ 64 - 1)
            so_far.steps adds.steps;
        nodes = sum_more (λ (c : LineCost). c.nodes) so_far.costs one old.nodes new.nodes (2 ^ 64 - 1)
            so_far.nodes adds.nodes;
        most = elim adds.most [
          | inl more ↦ inr (new_most so_far.costs old one new
              (subst (λ i. IsNewMost old i one new) at more) so_far.most)
          | inr fewer ↦ same_most so_far.costs old one new fewer so_far.most
        ];
      };
    }

pub all_added : (bounds : Bounds) (all : List (List ℕ)) (index : ℕ) (cost : CheckCost)
    → IsAddedUp bounds all [] index cost → IsCheckCost bounds all cost
all_added bounds all index cost added =
    subst (λ lines. IsCheckCost bounds lines cost) (sym (added.is ∙ append-nil added.past)) added.is_cost

-- ---- checks

-- a line has one cost for its claim
claim_cost : (bounds : Bounds) (line : List ℕ) (table : Table) (verdict : Verdict) (cost : LineCost)
    → IsLineOf (Claim table verdict) line → IsLineCost bounds line cost → IsClaimCost bounds verdict cost
claim_cost bounds line table verdict cost of (inl has) =
    subst (λ v. IsClaimCost bounds v cost)
    (one_verdict line has.table table has.verdict verdict has.of of) has.is_cost
claim_cost bounds line table verdict cost of (inr none) = absurd (none.0 table verdict of)

pub checks_cost_no_more : ChecksCostNoMore
checks_cost_no_more bounds line table verdict meter cost of within settled is =
    elim (claim_cost bounds line table verdict cost of is) [
      | inl named ↦ (omega (arith, within.named_steps, named.1), omega (arith, within.named_nodes, named.2))
      | inr nothing ↦
          let none = settled nothing.0 in
          let steps = ap (λ (m : Meter). m.steps) none in
          let nodes = ap (λ (m : Meter). m.nodes) none in
          (omega (arith, steps), omega (arith, nodes))
    ]

pub confirmed_claims_cost_that : ConfirmedClaimsCostThat
confirmed_claims_cost_that bounds line table verdict meter cost of runs counts is =
    elim (claim_cost bounds line table verdict cost of is) [
      | inl named ↦ (counts.steps ∙ sym named.1, counts.nodes ∙ sym named.2)
      | inr nothing ↦ absurd (runs nothing.0)
    ]
