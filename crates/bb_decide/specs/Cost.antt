-- What deciding a machine costs: this project's own.
use Rattle.std.specs.Prelude.{◌≡◌, ℕ, ◌+◌, ◌*◌, ◌≤◌, ◌⊎◌, IsTrue}
use Rattle.bb_machine.specs.Limits.{Bounds}
use Rattle.bb_machine.specs.Machine.{Table}
use Rattle.bb_sim.specs.declared.meter.Meter.{Meter}
use Rattle.bb_sim.specs.Outcome.{HaltsNowhere}
use Rattle.bb_sim.specs.Span.{span, IsLastInside}
use Rattle.bb_cert.specs.declared.verdict.Side.{Side}
use Rattle.bb_tree.specs.Tree.{Back}
use Rattle.bb_machine.specs.declared.plan.Plan.{Plan}
use Rattle.bb_decide.specs.Cycle.{HasNoCycle, IsFirstCycle}
use Rattle.bb_decide.specs.Translation.{HasNoTranslation, IsFirstTranslation}
use Rattle.bb_decide.specs.Verdict.{PassesCycles, PassesTranslations}

-- a search makes the steps up to its first find, or a whole run if there is nothing to find
abbrev pub SearchSteps : Table → Bounds → (ℕ → Type 0) → Type 0 → ℕ → Type 0
SearchSteps table bounds Finds FindsNone n = Finds n ⊎ (FindsNone × IsLastInside table bounds n)

-- the cost of a part if it is reached and in use; otherwise nothing
abbrev pub StepsIfMade : Type 0 → (ℕ → Type 0) → ℕ → Type 0
StepsIfMade Made Steps n = (Made × Steps n) ⊎ ((Made → ⊥) × (n ≡ 0))

-- the search for cycles is reached where the machine doesn't halt inside the bounds
abbrev pub MakesCycleSearch : Table → Bounds → Plan → Type 0
MakesCycleSearch table bounds plan = HaltsNowhere table bounds × IsTrue plan.cyclers

-- the steps of the search for cycles
abbrev pub CycleSteps : Table → Bounds → ℕ → Type 0
CycleSteps table bounds n =
    SearchSteps table bounds (λ t. (a : ℕ) × IsFirstCycle table bounds a t) (HasNoCycle table bounds) n

-- the search for agreeing records is reached if, besides, no cycle was found
abbrev pub MakesTranslationSearch : Table → Bounds → Plan → Type 0
MakesTranslationSearch table bounds plan =
    HaltsNowhere table bounds × PassesCycles table bounds plan × IsTrue plan.translated

-- its steps
abbrev pub TranslationSteps : Table → Bounds → ℕ → Type 0
TranslationSteps table bounds n = SearchSteps table bounds
    (λ b. (side : Side) × (a : ℕ) × IsFirstTranslation table bounds side a b)
    (HasNoTranslation table bounds) n

-- the steps that deciding a machine makes: those of the simulation, up to the last step inside, and those of
-- the two searches
pub record DecisionSteps (table : Table) (bounds : Bounds) (plan : Plan) (steps : ℕ) : Type 0 where
  pub run : ℕ
  pub is_run : IsLastInside table bounds run
  pub cycles : ℕ
  pub is_cycles : StepsIfMade (MakesCycleSearch table bounds plan) (CycleSteps table bounds) cycles
  pub translations : ℕ
  pub is_translations :
      StepsIfMade (MakesTranslationSearch table bounds plan) (TranslationSteps table bounds) translations
  pub sum : steps ≡ run + (cycles + translations)

-- backward reasoning is reached where, besides, no record agreed with its partner
abbrev pub MakesWalk : Table → Bounds → Plan → Type 0
MakesWalk table bounds plan = HaltsNowhere table bounds × PassesCycles table bounds plan
    × PassesTranslations table bounds plan × IsTrue plan.backward

-- the nodes and levels counted where a walk is made: those of the tree if it ends within the bounds, else no
-- more than the bounds; none where it isn't made
pub record CountsWalk (Made : Type 0) (table : Table) (bounds : Bounds) (meter : Meter) : Type 0 where
  pub of_tree : Made → (levels nodes : ℕ) → Back table bounds levels nodes
      → (meter.most_levels ≡ levels) × (meter.nodes ≡ nodes)
  pub within_levels : meter.most_levels ≤ bounds.depth
  pub within_nodes : meter.nodes ≤ bounds.nodes
  pub not_made : (Made → ⊥) → (meter.most_levels ≡ 0) × (meter.nodes ≡ 0)

-- deciding a machine has counted its steps, the span at the last step inside as its widest window, and the
-- nodes and levels of its walk
pub record CountsCost (table : Table) (bounds : Bounds) (plan : Plan) (meter : Meter) : Type 0 where
  pub steps : DecisionSteps table bounds plan meter.steps
  pub last : ℕ
  pub is_last : IsLastInside table bounds last
  pub most_cells : meter.most_cells ≡ span table last
  pub walk : CountsWalk (MakesWalk table bounds plan) table bounds meter

-- deciding a machine has counted no more than it may
pub record IsWithinCost (bounds : Bounds) (meter : Meter) : Type 0 where
  pub steps : meter.steps ≤ 3 * bounds.steps
  pub most_cells : meter.most_cells ≤ bounds.cells
  pub nodes : meter.nodes ≤ bounds.nodes
  pub most_levels : meter.most_levels ≤ bounds.depth
