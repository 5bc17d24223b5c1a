-- What is owed by a search that stops when its records run out.
use Rattle.std.specs.Prelude.{ℕ, ◌≡◌, ◌≤◌, List, length}
use Rattle.search_model.specs.Problem.{Problem}
use Rattle.search_model.specs.Legal.{IsPath}
use Rattle.search_model.specs.Tracks.{value_of}
use Rattle.search_model.specs.Order.{standing_of, IsBest}
use Rattle.search_model.specs.Opening.{IsOpening}
use Rattle.bound_tree.specs.declared.gap.GapPlan.{GapPlan}
use Rattle.bound_tree.specs.Gaps.{numbers_for, GapAccepts, NoneWaits}
use Rattle.bound_tree.specs.Close.{IsAtLeast, LetsBranch, HasMoreLive}
use Rattle.gap_plan.specs.Nodes.{closed_in}
use Rattle.tree_format.specs.PlanText.{IsGapText}
use Rattle.plan_command.specs.declared.status.Refusal.{Refusal}

-- no path finds more than that
abbrev pub IsAbove : Problem → ℕ → Type 0
IsAbove p ceiling = (y : List ℕ) → IsPath p y → value_of p y ≤ ceiling

-- the records ran out: there are more live prefixes under this opening than that, and exactly so many records are closed
pub record RanOut (p : Problem) (opening : List ℕ) (nodes closed : ℕ) : Type 0 where
  pub used : closed ≡ nodes
  pub more : HasMoreLive p (standing_of p opening) nodes

-- a gap plan that is accepted, so that no path finds more than its ceiling, with the numbers of the problem; its path isn't worse than the opening, and no
-- branch has a prefix that the opening closes by a bound. At most so many records are closed; where
-- no prefix waits, the path is the best, and else the records ran out
pub record IsGapped (nodes : ℕ) (p : Problem) (plan : GapPlan) : Type 0 where
  pub accepted : GapAccepts p plan
  pub numbers : plan.numbers ≡ numbers_for p
  pub ceiling : IsAbove p plan.ceiling
  pub opening : List ℕ
  pub is_opening : IsOpening p opening
  pub at_least : IsAtLeast plan.standing (standing_of p opening)
  pub branches : LetsBranch p (standing_of p opening) (closed_in plan.nodes)
  pub few : length (closed_in plan.nodes) ≤ nodes
  pub none_wait : NoneWaits plan.nodes → IsBest p plan.standing.path
  pub some_wait : ¬ NoneWaits plan.nodes → RanOut p opening nodes (length (closed_in plan.nodes))

-- the text of such a gap plan
abbrev pub IsGapOf : ℕ → Problem → List ℕ → Type 0
IsGapOf nodes p text = (plan : GapPlan) × IsGapped nodes p plan × IsGapText p plan text

-- nothing stands against it: there is one of every scenario
abbrev pub IsUngapped : Refusal → Type 0
IsUngapped refusal = ⊥
