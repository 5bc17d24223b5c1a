-- What a plan run owes, and what a check run reads.
use Rattle.std.specs.Prelude.{ℕ, ◌≡◌, ◌≤◌, ◌++◌, List, drop, length, IsTrue, Result, Ok, Err}
use Rattle.std.specs.List.{list_all}
use Rattle.search_model.specs.Problem.{Problem}
use Rattle.search_model.specs.Order.{standing_of, IsBest}
use Rattle.search_model.specs.Opening.{IsOpening}
use Rattle.scenario_text.specs.Scenarios.{IsFront}
use Rattle.bound_tree.specs.declared.plan.Plan.{Plan}
use Rattle.bound_tree.specs.declared.gap.GapPlan.{GapPlan}
use Rattle.bound_tree.specs.Accepts.{Accepts}
use Rattle.tree_format.specs.PlanText.{IsTextOfPlan, IsWrittenPlan, IsGapText}
use Rattle.tree_format.specs.declared.kind.PlanFault.{PlanFault}
use Rattle.tree_format.specs.declared.plan_line.Family.{Family}
use Rattle.tree_format.specs.declared.plan_line.Family.TheVariants.{Plans, Gaps}
use Rattle.tree_format.specs.Reading.{plan_at, gap_at}
use Rattle.plan_command.specs.declared.status.Refusal.{Refusal}
use Rattle.plan_command.specs.declared.status.Refusal.TheVariants.{TooManyNodes}
use Rattle.plan_command.specs.declared.status.Stop.{Stop}
use Rattle.plan_command.specs.declared.status.Stop.TheVariants.{Refused, NoMemory}
use Rattle.plan_command.specs.Spaces.{is_space, SkipsSpaces}
use Rattle.bound_tree.specs.Close.{LetsBranch, HasMoreLive}

-- the best path, with records that are accepted for its exact value and the whole weight; no branch has a prefix that the
-- opening closes by a bound
pub record IsCertified (p : Problem) (plan : Plan) : Type 0 where
  pub best : IsBest p plan.standing.path
  pub accepted : Accepts p plan
  pub opening : List ℕ
  pub is_opening : IsOpening p opening
  pub branches : LetsBranch p (standing_of p opening) plan.tree

-- the text, of the version that the horizon asks for, of a certified plan of this problem, which has at most so many records
abbrev pub IsPlanOf : ℕ → Problem → List ℕ → Type 0
IsPlanOf nodes p text = (plan : Plan) × IsCertified p plan × (length plan.tree ≤ nodes) × IsWrittenPlan p plan text

-- more live prefixes under the opening than the limit
abbrev pub IsTooMany : Problem → ℕ → Type 0
IsTooMany p limit = (opening : List ℕ) × IsOpening p opening × HasMoreLive p (standing_of p opening) limit

-- no more than that
abbrev pub HasFewLive : Problem → ℕ → Type 0
HasFewLive p limit = (opening : List ℕ) × IsOpening p opening × (HasMoreLive p (standing_of p opening) limit → ⊥)

-- why there is no plan with at most so many records
abbrev pub IsUnplanned : ℕ → Problem → Refusal → Type 0
IsUnplanned nodes p (TooManyNodes limit) = (limit ≡ nodes) × IsTooMany p nodes
IsUnplanned nodes p _ = ⊥

-- a certified plan with at most so many records, or why there is none, unless memory ran out
abbrev pub PlansFor : ℕ → Problem → Result Plan Stop → Type 0
PlansFor nodes p (Ok plan) = IsCertified p plan × (length plan.tree ≤ nodes)
PlansFor nodes p (Err (Refused refusal)) = IsUnplanned nodes p refusal
PlansFor nodes p (Err NoMemory) = Unit {0}
PlansFor nodes p (Err _) = ⊥

-- the input begins with the text of this scenario, up to its line `end`, and then comes the rest
pub record BeginsWith (p : Problem) (input rest : List ℕ) : Type 0 where
  pub bytes : ℕ
  pub front : IsFront input p bytes
  pub follows : rest ≡ drop bytes input

-- the input begins with the text of this scenario, and behind it stands this
abbrev pub HasBehind : {A : Type 0} → (Problem → List ℕ → A → Type 0) → List ℕ → Problem → A → Type 0
HasBehind Stands input p a = (rest : List ℕ) × BeginsWith p input rest × Stands p rest a

-- the rest is blanks and line feeds, and then such a text
pub record IsRest (IsText : List ℕ → Type 0) (rest : List ℕ) : Type 0 where
  pub blanks : List ℕ
  pub only : IsTrue (list_all is_space blanks)
  pub text : List ℕ
  pub spelled : IsText text
  pub whole : rest ≡ blanks ++ text

-- the rest is blanks and line feeds, and then the text of this plan, of any version
abbrev pub IsPlanRest : Problem → List ℕ → Plan → Type 0
IsPlanRest p rest plan = IsRest (IsTextOfPlan p plan) rest

-- or the text of this gap plan
abbrev pub IsGapRest : Problem → List ℕ → GapPlan → Type 0
IsGapRest p rest plan = IsRest (IsGapText p plan) rest

-- as a text of the family, this one has this first fault
abbrev pub IsReadFault : Family → Problem → List ℕ → PlanFault → Type 0
IsReadFault Plans p text fault = plan_at p text ≡ Err fault
IsReadFault Gaps p text fault = gap_at p text ≡ Err fault

-- what follows the blanks and line feeds of the rest has this first fault, as a text of the family
pub record HasFaultIn (family : Family) (p : Problem) (rest : List ℕ) (fault : PlanFault) : Type 0 where
  pub text : List ℕ
  pub skips : SkipsSpaces rest text
  pub read : IsReadFault family p text fault
