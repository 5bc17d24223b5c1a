-- The words of the command line, and the requests that they spell.
use Rattle.std.specs.Prelude.{◌≡◌, ◌≤◌, ◌<◌, ◌^◌, ℕ, true, false, List, [], ◌∷◌, codes, drop, length, All}
use Rattle.std.specs.declared.option.Option.{Option}
use Rattle.std.specs.declared.option.Option.TheVariants.{Some, None}
use Rattle.std.specs.Fmt.{decimal}
use Rattle.search_model.specs.Names.{IsName}
use Rattle.plan_command.specs.declared.request.Request.{Request}
use Rattle.plan_command.specs.declared.request.Request.TheVariants.{Plan, Check, Report, Make, Drill, Convert, Gap, CheckGap, Replan, Map, Duo}
use Rattle.plan_command.specs.declared.request.TheConstants.{MOST_WORKERS, MOST_CLOSED, MOST_FLOWN, MOST_SCENARIO, MOST_JUDGED}
use Rattle.plan_command.specs.Options.{IsRow}
use Rattle.bound_tree.specs.declared.tree.TheConstants.{MOST_NODES}

-- one worker, or more up to the most
abbrev pub IsCrew : ℕ → Type 0
IsCrew workers = (1 ≤ workers) × (workers ≤ MOST_WORKERS)

-- the names behind `flown`: the words from this one on, where the command is word 0
abbrev pub names_behind : ℕ → List (List ℕ) → List (List ℕ)
names_behind flown words = drop flown words

-- 1 to 32 names
abbrev pub AreFlown : List (List ℕ) → Type 0
AreFlown names = (1 ≤ length names) × (length names ≤ MOST_FLOWN) × All IsName names

-- the words spell the request
abbrev pub Spells : List (List ℕ) → Request → Type 0
Spells words (Plan workers nodes) = IsRow (codes "plan" ∷ []) MOST_NODES workers nodes [] words
Spells words Check = words ≡ codes "check" ∷ []
Spells words (Report false) = words ≡ codes "report" ∷ []
Spells words (Report true) = words ≡ codes "report" ∷ codes "--json" ∷ codes "yes" ∷ []
Spells words (Make number) = (number < 2 ^ 64) × (words ≡ codes "make" ∷ decimal number ∷ [])
Spells words (Drill number workers) = (number < 2 ^ 64) × IsRow (codes "drill" ∷ decimal number ∷ []) 0 workers 0 [] words
Spells words Convert = words ≡ codes "convert" ∷ []
Spells words (Gap workers nodes) = IsRow (codes "gap" ∷ []) MOST_CLOSED workers nodes [] words
Spells words CheckGap = words ≡ codes "checkgap" ∷ []
Spells words (Replan workers nodes flown) =
    AreFlown (names_behind flown words)
    × IsRow (codes "replan" ∷ []) MOST_NODES workers nodes (codes "flown" ∷ names_behind flown words) words
Spells words (Map flown) = AreFlown (names_behind flown words) × (words ≡ codes "map" ∷ codes "flown" ∷ names_behind flown words)
Spells words (Duo workers nodes second) =
    IsName second × IsRow (codes "duo" ∷ []) MOST_NODES workers nodes (codes "start" ∷ second ∷ []) words

-- the words spell no request
abbrev pub SpellNone : List (List ℕ) → Type 0
SpellNone words = (request : Request) → Spells words request → ⊥

-- What a request reads: the text of a scenario alone, a scenario and a plan or a gap plan behind it, or nothing.
pub data Family : Type 0 where
  of_scenario : Family
  of_plan : Family
  of_gap : Family
  of_nothing : Family

abbrev pub family_of : Request → Family
family_of (Plan workers nodes) = of_scenario
family_of Check = of_plan
family_of (Report json) = of_plan
family_of (Make number) = of_nothing
family_of (Drill number workers) = of_nothing
family_of Convert = of_plan
family_of (Gap workers nodes) = of_scenario
family_of CheckGap = of_gap
family_of (Replan workers nodes flown) = of_scenario
family_of (Map flown) = of_scenario
family_of (Duo workers nodes second) = of_scenario

-- how many bytes of input a request of a family may have, where it reads any
abbrev pub limit_at : Family → Option ℕ
limit_at of_scenario = Some MOST_SCENARIO
limit_at of_plan = Some MOST_JUDGED
limit_at of_gap = Some MOST_JUDGED
limit_at of_nothing = None

abbrev pub limit_of : Request → Option ℕ
limit_of request = limit_at (family_of request)
