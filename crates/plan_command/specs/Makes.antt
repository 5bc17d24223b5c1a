-- What the functions behind a request return.
use Rattle.std.specs.Prelude.{ℕ, ◌≡◌, ◌≤◌, ◌<◌, ◌^◌, List, Result, Ok, Err}
use Rattle.std.specs.Global.{Vec}
use Rattle.plan_command.specs.declared.answer.Answer.{Answer}
use Rattle.plan_command.specs.declared.request.Request.{Request}
use Rattle.plan_command.specs.declared.request.Request.TheVariants.{Plan, Check, Report, Make, Drill, Convert, Gap, CheckGap, Replan, Map, Duo}
use Rattle.plan_command.specs.declared.request.TheConstants.{MOST_CLOSED}
use Rattle.plan_command.specs.declared.status.Status.TheVariants.{Done}
use Rattle.plan_command.specs.declared.status.Stop.{Stop}
use Rattle.plan_command.specs.declared.status.Stop.TheVariants.{Refused, NoMemory}
use Rattle.plan_command.specs.Words.{IsCrew, AreFlown, names_behind}
use Rattle.plan_command.specs.Commands.{Answers, Refuses}
use Rattle.bound_tree.specs.declared.tree.TheConstants.{MOST_NODES}

-- so many workers may a search have, and so many records up to the most
abbrev pub IsSearch : ℕ → ℕ → ℕ → Type 0
IsSearch most workers nodes = IsCrew workers × ((1 ≤ nodes) × (nodes ≤ most))

-- a request whose numbers are within their limits, and whose words are names
abbrev pub IsAsked : List (List ℕ) → Request → Type 0
IsAsked words (Plan workers nodes) = IsSearch MOST_NODES workers nodes
IsAsked words Check = Unit {0}
IsAsked words (Report json) = Unit {0}
IsAsked words (Make number) = number < 2 ^ 64
IsAsked words (Drill number workers) = (number < 2 ^ 64) × IsCrew workers
IsAsked words Convert = Unit {0}
IsAsked words (Gap workers nodes) = IsSearch MOST_CLOSED workers nodes
IsAsked words CheckGap = Unit {0}
IsAsked words (Replan workers nodes flown) = IsSearch MOST_NODES workers nodes × AreFlown (names_behind flown words)
IsAsked words (Map flown) = AreFlown (names_behind flown words)
IsAsked words (Duo workers nodes second) = IsSearch MOST_NODES workers nodes

-- an answer, or a refusal, or memory ran out
abbrev pub MakesOf : List (List ℕ) → Request → List ℕ → Result Answer Stop → Type 0
MakesOf words request input (Ok answer) = Answers words request input answer.status answer.text.items
MakesOf words request input (Err (Refused refusal)) = Refuses words request input refusal
MakesOf words request input (Err NoMemory) = Unit {0}
MakesOf words request input (Err _) = ⊥

-- the answer is the text that was made, with the status Done
abbrev pub IsDone : Result (Vec ℕ) Stop → Result Answer Stop → Type 0
IsDone (Ok text) (Ok answer) = (answer.status ≡ Done) × (answer.text.items ≡ text.items)
IsDone (Err stop) (Err other) = other ≡ stop
IsDone _ _ = ⊥
