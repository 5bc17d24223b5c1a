-- What a function of the reader returns, seen by what reading gives.
use Rattle.std.specs.Prelude.{◌≡◌, ℕ, List, Result, Ok, Err}
use Rattle.search_model.specs.Problem.{Problem}
use Rattle.bound_tree.specs.declared.plan.Plan.{Plan}
use Rattle.bound_tree.specs.declared.gap.GapPlan.{GapPlan}
use Rattle.tree_format.specs.declared.collecting.Collected.{Collected}
use Rattle.tree_format.specs.declared.kind.PlanFault.{PlanFault}
use Rattle.tree_format.specs.declared.stop.PlanStop.{PlanStop}
use Rattle.tree_format.specs.declared.stop.PlanStop.TheVariants.{Fault, NoMemory}
use Rattle.tree_format.specs.declared.plan_line.Family.{Family}
use Rattle.tree_format.specs.Reading.{plan_at, gap_at}
use Rattle.tree_format.specs.Collecting.{Keeps}

-- what the text says was collected, or it has that fault, unless memory ran out
abbrev pub Gives : Family → Result Collected PlanStop → Result GapPlan PlanFault → Type 0
Gives family (Ok kept) read = (plan : GapPlan) × (read ≡ Ok plan) × Keeps family kept plan
Gives family (Err (Fault fault)) read = read ≡ Err fault
Gives family (Err NoMemory) read = Unit {0}

-- what reading gives was answered, or its fault, unless memory ran out
abbrev pub Reads : {A : Type 0} → Result A PlanFault → Result A PlanStop → Type 0
Reads read (Ok plan) = read ≡ Ok plan
Reads read (Err (Fault fault)) = read ≡ Err fault
Reads read (Err NoMemory) = Unit {0}

-- the plan that the text spells, or its first fault
abbrev pub ReadsPlan : Problem → List ℕ → Result Plan PlanStop → Type 0
ReadsPlan p text result = Reads (plan_at p text) result

-- the gap plan that the text spells, or its first fault
abbrev pub ReadsGap : Problem → List ℕ → Result GapPlan PlanStop → Type 0
ReadsGap p text result = Reads (gap_at p text) result

-- this plan was read, unless memory ran out
abbrev pub Says : {A : Type 0} → Result A PlanStop → A → Type 0
Says (Ok read) plan = read ≡ plan
Says (Err (Fault fault)) plan = ⊥
Says (Err NoMemory) plan = Unit {0}

-- this fault was told, unless memory ran out
abbrev pub Tells : {A : Type 0} → Result A PlanStop → PlanFault → Type 0
Tells (Ok read) fault = ⊥
Tells (Err (Fault told)) fault = told ≡ fault
Tells (Err NoMemory) fault = Unit {0}

-- this holds of a fault that was told
abbrev pub IfFault : {A : Type 0} → Result A PlanStop → (PlanFault → Type 0) → Type 0
IfFault (Ok read) P = Unit {0}
IfFault (Err (Fault told)) P = P told
IfFault (Err NoMemory) P = Unit {0}
