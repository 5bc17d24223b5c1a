-- The rule of one deque: its owner alone puts tasks, last, and the tasks that are gone from its front are those that the
-- owner and the thieves took.
use Rattle.std.specs.Prelude.{◌≡◌, ◌≢◌, ℕ, List, [], ◌∷◌, ◌++◌, IsPermutation}
use Rattle.std.specs.List.{flat_map, sum_by}
use mathlib.Core.Option.{some}
use lib.ListN.{get_elem?}
use Rattle.steal_pool.specs.declared.hand.Hand.{Hand}

-- for how many passes the views of a deque stand together: one for each of 16 workers, of whom those that a pool doesn't
-- have leave theirs with the owner
abbrev pub ALL : ℕ
ALL = 16

abbrev pub hand : {T : Type 0} → ℕ → List T → List T → Hand T
hand passes put taken = record { passes = passes; put = put; taken = taken }

-- what a pass knows after it took a task
abbrev pub with_task : {T : Type 0} → Hand T → T → Hand T
with_task v x = hand v.passes v.put (v.taken ++ x ∷ [])

-- for how many passes some views stand together
abbrev pub passes_of : {T : Type 0} → List (Hand T) → ℕ
passes_of vs = sum_by (λ v. v.passes) vs

-- what some views put
abbrev pub puts_of : {T : Type 0} → List (Hand T) → List T
puts_of vs = flat_map (λ v. v.put) vs

-- what some views took
abbrev pub takes_of : {T : Type 0} → List (Hand T) → List T
takes_of vs = flat_map (λ v. v.taken) vs

-- of the tasks that were put, the first ones are gone, which are those that were taken, and the others are left in their order
pub record IsLeft {T : Type 0} (put taken left : List T) : Type 0 where
  pub gone : List T
  pub order : put ≡ gone ++ left
  pub took : IsPermutation gone taken

-- the rule, of the tasks in the deque, first one first, and of what each pass knows; the owner's is the first
pub record IsBalanced {T : Type 0} (items : List T) (views : List (Hand T)) : Type 0 where
  -- the views stand for all passes
  pub all : passes_of views ≡ ALL
  pub left : IsLeft (puts_of views) (takes_of views) items
  -- only the owner puts
  pub owner : (port : ℕ) (v : Hand T) → get_elem? views port ≡ some v → port ≢ 0 → v.put ≡ []
  -- a view that stands for no pass has put and taken nothing
  pub spent : (port : ℕ) (v : Hand T) → get_elem? views port ≡ some v → v.passes ≡ 0 → (v.put ≡ []) × (v.taken ≡ [])

-- at one moment the deque held these tasks, while a pass knew v
abbrev pub HeldAtOneMoment : {T : Type 0} → List T → Hand T → Type 0
HeldAtOneMoment {T} items v = (port : ℕ) × (views : List (Hand T)) × IsBalanced items views × (get_elem? views port ≡ some v)

-- at one moment these tasks were the first of the deque, while a pass knew v
abbrev pub FirstAtOneMoment : {T : Type 0} → Hand T → List T → Type 0
FirstAtOneMoment {T} v xs = (later : List T) × HeldAtOneMoment (xs ++ later) v

-- at one moment the deque was empty, while a pass knew v
abbrev pub EmptyAtOneMoment : {T : Type 0} → Hand T → Type 0
EmptyAtOneMoment v = HeldAtOneMoment [] v
