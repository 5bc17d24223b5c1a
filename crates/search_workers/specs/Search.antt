-- What a search answers.
use Rattle.std.specs.Prelude.{ℕ, ◌≡◌, ◌<◌, List, ◌++◌, length, All, Result, Ok, Err}
use Rattle.search_model.specs.declared.standing.Standing.{Standing}
use Rattle.search_model.specs.Problem.{Problem}
use Rattle.search_model.specs.Tracks.{whole_weight}
use Rattle.bound_tree.specs.declared.plan.Plan.{Plan}
use Rattle.bound_tree.specs.Accepts.{prefixes_of}
use Rattle.bound_tree.specs.Close.{IsExact, IsAtLeast, IsLive, HasMoreLive}
use Rattle.search_core.specs.Balance.{AreDistinct}
use Rattle.tree_gather.specs.Hauls.{AreJoined}
use Rattle.search_workers.specs.declared.answer.Found.{Found}
use Rattle.search_workers.specs.declared.answer.Partial.{Partial}
use Rattle.search_workers.specs.declared.answer.SearchStop.{SearchStop}
use Rattle.search_workers.specs.declared.answer.SearchStop.TheVariants.{NoMemory, Full}

-- what was found, as a plan
abbrev pub plan_of : Problem → Found → Plan
plan_of p found = record { standing = found.best; weight = whole_weight p; tree = found.tree }

-- all prefixes that were closed or wait
abbrev pub reached_by : Partial → List (List ℕ)
reached_by part = part.waiting.items ++ prefixes_of part.closed.items

-- a fact of what a search has whose nodes ran out
abbrev pub IfFull : Result Found SearchStop → (Partial → Type 0) → Type 0
IfFull (Ok found) fact = Unit {0}
IfFull (Err NoMemory) fact = Unit {0}
IfFull (Err (Full part)) fact = fact part

-- what stands when a search from a first standing has closed as many prefixes as it may
pub record StopsAtLimit (p : Problem) (first : Standing) (limit : ℕ) (part : Partial) : Type 0 where
  pub more : HasMoreLive p first limit
  pub closed : length part.closed.items ≡ limit
  pub waits : 0 < length part.waiting.items
  pub once : AreDistinct (reached_by part)
  pub live : All (IsLive p first) (reached_by part)
  pub exact : IsExact p part.best
  pub up : IsAtLeast part.best first
  pub joined : AreJoined p first part.best part.waiting.items part.closed.items
