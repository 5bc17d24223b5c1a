-- What workers bring back, and its balance.
use Rattle.std.specs.Prelude.{ℕ, List, [], ◌∷◌, ◌++◌, map, All, Contains}
use Rattle.std.specs.List.{flat_map}
use Rattle.search_model.specs.declared.standing.Standing.{Standing}
use Rattle.search_model.specs.Problem.{Problem}
use Rattle.bound_tree.specs.declared.node.TreeNode.{TreeNode}
use Rattle.bound_tree.specs.Accepts.{prefixes_of, IsGood}
use Rattle.bound_tree.specs.Close.{IsExact, IsAtLeast, LetsBranch}
use Rattle.search_core.specs.Counts.{SameItems}
use Rattle.search_core.specs.Balance.{expected_of, MeetsEquation}

-- what a worker began with, the records that it made, the prefixes that it leaves waiting, the tasks that it put and those
-- that it took, and the standing that it used last
pub record Haul : Type 0 where
  pub began : List (List ℕ)
  pub records : List TreeNode
  pub waiting : List (List ℕ)
  pub put : List (List ℕ)
  pub taken : List (List ℕ)
  pub last : Standing

-- what it began with, what it took and the legal children of its Branch records are, up to order, its records' prefixes,
-- what waits and what it put
pub record IsHaulBalanced (p : Problem) (h : Haul) : Type 0 where
  pub same : SameItems (h.began ++ h.taken ++ expected_of p h.records) (prefixes_of h.records ++ h.waiting ++ h.put)

-- a haul is sound for a search from a first standing: its last standing is exact and no worse than the first, its records
-- are good in themselves under the last one, and none branches where the first one closes its prefix by a bound
pub record IsHaulSound (p : Problem) (first : Standing) (h : Haul) : Type 0 where
  pub exact : IsExact p h.last
  pub up : IsAtLeast h.last first
  pub good : All (IsGood p h.last) h.records
  pub branches : LetsBranch p first h.records

-- the records of some hauls, and what they leave waiting
abbrev pub records_of : List Haul → List TreeNode
records_of hauls = flat_map (λ h. h.records) hauls

abbrev pub waiting_of : List Haul → List (List ℕ)
waiting_of hauls = flat_map (λ h. h.waiting) hauls

-- the standings that they used last
abbrev pub lasts_of : List Haul → List Standing
lasts_of hauls = map (λ h. h.last) hauls

-- these are all hauls of one search: each is balanced, the empty prefix and each of the tasks left are begun with once and
-- nothing else is, and what all put is, up to order, what all took and what is left
pub record AreAllHauls (p : Problem) (left : List (List ℕ)) (hauls : List Haul) : Type 0 where
  pub balanced : All (IsHaulBalanced p) hauls
  pub began : SameItems (flat_map (λ h. h.began) hauls) ([] ∷ left)
  pub put : SameItems (flat_map (λ h. h.put) hauls) (flat_map (λ h. h.taken) hauls ++ left)

-- what somebody brings back who has these tasks and does nothing with them
abbrev pub idle_haul : Standing → List (List ℕ) → Haul
idle_haul last tasks = record { began = tasks; records = []; waiting = tasks; put = []; taken = []; last = last }

-- hauls meet the balance equation together: nothing is pooled, and what waits is held
abbrev pub AreEven : Problem → List Haul → Type 0
AreEven p hauls = MeetsEquation p [] (waiting_of hauls) (records_of hauls)

-- the best of some standings
pub record IsBestOf (standings : List Standing) (s : Standing) : Type 0 where
  pub known : Contains standings s
  pub best : All (IsAtLeast s) standings

-- what the hauls of a search come to together: the balance equation holds with nothing pooled and what waits held, the best
-- standing is exact and no worse than the first, the records are good in themselves under it, and none branches where the
-- first one closes its prefix by a bound
pub record AreJoined (p : Problem) (first best : Standing) (waiting : List (List ℕ)) (closed : List TreeNode) : Type 0 where
  pub even : MeetsEquation p [] waiting closed
  pub exact : IsExact p best
  pub up : IsAtLeast best first
  pub good : All (IsGood p best) closed
  pub branches : LetsBranch p first closed
