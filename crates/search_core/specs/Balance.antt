-- The state of a search, and its balance.
use Rattle.std.specs.Prelude.{ℕ, ◌≤◌, List, [], ◌∷◌, ◌++◌, All, Contains}
use Rattle.std.specs.List.{flat_map}
use Rattle.search_model.specs.declared.standing.Standing.{Standing}
use Rattle.search_model.specs.Problem.{Problem}
use Rattle.search_model.specs.Legal.{IsLegal}
use Rattle.bound_tree.specs.declared.node.TreeNode.{TreeNode}
use Rattle.bound_tree.specs.Accepts.{prefixes_of}
use Rattle.bound_tree.specs.Accepts.{expected_by}
use Rattle.bound_tree.specs.Close.{IsClosed, IsExact}
use Rattle.search_core.specs.Counts.{count_of, SameItems}

-- the prefixes that wait for a worker, those that workers hold, the records made, and the standings that they rest on
pub record Core : Type 0 where
  pub pool : List (List ℕ)
  pub hands : List (List ℕ)
  pub records : List TreeNode
  pub standings : List Standing

-- the legal children of all Branch records
abbrev pub expected_of : Problem → List TreeNode → List (List ℕ)
expected_of p records = flat_map (λ r. expected_by p r.prefix r.kind) records

-- all prefixes that stand somewhere
abbrev pub standing_in : List (List ℕ) → List (List ℕ) → List TreeNode → List (List ℕ)
standing_in pool hands records = pool ++ hands ++ prefixes_of records

-- the balance equation: the empty prefix and the legal children of all Branch records are, up to order, the pool, the hands
-- and the records' prefixes together
abbrev pub MeetsEquation : Problem → List (List ℕ) → List (List ℕ) → List TreeNode → Type 0
MeetsEquation p pool hands records = SameItems ([] ∷ expected_of p records) (standing_in pool hands records)

-- no prefix stands twice
abbrev pub AreDistinct : List (List ℕ) → Type 0
AreDistinct qs = (q : List ℕ) → count_of q qs ≤ 1

-- a record closes its prefix under one of these standings
abbrev pub IsClosedUnder : Problem → List Standing → TreeNode → Type 0
IsClosedUnder p standings r = (s : Standing) × Contains standings s × IsClosed p s r.prefix r.kind

-- the balance of a search
pub record IsBalanced (p : Problem) (c : Core) : Type 0 where
  pub equation : MeetsEquation p c.pool c.hands c.records
  pub once : AreDistinct (standing_in c.pool c.hands c.records)
  pub legal : All (IsLegal p) (standing_in c.pool c.hands c.records)
  pub exact : All (IsExact p) c.standings
  pub closed : All (IsClosedUnder p c.standings) c.records
