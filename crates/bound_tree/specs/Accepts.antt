-- Which plans are accepted.
use Rattle.std.specs.Prelude.{ℕ, ◌≡◌, ◌<◌, List, [], ◌∷◌, ◌++◌, map, length, take, IsTrue, IsFalse}
use Rattle.search_model.specs.declared.standing.Standing.{Standing}
use Rattle.search_model.specs.Problem.{Problem}
use Rattle.search_model.specs.Legal.{IsPath, moves_after}
use Rattle.search_model.specs.Tracks.{value_of, whole_weight}
use Rattle.search_model.specs.Order.{standing_of, better}
use Rattle.search_model.specs.Bounds.{mean_of, IsRate, tangent_of}
use Rattle.search_model.specs.Edge.{edge_of}
use Rattle.search_model.specs.Exchange.{exchange_of}
use Rattle.search_model.specs.Memory.{remembering_of}
use Rattle.bound_tree.specs.declared.node.Kind.{Kind}
use Rattle.bound_tree.specs.declared.node.Kind.TheVariants.{Branch, Whole, Mean, Tangent, Edge, Exchange, TwoLooks}
use Rattle.bound_tree.specs.declared.node.TreeNode.{TreeNode}
use Rattle.bound_tree.specs.declared.plan.Plan.{Plan}
use Rattle.bound_tree.specs.Cut.{is_cut, times}
use Rattle.bound_tree.specs.Asked.{HasTwoLooks}
use Rattle.bound_tree.specs.Exchanges.{HasExchanges, TakesPlace, exchanged}

-- a path begins with the prefix
pub record Extends (p : Problem) (q whole : List ℕ) : Type 0 where
  pub path : IsPath p whole
  pub front : take (length q) whole ≡ q

-- a record that is right by itself, under the plan's standing; an exchange asks that of no standing but its own
abbrev pub IsGoodKind : Problem → Standing → List ℕ → Kind → Type 0
IsGoodKind p s q Branch = length q < p.horizon
IsGoodKind p s q (Whole n) = (length q ≡ p.horizon) × (n ≡ value_of p q) × IsFalse (better (record { path = q; value = n }) s)
IsGoodKind p s q (Mean b) = (length q < p.horizon) × (b ≡ mean_of p q) × IsTrue (is_cut b q s)
IsGoodKind p s q (Tangent b whole) =
    (length q < p.horizon) × ((rate : ℕ) × IsRate p rate × Extends p q whole × (b ≡ tangent_of p rate q whole)) × IsTrue (is_cut b q (times p.sweep.denominator s))
IsGoodKind p s q (Edge b) = (length q < p.horizon) × (b ≡ edge_of p q) × IsTrue (is_cut b q s)
IsGoodKind p s q (Exchange b u) =
    HasExchanges p q × TakesPlace p q u × (b ≡ exchange_of p q (exchanged u q)) × IsTrue (is_cut b q (standing_of p (exchanged u q)))
IsGoodKind p s q (TwoLooks b) = HasTwoLooks p q × (b ≡ remembering_of p 2 q) × IsTrue (is_cut b q s)

abbrev pub IsGood : Problem → Standing → TreeNode → Type 0
IsGood p s r = IsGoodKind p s r.prefix r.kind

-- the prefixes of records
abbrev pub prefixes_of : List TreeNode → List (List ℕ)
prefixes_of records = map (λ r. r.prefix) records

-- the children of a prefix by some moves, in their order
abbrev pub children_by : List ℕ → List ℕ → List (List ℕ)
children_by q moves = map (λ a. q ++ a ∷ []) moves

-- the legal children of a prefix, ascending
abbrev pub children_of : Problem → List ℕ → List (List ℕ)
children_of p q = children_by q (moves_after p q)

-- the prefixes that a record makes expected before all others: the children of a branch
abbrev pub expected_by : Problem → List ℕ → Kind → List (List ℕ)
expected_by p q Branch = children_of p q
expected_by p q (Whole n) = []
expected_by p q (Mean b) = []
expected_by p q (Tangent b whole) = []
expected_by p q (Edge b) = []
expected_by p q (Exchange b u) = []
expected_by p q (TwoLooks b) = []

-- the records are the trees of the expected prefixes, one after the other
abbrev pub AreEaten : Problem → Standing → List (List ℕ) → List TreeNode → Type 0
AreEaten p s [] [] = Unit {0}
AreEaten p s [] (r ∷ rs) = ⊥
AreEaten p s (q ∷ qs) [] = ⊥
AreEaten p s (q ∷ qs) (r ∷ rs) = (r.prefix ≡ q) × IsGood p s r × AreEaten p s (expected_by p r.prefix r.kind ++ qs) rs

-- the path is a path with its exact value and the whole weight, and the records are the tree of the empty prefix
pub record Accepts (p : Problem) (plan : Plan) : Type 0 where
  pub path : IsPath p plan.standing.path
  pub value : plan.standing.value ≡ value_of p plan.standing.path
  pub weight : plan.weight ≡ whole_weight p
  pub tree : AreEaten p plan.standing ([] ∷ []) plan.tree
