-- The best standing that a search knows.
use Rattle.std.specs.Prelude.{ℕ, List, [], ◌∷◌, ◌++◌, All, Contains}
use Rattle.std.specs.List.{flat_map}
use Rattle.search_model.specs.declared.standing.Standing.{Standing}
use Rattle.bound_tree.specs.declared.node.Kind.{Kind}
use Rattle.bound_tree.specs.declared.node.Kind.TheVariants.{Branch, Whole, Mean, Tangent, Edge, Exchange, TwoLooks}
use Rattle.bound_tree.specs.Close.{IsAtLeast}
use Rattle.search_core.specs.Balance.{Core}

-- the standing that a Whole record gives: its prefix with its number
abbrev pub whole_of : List ℕ → Kind → List Standing
whole_of q Branch = []
whole_of q (Whole n) = record { path = q; value = n } ∷ []
whole_of q (Mean b) = []
whole_of q (Tangent b whole) = []
whole_of q (Edge b) = []
whole_of q (Exchange b u) = []
whole_of q (TwoLooks b) = []

-- the standings, and those that the Whole records give
abbrev pub known_in : Core → List Standing
known_in c = c.standings ++ flat_map (λ r. whole_of r.prefix r.kind) c.records

-- the champion is known, and at least each known standing
pub record IsChampion (c : Core) (s : Standing) : Type 0 where
  pub known : Contains (known_in c) s
  pub best : All (λ t. IsAtLeast s t) (known_in c)
