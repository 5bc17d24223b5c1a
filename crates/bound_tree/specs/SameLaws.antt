-- Problems that are the same search have the same values, bounds, openings, live prefixes and plans.
use Rattle.std.specs.Prelude.{ℕ, ◌≡◌, ◌↔◌, ◌<◌, List, length}
use Rattle.search_model.specs.declared.standing.Standing.{Standing}
use Rattle.search_model.specs.Problem.{Problem, IsProblem}
use Rattle.search_model.specs.Same.{AreSame}
use Rattle.search_model.specs.Legal.{IsLegal, IsPath}
use Rattle.search_model.specs.Tracks.{value_of, whole_weight}
use Rattle.search_model.specs.Order.{IsBest}
use Rattle.search_model.specs.Bounds.{mean_of, IsRate, tangent_of}
use Rattle.search_model.specs.Edge.{edge_of}
use Rattle.search_model.specs.Exchange.{exchange_of}
use Rattle.search_model.specs.Memory.{remembering_of}
use Rattle.search_model.specs.Reference.{IsReference}
use Rattle.search_model.specs.Opening.{IsOpening}
use Rattle.bound_tree.specs.declared.node.Kind.{Kind}
use Rattle.bound_tree.specs.declared.plan.Plan.{Plan}
use Rattle.bound_tree.specs.Accepts.{Accepts}
use Rattle.bound_tree.specs.Close.{IsClosed, IsLive, HasMoreLive}

-- the same prefixes are legal, paths, the best and the opening, with the same values, bounds and references
pub record AreAlike (p o : Problem) : Type 0 where
  pub legal : (q : List ℕ) → IsLegal p q ↔ IsLegal o q
  pub paths : (q : List ℕ) → IsPath p q ↔ IsPath o q
  pub best : (q : List ℕ) → IsBest p q ↔ IsBest o q
  pub weight : whole_weight p ≡ whole_weight o
  pub values : (q : List ℕ) → IsLegal p q → value_of p q ≡ value_of o q
  pub means : (q : List ℕ) → IsLegal p q → mean_of p q ≡ mean_of o q
  pub edges : (q : List ℕ) → IsLegal p q → edge_of p q ≡ edge_of o q
  pub remembering : (m : ℕ) (q : List ℕ) → IsLegal p q → remembering_of p m q ≡ remembering_of o m q
  pub exchanges : (q r : List ℕ) → IsLegal p q → IsLegal p r → length q < p.horizon → length r ≡ length q → exchange_of p q r ≡ exchange_of o q r
  pub rates : (rate : ℕ) → IsRate p rate ↔ IsRate o rate
  pub references : (q whole : List ℕ) → IsLegal p q → IsReference p q whole ↔ IsReference o q whole
  pub tangents : (rate : ℕ) (q whole : List ℕ) → IsLegal p q → IsPath p whole → tangent_of p rate q whole ≡ tangent_of o rate q whole
  pub openings : (q : List ℕ) → IsOpening p q ↔ IsOpening o q

-- of two problems each is the same search as the other
abbrev pub SameEitherWay : Type 0
SameEitherWay = (p o : Problem) → AreSame p o → AreSame o p

-- the same search has the same values and bounds
abbrev pub SameIsAlike : Type 0
SameIsAlike = (p o : Problem) → IsProblem p → AreSame p o → AreAlike p o

-- and the same plans
abbrev pub SameAccepts : Type 0
SameAccepts = (p o : Problem) (plan : Plan) → IsProblem p → AreSame p o → Accepts p plan → Accepts o plan

-- under a standing the same search closes a prefix in the same way
abbrev pub SameCloses : Type 0
SameCloses = (p o : Problem) (s : Standing) (q : List ℕ) (kind : Kind) → IsProblem p → AreSame p o → IsLegal p q → IsClosed p s q kind → IsClosed o s q kind

-- so the same prefixes are live
abbrev pub SameLive : Type 0
SameLive = (p o : Problem) (s : Standing) (q : List ℕ) → IsProblem p → AreSame p o → IsLive p s q → IsLive o s q

-- and where there are more of them than a limit, there are more for the other, too
abbrev pub SameHasMoreLive : Type 0
SameHasMoreLive = (p o : Problem) (s : Standing) (limit : ℕ) → IsProblem p → AreSame p o → HasMoreLive p s limit → HasMoreLive o s limit
