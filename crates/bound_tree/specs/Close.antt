-- How a prefix is closed under a standing, and which prefixes stay open.
use Rattle.std.specs.Prelude.{ℕ, ◌≡◌, ◌<◌, ◌⊎◌, List, take, length, All, AllPairs, IsTrue, IsFalse}
use Rattle.search_model.specs.declared.standing.Standing.{Standing}
use Rattle.search_model.specs.Problem.{Problem}
use Rattle.search_model.specs.Legal.{IsLegal, IsPath}
use Rattle.search_model.specs.Tracks.{value_of}
use Rattle.search_model.specs.Order.{smaller, better}
use Rattle.search_model.specs.Bounds.{mean_of, IsRate, tangent_of}
use Rattle.search_model.specs.Edge.{edge_of}
use Rattle.search_model.specs.Exchange.{exchange_of}
use Rattle.search_model.specs.Memory.{remembering_of}
use Rattle.search_model.specs.Reference.{IsReference}
use Rattle.bound_tree.specs.declared.node.Kind.{Kind}
use Rattle.bound_tree.specs.declared.node.Kind.TheVariants.{Branch, Whole, Mean, Tangent, Edge, Exchange, TwoLooks}
use Rattle.bound_tree.specs.declared.node.TreeNode.{TreeNode}
use Rattle.bound_tree.specs.Cut.{is_cut, times}
use Rattle.bound_tree.specs.Asked.{HasTwoLooks}
use Rattle.bound_tree.specs.Exchanges.{HasExchanges, IsBestStandIn, HasNoStandIn, exchanged}

-- a prefix's tangent bound, at its reference; there is none without one rate
pub record IsTangent (p : Problem) (q : List ℕ) (b : ℕ) (whole : List ℕ) : Type 0 where
  pub rate : ℕ
  pub is_rate : IsRate p rate
  pub reference : IsReference p q whole
  pub bound : b ≡ tangent_of p rate q whole

-- the standing rules out neither a prefix's mean bound nor its tangent bound, if it has one
pub record IsLeftOpen (p : Problem) (s : Standing) (q : List ℕ) : Type 0 where
  pub mean : IsFalse (is_cut (mean_of p q) q s)
  pub tangent : (b : ℕ) (whole : List ℕ) → IsTangent p q b whole → IsFalse (is_cut b q (times p.sweep.denominator s))

-- nor its edge bound, and no other prefix stands in for it
pub record IsLeftOver (p : Problem) (s : Standing) (q : List ℕ) : Type 0 where
  pub left : IsLeftOpen p s q
  pub edge : IsFalse (is_cut (edge_of p q) q s)
  pub alone : HasNoStandIn p q

-- where it is asked for its bound that remembers two looks, the standing doesn't rule that out
abbrev pub IsPastTwoLooks : Problem → Standing → List ℕ → Type 0
IsPastTwoLooks p s q = HasTwoLooks p q → IsFalse (is_cut (remembering_of p 2 q) q s)

-- how a legal prefix is closed: a path by its value; a shorter prefix by its mean bound where the standing cuts that, else
-- by its tangent bound where it has one and the standing cuts it, else by its edge bound where the standing cuts that, else
-- by the best of the prefixes that stand in for it where it is asked for one, else, where there are four periods or more, by
-- its bound that remembers two looks where the standing cuts that, and else it branches
abbrev pub IsClosed : Problem → Standing → List ℕ → Kind → Type 0
IsClosed p s q Branch = (length q < p.horizon) × IsLeftOver p s q × IsPastTwoLooks p s q
IsClosed p s q (Whole n) = (length q ≡ p.horizon) × (n ≡ value_of p q)
IsClosed p s q (Mean b) = (length q < p.horizon) × (b ≡ mean_of p q) × IsTrue (is_cut b q s)
IsClosed p s q (Tangent b whole) =
    (length q < p.horizon) × IsFalse (is_cut (mean_of p q) q s) × IsTangent p q b whole × IsTrue (is_cut b q (times p.sweep.denominator s))
IsClosed p s q (Edge b) = (length q < p.horizon) × IsLeftOpen p s q × (b ≡ edge_of p q) × IsTrue (is_cut b q s)
IsClosed p s q (Exchange b u) =
    HasExchanges p q × IsLeftOpen p s q × IsFalse (is_cut (edge_of p q) q s) × IsBestStandIn p q u × (b ≡ exchange_of p q (exchanged u q))
IsClosed p s q (TwoLooks b) =
    HasTwoLooks p q × IsLeftOver p s q × (b ≡ remembering_of p 2 q) × IsTrue (is_cut b q s)

-- a legal prefix that no bound above it rules out: under the standing each shorter prefix of it branches
pub record IsLive (p : Problem) (s : Standing) (q : List ℕ) : Type 0 where
  pub legal : IsLegal p q
  pub branches : (k : ℕ) → k < length q → IsClosed p s (take k q) Branch

-- a path with its exact value
pub record IsExact (p : Problem) (s : Standing) : Type 0 where
  pub path : IsPath p s.path
  pub value : s.value ≡ value_of p s.path

-- the second standing, or a better one
abbrev pub IsAtLeast : Standing → Standing → Type 0
IsAtLeast t s = (t ≡ s) ⊎ IsTrue (better t s)

-- no branch has a prefix that the standing closes by a bound
abbrev pub LetsBranch : Problem → Standing → List TreeNode → Type 0
LetsBranch p s records = All (λ r. r.kind ≡ Branch → IsClosed p s r.prefix Branch) records

-- there are more live prefixes than that
abbrev pub HasMoreLive : Problem → Standing → ℕ → Type 0
HasMoreLive p s limit = (qs : List (List ℕ)) × AllPairs (λ q r. IsTrue (smaller q r)) qs × All (IsLive p s) qs × (limit < length qs)
