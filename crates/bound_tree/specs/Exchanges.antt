-- When a prefix may take the place of another.
use Rattle.std.specs.Prelude.{ℕ, ◌≡◌, ◌≢◌, ◌<◌, ◌≤◌, ◌-◌, List, [], ◌∷◌, ◌++◌, length, take, slice_index, IsTrue}
use Rattle.search_model.specs.Problem.{Problem}
use Rattle.search_model.specs.Legal.{IsLegal, last_of}
use Rattle.search_model.specs.Exchange.{exchange_of}
use Rattle.search_model.specs.Order.{standing_of, better}
use Rattle.bound_tree.specs.Cut.{is_cut}

-- r stands in for q: it is a legal prefix as long as q that ends where q does, and with its value it cuts the exchange
-- bound of q
pub record StandsIn (p : Problem) (r q : List ℕ) : Type 0 where
  pub legal : IsLegal p r
  pub long : length r ≡ length q
  pub last : last_of p.start r ≡ last_of p.start q
  pub cut : IsTrue (is_cut (exchange_of p q r) q (standing_of p r))

-- a prefix with position u in place of its last but one
abbrev pub exchanged : ℕ → List ℕ → List ℕ
exchanged u q = take (length q - 2) q ++ u ∷ slice_index q (length q - 1) ∷ []

-- a prefix is asked for one that stands in for it: a look may follow it, it has a last position but one, and there are four
-- periods or more
pub record HasExchanges (p : Problem) (q : List ℕ) : Type 0 where
  pub periods : 4 ≤ p.horizon
  pub long : 2 ≤ length q
  pub short : length q < p.horizon

-- position u may take the place of a prefix's last but one: it is another, and what comes of it is legal
pub record TakesPlace (p : Problem) (q : List ℕ) (u : ℕ) : Type 0 where
  pub other : u ≢ slice_index q (length q - 2)
  pub legal : IsLegal p (exchanged u q)

-- with position u in place of its last but one a prefix stands in for itself, and is better than with any other that makes
-- it do so
pub record IsBestStandIn (p : Problem) (q : List ℕ) (u : ℕ) : Type 0 where
  pub stands : StandsIn p (exchanged u q) q
  pub best : (v : ℕ) → StandsIn p (exchanged v q) q → v ≢ u → IsTrue (better (standing_of p (exchanged u q)) (standing_of p (exchanged v q)))

-- no prefix stands in for one that is asked for it
abbrev pub HasNoStandIn : Problem → List ℕ → Type 0
HasNoStandIn p q = HasExchanges p q → (u : ℕ) → ¬ StandsIn p (exchanged u q) q
