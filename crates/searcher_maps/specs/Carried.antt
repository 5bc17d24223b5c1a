-- The best among the paths that have a property, and when another problem's paths stand for just these.
use Rattle.std.specs.Prelude.{ℕ, ◌≡◌, ◌≢◌, List, map, length, IsTrue}
use Rattle.search_model.specs.Problem.{Problem}
use Rattle.search_model.specs.Legal.{IsLegal, IsPath}
use Rattle.search_model.specs.Order.{smaller, better, Starts, standing_of}

-- the path that has a property and, with its value, is better than every other path that has it
pub record IsBestAmong (p : Problem) (X : List ℕ → Type 0) (y : List ℕ) : Type 0 where
  pub path : IsPath p y
  pub has : X y
  pub better : (r : List ℕ) → IsPath p r → X r → r ≢ y → IsTrue (better (standing_of p y) (standing_of p r))

-- the best among the paths that begin with some legal prefix of length n
abbrev pub IsBestBehind : Problem → ℕ → List ℕ → Type 0
IsBestBehind p n y = (q : List ℕ) × IsLegal p q × (length q ≡ n) × IsBestAmong p (Starts q) y

-- a path of q stands for this path; h says for which position each position of q stands
abbrev pub IsToldBy : Problem → (ℕ → ℕ) → List ℕ → Type 0
IsToldBy q h y = (z : List ℕ) × IsPath q z × (map h z ≡ y)

-- paths of q have the order of the paths that they stand for
abbrev pub KeepsOrder : Problem → (ℕ → ℕ) → Type 0
KeepsOrder q h = (z r : List ℕ) → IsPath q z → IsPath q r → smaller (map h z) (map h r) ≡ smaller z r

-- the paths of q stand for just those paths of p that have a property, in the same order
pub record IsCarried (p q : Problem) (h : ℕ → ℕ) (X : List ℕ → Type 0) : Type 0 where
  pub start : h q.start ≡ p.start
  pub has : (z : List ℕ) → IsPath q z → X (map h z)
  pub back : (y : List ℕ) → IsPath p y → X y → IsToldBy q h y
  pub order : KeepsOrder q h
