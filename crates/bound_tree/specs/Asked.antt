-- Which prefixes are asked for the bound that remembers two looks.
use Rattle.std.specs.Prelude.{ℕ, ◌<◌, ◌≤◌, List, length}
use Rattle.search_model.specs.Problem.{Problem}

-- a look may follow the prefix, and there are four periods or more
pub record HasTwoLooks (p : Problem) (q : List ℕ) : Type 0 where
  pub periods : 4 ≤ p.horizon
  pub short : length q < p.horizon
