-- The order of paths and standings, and the best path.
use Rattle.std.specs.Prelude.{ℕ, ◌≡◌, ◌≢◌, Bool, ◌||◌, ◌&&◌, ◌==◌, nat_lt, List, ◌++◌, IsTrue}
use Rattle.std.specs.Cmp.Lexicographic.{slice_cmp}
use Rattle.std.specs.Ordering.{nat_cmp, is_lt}
use Rattle.search_model.specs.declared.standing.Standing.{Standing}
use Rattle.search_model.specs.Problem.{Problem}
use Rattle.search_model.specs.Legal.{IsPath}
use Rattle.search_model.specs.Tracks.{value_of}

-- the smaller list has the smaller number at the first place of difference, or is a proper prefix
abbrev pub smaller : List ℕ → List ℕ → Bool
smaller q r = is_lt (slice_cmp nat_cmp q r)

-- a standing of greater value is better, and of equal values the one with the smaller path
abbrev pub better : Standing → Standing → Bool
better s t = nat_lt t.value s.value || (s.value == t.value && smaller s.path t.path)

-- a list begins with another
abbrev pub Starts : List ℕ → List ℕ → Type 0
Starts q r = (rest : List ℕ) × (r ≡ q ++ rest)

-- a path with its value
abbrev pub standing_of : Problem → List ℕ → Standing
standing_of p q = record { path = q; value = value_of p q }

-- the path that, with its value, is better than every other path
pub record IsBest (p : Problem) (q : List ℕ) : Type 0 where
  pub path : IsPath p q
  pub better : (r : List ℕ) → IsPath p r → r ≢ q → IsTrue (better (standing_of p q) (standing_of p r))
