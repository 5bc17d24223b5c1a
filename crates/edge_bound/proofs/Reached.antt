-- Lists of the positions that the searcher can be on.
use Rattle.std.proofs.Common.{ℕ, ◌<◌, ◌≡◌, ◌↔◌, List, length, subst, arith, All, Contains}
use Rattle.std.proofs.lemmas.List.Elements.{All-weaker, All-contains_itself}
use Rattle.search_model.specs.Problem.{Problem, IsProblem}
use Rattle.search_model.specs.Legal.{IsLegal, last_of}
use Rattle.search_model.proofs.LegalLemmas.{last_within}
use Rattle.longest_walk.specs.Near.{IsNear}
use Rattle.longest_walk.proofs.NearSteps.{near_within}

-- a list of what is within reach, by other names of the moves, of the position and of the number of moves
pub listed_near : (rows grid : List (List ℕ)) (some : List ℕ) (from at n m : ℕ) → grid ≡ rows → at ≡ from → m ≡ n →
    ((u : ℕ) → Contains some u ↔ IsNear grid m at u) → (u : ℕ) → Contains some u ↔ IsNear rows n from u
listed_near rows grid some from at n m grids places steps listed =
    subst (λ (i : ℕ). (u : ℕ) → Contains some u ↔ IsNear rows i from u) steps
    (subst (λ (a : ℕ). (u : ℕ) → Contains some u ↔ IsNear rows m a u) places
    (subst (λ (g : List (List ℕ)). (u : ℕ) → Contains some u ↔ IsNear g m at u) grids listed))

module _ (p : Problem) (sound : IsProblem p) (q : List ℕ) (legal : IsLegal p q) where
  -- the last position of a prefix is one
  pub last_inside : last_of p.start q < length p.moves
  last_inside = last_within p.moves sound.grid p.start (omega (arith, sound.start, sound.grid_positions)) q legal.follows

  -- and so is what is within reach of it
  pub all_inside : (some : List ℕ) (n : ℕ) → ((u : ℕ) → Contains some u ↔ IsNear p.moves n (last_of p.start q) u) → All (λ a. a < p.positions) some
  all_inside some n listed =
      All-weaker (Contains some) (λ a. a < p.positions)
      (λ a there. omega (arith, near_within p.moves sound.grid n (last_of p.start q) a last_inside ((listed a).0 there), sound.grid_positions)) some (All-contains_itself some)
