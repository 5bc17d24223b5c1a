-- Paths that extend a prefix: what is left of them is a continuation.
use Rattle.std.proofs.Common.{ℕ, ◌-◌, ◌<◌, ◌≤◌, ◌≡◌, List, ◌++◌, map, length, drop, sym, ap, ◌∙◌, subst, arith, Contains, All, length-append}
use Rattle.std.proofs.lemmas.List.{take-append-drop, take_all, length-drop}
use Rattle.search_model.specs.Problem.{Problem, IsProblem}
use Rattle.search_model.specs.Legal.{Follows, IsLegal, IsPath, last_of, continuations}
use Rattle.search_model.specs.Bounds.{sum_along, greatest}
use Rattle.search_model.proofs.LegalLemmas.{last_within}
use Rattle.search_model.proofs.PlainSteps.{positions_follow}
use Rattle.search_model.proofs.WalkLemmas.{follows-append, continuations_are}
use Rattle.search_model.proofs.LeastBest.{sum_along-below}
use Rattle.bound_tree.specs.Accepts.{Extends}

-- what is left of a path after the prefix
abbrev pub rest_of : List ℕ → List ℕ → List ℕ
rest_of q y = drop (length q) y

module _ (p : Problem) (q y : List ℕ) (x : Extends p q y) where
  -- the path is the prefix and the rest
  pub whole_is : y ≡ q ++ rest_of q y
  whole_is = sym (take-append-drop (length q) y) ∙ ap (λ (u : List ℕ). u ++ rest_of q y) x.front

  -- the prefix isn't longer than the horizon
  pub front_short : length q ≤ p.horizon
  front_short = omega (arith, ap length whole_is, length-append q (rest_of q y), x.path.whole)

  follows_both : Follows p.moves p.start q × Follows p.moves (last_of p.start q) (rest_of q y)
  follows_both = (follows-append p.moves p.start q (rest_of q y)).0 (subst (Follows p.moves p.start) whole_is x.path.follows)

  -- a prefix that is as long as the horizon is the path
  pub whole_front : length q ≡ p.horizon → y ≡ q
  whole_front full = sym (take_all (length q) y (omega (arith, full, x.path.whole))) ∙ x.front

  -- the prefix is legal
  pub front_legal : IsLegal p q
  front_legal = record { follows = follows_both.0; short = front_short }

  -- the rest is as long as what the prefix leaves
  pub rest_size : length (rest_of q y) ≡ p.horizon - length q
  rest_size = omega (arith, length-drop (length q) y, x.path.whole)

  -- the rest holds positions
  pub rest_within : IsProblem p → All (λ a. a < p.positions) (rest_of q y)
  rest_within sound =
      let start : p.start < length p.moves = omega (arith, sound.start, sound.grid_positions) in
      positions_follow p sound (last_of p.start q) (last_within p.moves sound.grid p.start start q follows_both.0) (rest_of q y) follows_both.1

  -- the rest is a continuation of the prefix
  pub rest_listed : Contains (continuations p q) (rest_of q y)
  rest_listed = (continuations_are p q (rest_of q y) front_legal).1 (subst (IsPath p) whole_is x.path)

  -- no sum along a rest is above the greatest over all continuations
  pub rest_below : (r : ℕ → ℕ → ℕ) (t : ℕ) → sum_along r t (rest_of q y) ≤ greatest (map (sum_along r t) (continuations p q))
  rest_below r t = sum_along-below p.moves r (p.horizon - length q) t (last_of p.start q) (rest_of q y) rest_listed
