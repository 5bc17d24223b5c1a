-- A path up to the horizon: its positions, and its value.
use Rattle.std.proofs.Common.{ℕ, ◌*◌, ◌<◌, ◌≤◌, List, ◌++◌, length, take, drop, get_or, sym, subst, arith, All}
use Rattle.std.proofs.Math.Nat.{mul-le-mul_left}
use Rattle.std.proofs.lemmas.List.{take-append-drop, length-take-le}
use Rattle.std.proofs.lemmas.List.Elements.{All-get_or}
use Rattle.search_model.specs.Problem.{Problem, IsProblem}
use Rattle.search_model.specs.Legal.{Follows, IsLegal, IsPath}
use Rattle.search_model.specs.Tracks.{value_of}
use Rattle.search_model.proofs.PlainSteps.{positions_follow}
use Rattle.search_model.proofs.WalkLemmas.{follows-append}
use Rattle.tangent_bound.proofs.Sizes.{most_of}

-- the positions of what follows the moves from the start are positions
pub all_within : (p : Problem) → IsProblem p → (q : List ℕ) → Follows p.moves p.start q → All (λ a. a < p.positions) q
all_within p sound q follows = positions_follow p sound p.start (omega (arith, sound.start, sound.grid_positions)) q follows

pub position_within : (p : Problem) → IsProblem p → (q : List ℕ) → Follows p.moves p.start q → (n d : ℕ) → n < length q → get_or q n d < p.positions
position_within p sound q follows n d more = All-get_or (λ a. a < p.positions) q n d more (all_within p sound q follows)

-- the first positions of a path are a legal prefix
pub front_legal : (p : Problem) (x : List ℕ) → IsPath p x → (j : ℕ) → j ≤ p.horizon → IsLegal p (take j x)
front_legal p x path j short =
    let parts : Follows p.moves p.start (take j x ++ drop j x) = subst (Follows p.moves p.start) (sym (take-append-drop j x)) path.follows in
    record {
      follows = ((follows-append p.moves p.start (take j x) (drop j x)).0 parts).0;
      short = omega (arith, length-take-le j x (omega (arith, short, path.whole)), short);
    }

-- the denominator of the looks times a value is bounded
pub value_bounded : (p : Problem) (x : List ℕ) → p.sweep.denominator * value_of p x ≤ most_of p
value_bounded p x = mul-le-mul_left p.sweep.denominator (omega arith)
