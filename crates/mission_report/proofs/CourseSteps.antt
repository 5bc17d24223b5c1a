-- A path, one look after the other.
use Rattle.std.proofs.Common.{ℕ, ◌+◌, ◌<◌, ◌≡◌, List, [], ◌∷◌, ◌++◌, Some, map, take, length, slice_index, refl, ap, ◌∙◌, arith, add-one}
use Rattle.std.specs.List.{range_with_len}
use Rattle.std.proofs.lemmas.List.{map_push, take_all, take_more}
use Rattle.search_model.specs.Problem.{Problem, IsProblem}
use Rattle.search_model.specs.Legal.{Follows, IsPath}
use Rattle.search_model.specs.Tracks.{value_of}
use Rattle.search_model.proofs.PlainSteps.{positions_follow}
use Rattle.list_laws.proofs.Ranges.{range_with_len-suc}
use Rattle.belief_update.specs.Belief.{BeliefState, IsBelief}
use Rattle.mission_report.specs.Account.{value_up_to}

-- each look along the moves is from a position
pub position_in : (p : Problem) → IsProblem p → (q : List ℕ) → Follows p.moves p.start q → (t : ℕ) → t < length q → slice_index q t < p.positions
position_in p sound q follows t lt = positions_follow p sound p.start (omega (arith, sound.start, sound.grid_positions)) q follows t 0 lt

pub position_at : (p : Problem) → IsProblem p → (q : List ℕ) → IsPath p q → (t : ℕ) → t < p.horizon → slice_index q t < p.positions
position_at p sound q path t lt = position_in p sound q path.follows t (omega (arith, path.whole))

-- the belief after one look more
pub belief_next : (p : Problem) (q : List ℕ) (t : ℕ) (b : BeliefState) → t < length q → IsBelief p (map Some (take t q ++ slice_index q t ∷ [])) b → IsBelief p (map Some (take (t + 1) q)) b
belief_next p q t b lt belief = rw (take_more q t 0 lt) belief

-- the values with the one after that look
pub values_next : (p : Problem) (q : List ℕ) (t : ℕ) → t < length q →
    map (value_up_to p q) (range_with_len 1 (t + 1)) ≡ map (value_up_to p q) (range_with_len 1 t) ++ value_of p (take t q ++ slice_index q t ∷ []) ∷ []
values_next p q t lt =
    let next : 1 + t ≡ t + 1 = omega arith in
    ap (map (value_up_to p q)) (ap (range_with_len 1) (add-one t) ∙ range_with_len-suc 1 t)
    ∙ map_push (value_up_to p q) (range_with_len 1 t) (1 + t)
    ∙ rw (next, take_more q t 0 lt) refl

-- the first value
pub first_value : (p : Problem) (q : List ℕ) → 0 < length q → value_of p (slice_index q 0 ∷ []) ≡ value_up_to p q 1
first_value p q some = rw (take_more q 0 0 some) refl

-- all looks of a path are made in its periods
pub take_path : (p : Problem) (q : List ℕ) (t : ℕ) → IsPath p q → t ≡ p.horizon → take t q ≡ q
take_path p q t path e = take_all t q (omega (arith, path.whole, e))
