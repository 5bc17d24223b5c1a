-- The bounds that remember looks are between what paths find and the mean bound; the edge bound is one of them.
use Rattle.std.proofs.Common.{ℕ, ◌+◌, ◌-◌, ◌<◌, ◌≤◌, ◌≡◌, List, [], ◌++◌, map, length, ap, ◌∙◌, arith, Contains}
use Rattle.std.proofs.lemmas.List.{length-map}
use Rattle.std.proofs.Math.Seq.{take-append_seam}
use Rattle.std.proofs.lemmas.List.Elements.{All-map, All-weaker, All-contains_itself}
use Rattle.search_model.specs.Problem.{Problem}
use Rattle.search_model.specs.Legal.{last_of, continuations}
use Rattle.search_model.specs.Tracks.{value_of}
use Rattle.search_model.specs.Bounds.{greatest}
use Rattle.search_model.specs.Memory.{sum_remembering}
use Rattle.list_laws.proofs.Members.{Contains-map, Contains-map_cases}
use Rattle.search_model.proofs.Greatest.{greatest_above, greatest_below, greatest_reached}
use Rattle.search_model.proofs.LegalLemmas.{last_within}
use Rattle.search_model.proofs.Remembering.{value-all, value-within, sum_remembering-le, remembering_of-none, remembering_of-one}
use Rattle.search_model.proofs.WalkLemmas.{listed_walk, some_walks, continuations_are}
use Rattle.bound_tree.specs.EdgeLaws.{EdgeIsAbove, EdgeIsWithinMean}
use Rattle.bound_tree.specs.MemoryLaws.{RememberingIsAbove, MoreIsLess, RememberingNone, RememberingOne, RememberingAll}
use Rattle.bound_tree.proofs.Continuing.{rest_of, whole_is, rest_size, rest_listed, front_short}

-- of greater terms the greatest is greater
greatest_within : (f g : List ℕ → ℕ) (ys : List (List ℕ)) → ((y : List ℕ) → Contains ys y → f y ≤ g y) → greatest (map f ys) ≤ greatest (map g ys)
greatest_within f g ys less =
    let most = greatest (map g ys) in
    greatest_below most (map f ys) (All-map (λ v. v ≤ most) f ys (All-weaker (Contains ys) (λ y. f y ≤ most)
    (λ y listed. omega (arith, less y listed, greatest_above (map g ys) (g y) (Contains-map g ys y listed))) ys (All-contains_itself ys)))

-- a continuation is as long as what the prefix leaves
continued : (p : Problem) (q y : List ℕ) → Contains (continuations p q) y → length y ≡ p.horizon - length q
continued p q y listed = (listed_walk p.moves (p.horizon - length q) (last_of p.start q) y listed).1

pub remembering_is_above : RememberingIsAbove
remembering_is_above p m q y sound path =
    let z = rest_of q y in
    let short : length q + length z ≤ p.horizon = omega (arith, rest_size p q y path, front_short p q y path) in
    let most = greatest_above _ _ (Contains-map (sum_remembering p m q [] (length q + 1)) (continuations p q) z (rest_listed p q y path)) in
    omega (arith, ap (value_of p) (whole_is p q y path), value-within p sound m q z short, most)

pub more_is_less : MoreIsLess
more_is_less p m n q sound legal less =
    let sum : ℕ → List ℕ → ℕ = λ k. sum_remembering p k q [] (length q + 1) in
    let each = greatest_within (sum n) (sum m) (continuations p q) (λ y listed. sum_remembering-le p sound m n less q [] (length q + 1) y (omega (arith, continued p q y listed, legal.short))) in
    omega (arith, each)

pub remembering_none : RememberingNone
remembering_none = remembering_of-none

pub remembering_one : RememberingOne
remembering_one = remembering_of-one

pub remembering_all : RememberingAll
remembering_all p m q sound legal far =
    let f = sum_remembering p m q [] (length q + 1) in
    let start : p.start < length p.moves = omega (arith, sound.start, sound.grid_positions) in
    let some : 0 < length (map f (continuations p q)) =
    rw length-map (some_walks p.moves sound.grid (p.horizon - length q) (last_of p.start q) (last_within p.moves sound.grid p.start start q legal.follows)) in
    let (z, listed, is) = Contains-map_cases f (continuations p q) _ (greatest_reached _ some) in
    let size = continued p q z listed in (
      q ++ z,
      record { path = (continuations_are p q z legal).0 listed; front = take-append_seam q z },
      value-all p sound m q z (omega (arith, size, legal.short)) (omega (arith, size, far)) ∙ ap (λ (n : ℕ). value_of p q + n) is,
    )

pub edge_is_above : EdgeIsAbove
edge_is_above p q y sound legal short path = omega (arith, remembering_is_above p 1 q y sound path, remembering_one p q)

pub edge_is_within_mean : EdgeIsWithinMean
edge_is_within_mean p q sound legal short =
    omega (arith, more_is_less p 0 1 q sound legal (omega arith), remembering_one p q, remembering_none p q)
