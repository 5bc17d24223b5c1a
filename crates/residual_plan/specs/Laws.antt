-- What the scenario that forces a flown prefix says of the paths that begin with it.
use Rattle.std.specs.Prelude.{ℕ, ◌≡◌, ◌+◌, List, [], ◌∷◌, ◌++◌, length, map}
use Rattle.std.specs.List.{range_with_len}
use Rattle.search_model.specs.Problem.{Problem, IsProblem}
use Rattle.search_model.specs.Legal.{IsLegal, IsPath, moves_after}
use Rattle.search_model.specs.Same.{AreSame}
use Rattle.search_model.specs.Tracks.{value_of, whole_weight}
use Rattle.search_model.specs.Order.{Starts, smaller, IsBest}
use Rattle.searcher_maps.specs.Stands.{StandsFor}
use Rattle.searcher_maps.specs.Carried.{IsBestAmong}
use Rattle.residual_plan.specs.Forced.{source_of, forced_moves, forced_path, IsForced}

-- the moves are those of p, then one to each next flown position, and then those after the prefix
abbrev pub ForcedMovesAre : Type 0
ForcedMovesAre =
    (p : Problem) (flown : List ℕ) → IsProblem p →
    forced_moves p flown ≡ p.moves ++ (map (λ b. b ∷ []) (range_with_len (p.positions + 1) (length flown)) ++ moves_after p flown ∷ [])

-- each position stands for the one that is its source
abbrev pub ForcedStandsFor : Type 0
ForcedStandsFor = (p q : Problem) (flown : List ℕ) → IsProblem p → IsLegal p flown → IsForced p flown q → StandsFor p q (source_of p flown ∷ [])

-- a path of the forced scenario, taken back, is a path that begins with the prefix, and no other path there is taken back to it
abbrev pub ForcedPathsBegin : Type 0
ForcedPathsBegin =
    (p q : Problem) (flown z : List ℕ) → IsProblem p → IsLegal p flown → IsForced p flown q → IsPath q z →
    let y = map (source_of p flown) z in IsPath p y × Starts flown y × (forced_path p flown y ≡ z)

-- each path that begins with the prefix is a path of the forced scenario, taken back
abbrev pub BeginningsAreForced : Type 0
BeginningsAreForced =
    (p q : Problem) (flown y : List ℕ) → IsProblem p → IsLegal p flown → IsForced p flown q → IsPath p y → Starts flown y →
    IsPath q (forced_path p flown y) × (map (source_of p flown) (forced_path p flown y) ≡ y)

-- which of two paths that begin with the prefix is the smaller one doesn't change
abbrev pub ForcedOrderStays : Type 0
ForcedOrderStays =
    (p : Problem) (flown y z : List ℕ) → Starts flown y → Starts flown z →
    smaller (forced_path p flown y) (forced_path p flown z) ≡ smaller y z

-- a path finds what it finds when it is taken back, out of the same whole
abbrev pub ForcedValueStays : Type 0
ForcedValueStays =
    (p q : Problem) (flown z : List ℕ) → IsProblem p → IsProblem q → IsLegal p flown → IsForced p flown q → IsPath q z →
    (value_of q z ≡ value_of p (map (source_of p flown) z)) × (whole_weight q ≡ whole_weight p)

-- so the best path of the forced scenario, taken back, is the best of those that begin with the prefix
abbrev pub ForcedBest : Type 0
ForcedBest =
    (p q : Problem) (flown z : List ℕ) → IsProblem p → IsProblem q → IsLegal p flown → IsForced p flown q → IsBest q z →
    IsBestAmong p (Starts flown) (map (source_of p flown) z)

-- all problems that force a prefix are the same search
abbrev pub ForcedIsOne : Type 0
ForcedIsOne = (p q r : Problem) (flown : List ℕ) → IsForced p flown q → IsForced p flown r → AreSame q r

-- and what is the same search as one of them is one of them
abbrev pub SameIsForced : Type 0
SameIsForced = (p q r : Problem) (flown : List ℕ) → IsForced p flown q → AreSame q r → IsForced p flown r
