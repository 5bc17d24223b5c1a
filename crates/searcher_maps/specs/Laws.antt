-- What a problem that stands for a team says of the team.
use Rattle.std.specs.Prelude.{ℕ, ◌≡◌, ◌<◌, ◌≤◌, List, [], ◌∷◌, map, All}
use Rattle.search_model.specs.Problem.{Problem, IsProblem}
use Rattle.search_model.specs.Legal.{IsLegal, IsPath, Follows}
use Rattle.search_model.specs.Tracks.{missed_weight, value_of, whole_weight}
use Rattle.search_model.specs.Order.{Starts, IsBest}
use Rattle.searcher_maps.specs.Stands.{StandsFor, missed_together}
use Rattle.searcher_maps.specs.Carried.{IsBestAmong, IsBestBehind, IsToldBy, KeepsOrder, IsCarried}

-- each of a team moves as its problem allows
abbrev pub TeamFollows : Type 0
TeamFollows =
    (p q : Problem) (at : List (ℕ → ℕ)) → IsProblem q → StandsFor p q at → (a : ℕ) (z : List ℕ) → a < q.positions → Follows q.moves a z →
    All (λ h. Follows p.moves (h a) (map h z)) at

-- what the looks of a path of q miss is what those of the team miss together
abbrev pub MissedByTeam : Type 0
MissedByTeam =
    (p q : Problem) (at : List (ℕ → ℕ)) → IsProblem p → IsProblem q → StandsFor p q at → (z : List ℕ) → IsPath q z →
    missed_weight q z ≡ missed_together p (map (λ h. map h z) at)

-- a single searcher finds what its path finds
abbrev pub OneFindsTheSame : Type 0
OneFindsTheSame =
    (p q : Problem) (h : ℕ → ℕ) → IsProblem p → IsProblem q → StandsFor p q (h ∷ []) → (z : List ℕ) → IsPath q z →
    (value_of q z ≡ value_of p (map h z)) × (whole_weight q ≡ whole_weight p)

-- the best path stands for the best among all paths that a path of q stands for, where their order is kept
abbrev pub BestIsTold : Type 0
BestIsTold =
    (p q : Problem) (h : ℕ → ℕ) → IsProblem p → IsProblem q → StandsFor p q (h ∷ []) → h q.start ≡ p.start → KeepsOrder q h →
    (z : List ℕ) → IsBest q z → IsBestAmong p (IsToldBy q h) (map h z)

-- where the paths of q stand for the paths of p that begin with a prefix, the best path stands for the best among these
abbrev pub BestIsCarried : Type 0
BestIsCarried =
    (p q : Problem) (h : ℕ → ℕ) (front : List ℕ) → IsProblem p → IsProblem q →
    StandsFor p q (h ∷ []) → IsCarried p q h (Starts front) → (z : List ℕ) → IsBest q z → IsBestAmong p (Starts front) (map h z)

-- among the paths that begin with a legal prefix there is a best one, and no second one
abbrev pub OneBestBehind : Type 0
OneBestBehind =
    (p : Problem) (q : List ℕ) → IsProblem p → IsLegal p q →
    (y : List ℕ) × IsBestAmong p (Starts q) y × ((r : List ℕ) → IsBestAmong p (Starts q) r → r ≡ y)

-- the best path is the best among those that are the best behind the legal prefixes of one length
abbrev pub BestOfFlown : Type 0
BestOfFlown =
    (p : Problem) (n : ℕ) (y : List ℕ) → IsProblem p → n ≤ p.horizon → IsBestAmong p (IsBestBehind p n) y → IsBest p y
