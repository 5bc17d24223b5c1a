-- What the product problem says of pairs of paths.
use Rattle.std.specs.Prelude.{ℕ, ◌<◌, [], ◌∷◌}
use Rattle.search_model.specs.Problem.{Problem, IsProblem}
use Rattle.search_model.specs.Same.{AreSame}
use Rattle.searcher_maps.specs.Stands.{StandsFor}
use Rattle.duo_search.specs.Product.{first_at, second_at, IsProduct}
use Rattle.duo_search.specs.Pairs.{AreOneToOne, FindsAsPair, IsBestOfPairs}

-- the product problem stands for the team of two: each of its positions says where both are
abbrev pub ProductStandsFor : Type 0
ProductStandsFor =
    (p q : Problem) (second : ℕ) → IsProblem p → IsProblem q → IsProduct p second q →
    StandsFor p q (first_at p.positions ∷ second_at p.positions ∷ [])

-- pairs of paths and paths of the product problem correspond one to one, period by period
abbrev pub PathsArePairs : Type 0
PathsArePairs =
    (p q : Problem) (second : ℕ) → IsProblem p → IsProblem q → IsProduct p second q → second < p.positions →
    AreOneToOne p second q

-- the value of a path of the product problem is what its pair of paths finds together
abbrev pub PairIsValue : Type 0
PairIsValue = (p q : Problem) (second : ℕ) → IsProblem p → IsProblem q → IsProduct p second q → FindsAsPair p q

-- no pair of paths finds more together than that of the product problem's best path
abbrev pub NoPairFindsMore : Type 0
NoPairFindsMore =
    (p q : Problem) (second : ℕ) → IsProblem p → IsProblem q → IsProduct p second q → second < p.positions →
    IsBestOfPairs p second q

-- all product problems for a second start are the same search
abbrev pub ProductIsOne : Type 0
ProductIsOne = (p q r : Problem) (second : ℕ) → IsProblem q → IsProblem r → IsProduct p second q → IsProduct p second r → AreSame q r

-- and what is the same search as one of them is one of them
abbrev pub SameIsProduct : Type 0
SameIsProduct = (p q r : Problem) (second : ℕ) → IsProduct p second q → AreSame q r → IsProduct p second r
