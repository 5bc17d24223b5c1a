-- The greatest sum over longer walks, by way of each first move.
use Rattle.std.proofs.Common.{ℕ, suc, ◌+◌, ◌<◌, ◌≡◌, List, [], ◌∷◌, map, length, refl, ap, ◌∙◌, All, Contains}
use Rattle.std.proofs.lemmas.List.{length-map}
use Rattle.std.proofs.lemmas.List.Elements.{All-weaker, All-contains_itself}
use Rattle.search_grid.specs.Moves.{moves_from, IsGrid}
use Rattle.search_model.specs.Legal.{walks}
use Rattle.search_model.specs.Bounds.{sum_along, greatest}
use Rattle.search_model.proofs.LegalLemmas.{move_within}
use Rattle.search_model.proofs.WalkLemmas.{some_walks}
use Rattle.search_model.specs.Reference.{greatest_sum}
use Rattle.list_laws.proofs.Agreeing.{map_agree, map-flat_map}
use Rattle.search_model.proofs.Greatest.{greatest-one, greatest-raised, greatest-flat_map}
use Rattle.search_model.proofs.LeastBest.{sum_along-cons}

-- the greatest sum over the walks that are on a position in period t and go on for n periods more
abbrev pub sum_through : List (List ℕ) → (ℕ → ℕ → ℕ) → ℕ → ℕ → ℕ → ℕ
sum_through rows r n t d = r t d + greatest_sum rows r n (t + 1) d

-- no walk, no sum
pub greatest_sum-zero : (rows : List (List ℕ)) (r : ℕ → ℕ → ℕ) (t a : ℕ) → greatest_sum rows r 0 t a ≡ 0
unfolding walks sum_along
greatest_sum-zero rows r t a = greatest-one 0

-- a first position adds its part to each sum
sums-first : (f g : List ℕ → ℕ) (b part : ℕ) → ((y : List ℕ) → f (b ∷ y) ≡ part + g y) → (ys : List (List ℕ)) → map f (map (λ y. b ∷ y) ys) ≡ map (λ v. part + v) (map g ys)
sums-first f g b part first [] = refl
sums-first f g b part first (y ∷ ys) =
    let head : f (b ∷ y) ≡ part + g y = first y in
    let rest : map f (map (λ y. b ∷ y) ys) ≡ map (λ v. part + v) (map g ys) = sums-first f g b part first ys in
    cc

-- by way of one first move
sums-through : (rows : List (List ℕ)) → IsGrid rows → (f g : List ℕ → ℕ) (n b part : ℕ) → ((y : List ℕ) → f (b ∷ y) ≡ part + g y) → b < length rows →
    greatest (map f (map (λ y. b ∷ y) (walks rows n b))) ≡ part + greatest (map g (walks rows n b))
sums-through rows grid f g n b part first here =
    ap greatest (sums-first f g b part first (walks rows n b))
    ∙ greatest-raised part (map g (walks rows n b)) (rw length-map (some_walks rows grid n b here))

-- what holds of each position holds of each move
pub All-moves : (rows : List (List ℕ)) → IsGrid rows → (P : ℕ → Type 0) → ((d : ℕ) → d < length rows → P d) → (a : ℕ) → a < length rows → All P (moves_from rows a)
All-moves rows grid P each a here =
    All-weaker (Contains (moves_from rows a)) P (λ d move. each d (move_within rows grid a d here move)) (moves_from rows a) (All-contains_itself (moves_from rows a))

-- over the walks that are longer by one, the greatest of some sums is the greatest by way of a first move
pub greatest_walks-suc : (rows : List (List ℕ)) → IsGrid rows → (f : List ℕ → ℕ) (part : ℕ → ℕ) (g : ℕ → List ℕ → ℕ) →
    ((b : ℕ) (y : List ℕ) → f (b ∷ y) ≡ part b + g b y) → (n a : ℕ) → a < length rows →
    greatest (map f (walks rows (suc n) a)) ≡ greatest (map (λ b. part b + greatest (map (g b) (walks rows n b))) (moves_from rows a))
unfolding walks
greatest_walks-suc rows grid f part g first n a here =
    let parts : ℕ → List (List ℕ) = λ b. map (λ y. b ∷ y) (walks rows n b) in
    let through : ℕ → ℕ = λ b. part b + greatest (map (g b) (walks rows n b)) in
    ap greatest (map-flat_map f parts (moves_from rows a))
    ∙ greatest-flat_map (λ b. map f (parts b)) (moves_from rows a)
    ∙ ap greatest (map_agree (λ b. greatest (map f (parts b))) through (moves_from rows a)
    (All-moves rows grid (λ b. greatest (map f (parts b)) ≡ through b) (λ b within. sums-through rows grid f (g b) n b (part b) (first b) within) a here))

-- the greatest sum of rewards
pub greatest_sum-suc : (rows : List (List ℕ)) → IsGrid rows → (r : ℕ → ℕ → ℕ) (n t a : ℕ) → a < length rows →
    greatest_sum rows r (suc n) t a ≡ greatest (map (sum_through rows r n t) (moves_from rows a))
greatest_sum-suc rows grid r n t a here = greatest_walks-suc rows grid (sum_along r t) (r t) (λ _. sum_along r (t + 1)) (λ b y. sum_along-cons r t b y) n a here
