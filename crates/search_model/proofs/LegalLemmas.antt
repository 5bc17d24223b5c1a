-- Prefixes that follow the moves.
use Rattle.std.proofs.Common.{ℕ, suc, ◌≡◌, ◌<◌, ◌-◌, List, [], ◌∷◌, ◌++◌, length, refl, arith, All, Contains, unwrap_or, slice_get}
use Rattle.std.proofs.lemmas.List.Elements.{All-nil, All-cons, All-contains}
use Rattle.search_grid.specs.Moves.{moves_from, IsGrid}
use Rattle.search_model.specs.Legal.{last_of, Follows}

-- a move is a position
pub move_within : (rows : List (List ℕ)) → IsGrid rows → (a b : ℕ) → a < length rows → Contains (moves_from rows a) b → b < length rows
move_within rows grid a b here move = All-contains (λ q. q < length rows) (moves_from rows a) b (grid.each a here).within move

-- the last position of what follows the moves is a position
pub last_within : (rows : List (List ℕ)) → IsGrid rows → (a : ℕ) → a < length rows → (q : List ℕ) → Follows rows a q → last_of a q < length rows
last_within rows grid a here [] follows = here
last_within rows grid a here (b ∷ q) follows = last_within rows grid b (move_within rows grid a b here follows.0) q follows.1

-- what follows the moves holds positions
pub follows_within : (rows : List (List ℕ)) → IsGrid rows → (a : ℕ) → a < length rows → (q : List ℕ) → Follows rows a q → All (λ b. b < length rows) q
follows_within rows grid a here [] follows = All-nil (λ b. b < length rows)
follows_within rows grid a here (b ∷ q) follows =
    let next : b < length rows = move_within rows grid a b here follows.0 in
    All-cons (λ b. b < length rows) b q next (follows_within rows grid b next q follows.1)

-- the last position of a longer prefix is the one that was added
pub last_of-push : (a : ℕ) (q : List ℕ) (b : ℕ) → last_of a (q ++ b ∷ []) ≡ b
last_of-push a [] b = refl
last_of-push a (c ∷ q) b = last_of-push c q b

-- the last element of a list, or else the start
pub last_or_start : (a : ℕ) (q : List ℕ) → unwrap_or (slice_get q (length q - 1)) a ≡ last_of a q
last_or_start a [] = refl
last_or_start a (b ∷ []) = refl
last_or_start a (b ∷ c ∷ q) =
    let more : suc (suc (length q)) - 1 ≡ suc (length q) = omega arith in
    let here : suc (length q) - 1 ≡ length q = omega arith in
    rw more (rw here at (last_or_start a (c ∷ q)))
