-- There is an opening, and no second one.
use Rattle.std.proofs.Common.{ℕ, zero, suc, ◌+◌, ◌<◌, ◌≤◌, ◌≡◌, List, [], ◌∷◌, ◌++◌, length, take, drop, ◌-◌, ◌⊎◌, get_or, inl, inr, refl, sym, ap, subst, ◌∙◌, arith, Contains, length-append}
use Rattle.std.proofs.lemmas.Bool.{cases_lt}
use Rattle.std.proofs.lemmas.List.{take-append-drop, take_all, take_more}
use Rattle.std.proofs.Math.Seq.{drop-cons}
use Rattle.search_model.specs.Problem.{Problem, IsProblem}
use Rattle.search_model.specs.Legal.{moves_after, Follows}
use Rattle.search_model.specs.Opening.{IsOpening}
use Rattle.search_model.specs.Tracks.{value_of}
use Rattle.search_model.proofs.WalkLemmas.{follows-append}
use Rattle.opening_path.specs.Greedy.{left_after, LeavesLeast, IsOpened}
use Rattle.opening_path.specs.Laws.{OneOpening}
use Rattle.opening_path.proofs.FirstLeast.{IsFirstLeast, first_least-one, first_least-kept, first_least-taken}
use Rattle.opening_path.proofs.GreedySteps.{first_leaves_least}
use Rattle.opening_path.proofs.Openings.{moves_row, opened-nil, opened_further, opened_whole}

-- among the first n + 1 elements there is a first whose number is the least
some_first : (f : ℕ → ℕ) (xs : List ℕ) (n : ℕ) → (b : ℕ) × IsFirstLeast f xs (suc n) b
some_first f xs zero = (0, first_least-one f xs)
some_first f xs (suc n) =
    let so_far = some_first f xs n in
    let b = so_far.0 in
    let i = suc n in
    let more : i + 1 ≡ suc i = omega arith in
    elim (cases_lt (f (get_or xs i 0)) (f (get_or xs b 0))) [
      | inl less ↦ (i, subst (λ m. IsFirstLeast f xs m i) more (first_least-taken f xs i b so_far.1 less))
      | inr le ↦ (b, subst (λ m. IsFirstLeast f xs m b) more (first_least-kept f xs i b so_far.1 le))
    ]

-- after each prefix there is a move that leaves the least
some_least : (p : Problem) → IsProblem p → (q : List ℕ) → Follows p.moves p.start q → (a : ℕ) × LeavesLeast p q (moves_after p q) a
some_least p sound q follows =
    let moves = moves_after p q in
    let row = moves_row p q sound follows in
    let first = some_first (left_after p q) moves (length moves - 1) in
    let all : suc (length moves - 1) ≡ length moves = omega (arith, row.some) in
    (get_or moves first.0 0, first_leaves_least p q moves first.0 row.ascending (subst (λ n. IsFirstLeast (left_after p q) moves n first.0) all first.1))

-- a greedy searcher gets as far as the horizon
some_opened : (p : Problem) → IsProblem p → (n : ℕ) → n ≤ p.horizon → (q : List ℕ) × IsOpened p q × (length q ≡ n)
some_opened p sound zero short = ([], opened-nil p, refl)
some_opened p sound (suc n) short =
    let so_far = some_opened p sound n (omega arith) in
    let q = so_far.0 in
    let best = some_least p sound q so_far.1.follows in
    (q ++ best.0 ∷ [], opened_further p sound q best.0 (omega (arith, so_far.2)) so_far.1 best.1, omega (arith, length-append q (best.0 ∷ []), so_far.2))

-- each position of a path is a move after those before it
move_at : (p : Problem) (q : List ℕ) (k : ℕ) → Follows p.moves p.start q → k < length q → Contains (moves_after p (take k q)) (get_or q k 0)
move_at p q k follows inside =
    let parts : take k q ++ get_or q k 0 ∷ drop (suc k) q ≡ q = ap (λ ys. take k q ++ ys) (sym (drop-cons q k 0 inside)) ∙ take-append-drop k q in
    let whole : Follows p.moves p.start (take k q ++ get_or q k 0 ∷ drop (suc k) q) = subst (Follows p.moves p.start) (sym parts) follows in
    ((follows-append p.moves p.start (take k q) (get_or q k 0 ∷ drop (suc k) q)).0 whole).1.0

-- two least best moves are one
one_move : (m n a b : ℕ) → (n < m) ⊎ ((n ≡ m) × (a ≤ b)) → (m < n) ⊎ ((m ≡ n) × (b ≤ a)) → a ≡ b
one_move m n a b (inl h) (inl g) = absurd (omega arith)
one_move m n a b (inl h) (inr g) = absurd (omega (arith, g.0))
one_move m n a b (inr h) (inl g) = absurd (omega (arith, h.0))
one_move m n a b (inr h) (inr g) = omega (arith, h.1, g.1)

-- two openings go the same way for k periods
same_way : (p : Problem) (q r : List ℕ) → IsOpening p q → IsOpening p r → (k : ℕ) → k ≤ p.horizon → take k q ≡ take k r
same_way p q r opening other zero short = refl
same_way p q r opening other (suc k) short =
    let so_far = same_way p q r opening other k (omega arith) in
    let a = get_or q k 0 in
    let b = get_or r k 0 in
    let more : k + 1 ≡ suc k = omega arith in
    let here : take (k + 1) q ≡ take k q ++ a ∷ [] = take_more q k 0 (omega (arith, opening.path.whole)) in
    let there : take (k + 1) r ≡ take k q ++ b ∷ [] = take_more r k 0 (omega (arith, other.path.whole)) ∙ ap (λ ys. ys ++ b ∷ []) (sym so_far) in
    let to_b : Contains (moves_after p (take k q)) b = subst (λ ys. Contains (moves_after p ys) b) (sym so_far) (move_at p r k other.path.follows (omega (arith, other.path.whole))) in
    let to_a : Contains (moves_after p (take k r)) a = subst (λ ys. Contains (moves_after p ys) a) so_far (move_at p q k opening.path.follows (omega (arith, opening.path.whole))) in
    let best = rw here at (opening.steps k (omega arith) b to_b) in
    let best' = rw (there, ← so_far) at (other.steps k (omega arith) a to_a) in
    let same : a ≡ b = one_move (value_of p (take k q ++ a ∷ [])) (value_of p (take k q ++ b ∷ [])) a b best best' in
    subst (λ n. take n q ≡ take n r) more (here ∙ ap (λ c. take k q ++ c ∷ []) same ∙ sym there)

pub one_opening : OneOpening
one_opening p sound =
    let found = some_opened p sound p.horizon (omega arith) in
    let q = found.0 in
    let opening = opened_whole p q found.1 found.2 in (
      q,
      opening,
      λ r other.
          sym (take_all p.horizon r (omega (arith, other.path.whole))) ∙ same_way p r q other opening p.horizon (omega arith) ∙ take_all p.horizon q (omega (arith, found.2)),
    )
