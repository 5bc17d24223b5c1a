-- Paths of the product problem, and pairs of paths.
use Rattle.std.proofs.Common.{◌≡◌, ℕ, ◌*◌, ◌^◌, ◌<◌, List, [], ◌∷◌, map, length, refl, sym, ap, ◌∙◌, arith, subst, All, Contains}
use Rattle.std.proofs.Math.Nat.{pow-zero, pow-suc}
use Rattle.std.proofs.lemmas.List.{length-map}
use Rattle.std.proofs.lemmas.List.Elements.{All-nil, All-cons, All-head, All-tail}
use Rattle.search_grid.specs.Moves.{moves_from}
use Rattle.search_model.specs.Problem.{Problem, IsProblem}
use Rattle.search_model.specs.Legal.{Follows, IsPath}
use Rattle.search_model.proofs.LegalLemmas.{move_within, follows_within}
use Rattle.searcher_maps.proofs.Following.{KeepsMoves, team_follows}
use Rattle.duo_search.specs.Product.{both_at, first_at, second_at, product_factor, IsProduct}
use Rattle.duo_search.specs.Pairs.{IsPathFrom, paired, firsts_of, seconds_of}
use Rattle.duo_search.specs.Laws.{ProductStandsFor, PathsArePairs}
use Rattle.duo_search.proofs.Numbers.{first_is, second_is, both_is, both_within}
use Rattle.duo_search.proofs.PairMoves.{move_parts, move_of_both}

squared : (n : ℕ) → n * n ≡ n ^ 2
squared n = sym (rw (pow-suc n 1, pow-suc n 0, pow-zero n) (omega arith))

pub stands_for_both : ProductStandsFor
unfolding product_factor
stands_for_both p q second sound other made =
    let P = p.positions in
    record {
      target = made.target;
      parts = made.denominator ∙ squared p.sweep.denominator;
      looks = λ t a c from to inside cell. made.looks t a c from to (omega (arith, inside, made.positions)) cell ∙ omega arith;
      moves =
          All-cons (KeepsMoves p q) (first_at P) (second_at P ∷ []) (λ a b inside there. (moves_of_each p q second sound made a b inside there).0)
          (All-cons (KeepsMoves p q) (second_at P) [] (λ a b inside there. (moves_of_each p q second sound made a b inside there).1) (All-nil (KeepsMoves p q)));
    }
  where
    moves_of_each : (p q : Problem) (second : ℕ) → IsProblem p → IsProduct p second q → (a b : ℕ) → a < q.positions → Contains (moves_from q.moves a) b →
        Contains (moves_from p.moves (first_at p.positions a)) (first_at p.positions b) × Contains (moves_from p.moves (second_at p.positions a)) (second_at p.positions b)
    moves_of_each p q second sound made a b inside there =
        let within : a < p.positions * p.positions = omega (arith, inside, made.positions) in
        let R : List ℕ → Type 0 = λ row. Contains row b in
        move_parts p sound a b within (subst R (made.moves a within) there)

length-paired : (P : ℕ) (a b : List ℕ) → length a ≡ length b → length (paired P a b) ≡ length a
unfolding paired
length-paired P [] b same = refl
length-paired P (i ∷ a) [] same = absurd (omega (arith, same))
length-paired P (i ∷ a) (j ∷ b) same = omega (arith, length-paired P a b (omega (arith, same)))

-- the two lists of a list of pairs
first_paired : (P : ℕ) (a b : List ℕ) → length a ≡ length b → All (λ j. j < P) b → map (first_at P) (paired P a b) ≡ a
unfolding paired
first_paired P [] b same within = refl
first_paired P (i ∷ a) [] same within = absurd (omega (arith, same))
first_paired P (i ∷ a) (j ∷ b) same within =
    let rest = first_paired P a b (omega (arith, same)) (All-tail (λ j. j < P) j b within) in
    rw (first_is P i j (All-head (λ j. j < P) j b within), rest) refl

second_paired : (P : ℕ) (a b : List ℕ) → length a ≡ length b → All (λ j. j < P) b → map (second_at P) (paired P a b) ≡ b
unfolding paired
second_paired P [] [] same within = refl
second_paired P [] (j ∷ b) same within = absurd (omega (arith, same))
second_paired P (i ∷ a) [] same within = absurd (omega (arith, same))
second_paired P (i ∷ a) (j ∷ b) same within =
    let rest = second_paired P a b (omega (arith, same)) (All-tail (λ j. j < P) j b within) in
    rw (second_is P i j (All-head (λ j. j < P) j b within), rest) refl

paired_parts : (P : ℕ) (z : List ℕ) → paired P (map (first_at P) z) (map (second_at P) z) ≡ z
unfolding paired
paired_parts P [] = refl
paired_parts P (n ∷ z) = rw (both_is P n, paired_parts P z) refl

module _ (p q : Problem) (second : ℕ) (sound : IsProblem p) (made : IsProduct p second q) where
  -- two lists that follow the moves, as one
  follows_both : (a b : List ℕ) (i j : ℕ) → length a ≡ length b → i < p.positions → j < p.positions → Follows p.moves i a → Follows p.moves j b → Follows q.moves (both_at p.positions i j) (paired p.positions a b)
  unfolding paired
  follows_both [] b i j same here here' first second' = tt
  follows_both (x ∷ a) [] i j same here here' first second' = absurd (omega (arith, same))
  follows_both (x ∷ a) (y ∷ b) i j same here here' first second' =
      let P = p.positions in
      let many = sound.grid_positions in
      let next : x < P = omega (arith, many, move_within p.moves sound.grid i x (omega (arith, many, here)) first.0) in
      let next' : y < P = omega (arith, many, move_within p.moves sound.grid j y (omega (arith, many, here')) second'.0) in
      let there = move_of_both p sound i j x y here' first.0 second'.0 in
      let R : List ℕ → Type 0 = λ row. Contains row (both_at P x y) in
      (subst R (sym (made.moves (both_at P i j) (both_within P i j here here'))) there, follows_both a b x y (omega (arith, same)) next next' first.1 second'.1)

module _ (p q : Problem) (second : ℕ) (sound : IsProblem p) (other : IsProblem q) (made : IsProduct p second q) (below : second < p.positions) where
  same_lengths : (a b : List ℕ) → IsPathFrom p p.start a → IsPathFrom p second b → length a ≡ length b
  same_lengths a b first second' = first.whole ∙ sym second'.whole

  path_of_pair : (a b : List ℕ) → IsPathFrom p p.start a → IsPathFrom p second b → IsPath q (paired p.positions a b)
  path_of_pair a b first second' =
      let same = same_lengths a b first second' in
      let follows = follows_both p q second sound made a b p.start second same sound.start below first.follows second'.follows in
      record {
        follows = subst (λ s. Follows q.moves s (paired p.positions a b)) (sym made.start) follows;
        whole = length-paired p.positions a b same ∙ first.whole ∙ sym made.target.horizon;
      }

  says_pair : (a b : List ℕ) → IsPathFrom p p.start a → IsPathFrom p second b → (firsts_of p.positions (paired p.positions a b) ≡ a) × (seconds_of p.positions (paired p.positions a b) ≡ b)
  says_pair a b first second' =
      let same = same_lengths a b first second' in
      let many = sound.grid_positions in
      let within : All (λ j. j < p.positions) b = subst (λ n. All (λ j. j < n) b) many (follows_within p.moves sound.grid second (omega (arith, many, below)) b second'.follows) in
      (first_paired p.positions a b same within, second_paired p.positions a b same within)

  pair_of_path : (z : List ℕ) → IsPath q z → IsPathFrom p p.start (firsts_of p.positions z) × IsPathFrom p second (seconds_of p.positions z)
  pair_of_path z path =
      let P = p.positions in
      let each = team_follows p q (first_at P ∷ second_at P ∷ []) other (stands_for_both p q second sound other made) q.start z other.start path.follows in
      let F : (ℕ → ℕ) → Type 0 = λ h. Follows p.moves (h q.start) (map h z) in
      let first = All-head F (first_at P) (second_at P ∷ []) each in
      let second' = All-head F (second_at P) [] (All-tail F (first_at P) (second_at P ∷ []) each) in
      let at : first_at P q.start ≡ p.start = ap (first_at P) made.start ∙ first_is P p.start second below in
      let at' : second_at P q.start ≡ second = ap (second_at P) made.start ∙ second_is P p.start second below in (
        record { follows = subst (λ s. Follows p.moves s (map (first_at P) z)) at first; whole = length-map z (first_at P) ∙ path.whole ∙ made.target.horizon },
        record { follows = subst (λ s. Follows p.moves s (map (second_at P) z)) at' second'; whole = length-map z (second_at P) ∙ path.whole ∙ made.target.horizon },
      )

pub paths_are_pairs : PathsArePairs
paths_are_pairs p q second sound other made below = record {
  path = path_of_pair p q second sound other made below;
  says = says_pair p q second sound other made below;
  pair = pair_of_path p q second sound other made below;
  made = λ z path. paired_parts p.positions z;
}
