-- The moves of both.
use Rattle.std.proofs.Common.{◌≡◌, ℕ, ◌+◌, ◌*◌, ◌<◌, ◌≤◌, List, [], ◌∷◌, map, length, sym, ap, ◌∙◌, arith, subst, All, AllPairs, Contains, length-append}
use Rattle.std.specs.List.Sorted.{IsStrictlyIncreasing}
use Rattle.std.proofs.Math.Nat.{mul-le-mul, mul-le-mul_right}
use Rattle.std.proofs.lemmas.List.{length-map}
use Rattle.std.proofs.lemmas.List.Elements.{All-map, All-weaker, All-contains, All-contains_itself}
use Rattle.std.proofs.lemmas.List.FromFn.{length-map-range_with_len, get_or-map-range_with_len}
use Rattle.std.proofs.lemmas.List.Kept.{AllPairs-from_increasing}
use Rattle.list_laws.proofs.Members.{Contains-map, Contains-map_cases, Contains-flat_map, Contains-flat_map_cases}
use Rattle.list_laws.proofs.Pairs.{AllPairs-map}
use Rattle.list_laws.proofs.Parts.{All-flat_map, AllPairs-flat_map}
use Rattle.search_grid.specs.Moves.{moves_from, IsMoveRow, IsGrid}
use Rattle.search_grid.proofs.Beside.{one-le-times}
use Rattle.search_model.specs.Problem.{Problem, IsProblem}
use Rattle.duo_search.specs.Product.{both_at, first_at, second_at, all_pairs, product_moves}
use Rattle.duo_search.specs.Refusals.{HasFewMoves, IsSmall}
use Rattle.duo_search.specs.Rows.{product_rows}
use Rattle.duo_search.proofs.Numbers.{first_within, second_within, first_is, second_is, both_within, few_pairs}

module _ (P : ℕ) (seconds : List ℕ) where
  -- there are as many pairs as there are of the first, times as there are of the second
  pub length-pairs : (firsts : List ℕ) → length (all_pairs P firsts seconds) ≡ length firsts * length seconds
  length-pairs [] = omega arith
  length-pairs (i ∷ firsts) = omega (arith, length-append (map (both_at P i) seconds) (all_pairs P firsts seconds), length-map seconds (both_at P i), length-pairs firsts)

  -- what a pair is made of
  pub pair_parts : (firsts : List ℕ) (n : ℕ) → All (λ j. j < P) seconds → Contains (all_pairs P firsts seconds) n → Contains firsts (first_at P n) × Contains seconds (second_at P n)
  pair_parts firsts n within there =
      let first = Contains-flat_map_cases (λ i. map (both_at P i) seconds) firsts n there in
      let second = Contains-map_cases (both_at P first.0) seconds n first.2 in
      let below : second.0 < P = All-contains (λ j. j < P) seconds second.0 within second.1 in
      let i : first.0 ≡ first_at P n = sym (first_is P first.0 second.0 below) ∙ ap (first_at P) second.2 in
      let j : second.0 ≡ second_at P n = sym (second_is P first.0 second.0 below) ∙ ap (second_at P) second.2 in
      (subst (Contains firsts) i first.1, subst (Contains seconds) j second.1)

  -- all pairs are there
  pub pair_there : (firsts : List ℕ) (i j : ℕ) → Contains firsts i → Contains seconds j → Contains (all_pairs P firsts seconds) (both_at P i j)
  pair_there firsts i j first second = Contains-flat_map (λ k. map (both_at P k) seconds) firsts i (both_at P i j) first (Contains-map (both_at P i) seconds j second)

  -- they ascend where both lists do
  pairs_ascend : (firsts : List ℕ) → All (λ j. j < P) seconds → IsStrictlyIncreasing firsts → IsStrictlyIncreasing seconds → IsStrictlyIncreasing (all_pairs P firsts seconds)
  pairs_ascend firsts within up up' =
      let Below : ℕ → ℕ → Type 0 = λ x y. x < y in
      let f : ℕ → List ℕ = λ i. map (both_at P i) seconds in
      let each : (i : ℕ) → AllPairs Below (f i) = λ i. AllPairs-map Below (both_at P i) seconds (λ k l d before inside. omega (arith, AllPairs-from_increasing seconds up' k l d before inside)) in
      let pairs =
      AllPairs-flat_map Below Below f firsts (AllPairs-from_increasing firsts up)
      (All-weaker (Contains firsts) (λ i. AllPairs Below (f i)) (λ i there. each i) firsts (All-contains_itself firsts))
      (λ a b before x y at at'.
      let one = Contains-map_cases (both_at P a) seconds x at in
      let other = Contains-map_cases (both_at P b) seconds y at' in
      let below : one.0 < P = All-contains (λ j. j < P) seconds one.0 within one.1 in
      let more : (a + 1) * P ≤ b * P = mul-le-mul_right P (omega (arith, before)) in
      omega (arith, below, more, one.2, other.2)) in
      λ k inside. pairs k (k + 1) 0 (omega arith) inside

  pairs_within : (firsts : List ℕ) → All (λ i. i < P) firsts → All (λ j. j < P) seconds → All (λ n. n < P * P) (all_pairs P firsts seconds)
  pairs_within firsts within within' =
      let f : ℕ → List ℕ = λ i. map (both_at P i) seconds in
      All-flat_map (λ n. n < P * P) f firsts (λ i there.
      let first : i < P = All-contains (λ i. i < P) firsts i within there in
      All-map (λ n. n < P * P) (both_at P i) seconds (All-weaker (λ j. j < P) (λ j. both_at P i j < P * P) (λ j second. both_within P i j first second) seconds within'))

module _ (p : Problem) (sound : IsProblem p) where
  -- the moves of a position are right
  pub own_row : (i : ℕ) → i < p.positions → IsMoveRow p.positions (moves_from p.moves i)
  own_row i inside =
      let many = sound.grid_positions in
      let M : ℕ → Type 0 = λ n. IsMoveRow n (moves_from p.moves i) in
      subst M many (sound.grid.each i (omega (arith, many, inside)))

  pub first_row : (n : ℕ) → n < p.positions * p.positions → IsMoveRow p.positions (moves_from p.moves (first_at p.positions n))
  first_row n inside = own_row (first_at p.positions n) (first_within p.positions n inside)

  pub second_row : (n : ℕ) → n < p.positions * p.positions → IsMoveRow p.positions (moves_from p.moves (second_at p.positions n))
  second_row n inside = own_row (second_at p.positions n) (second_within p.positions n inside)

  -- a move of both is a move of each
  pub move_parts : (n b : ℕ) → n < p.positions * p.positions → Contains (product_moves p n) b →
      Contains (moves_from p.moves (first_at p.positions n)) (first_at p.positions b) × Contains (moves_from p.moves (second_at p.positions n)) (second_at p.positions b)
  unfolding product_moves
  move_parts n b inside there = pair_parts p.positions _ (moves_from p.moves (first_at p.positions n)) b (second_row n inside).within there

  -- and the other way round
  pub move_of_both : (i j x y : ℕ) → j < p.positions → Contains (moves_from p.moves i) x → Contains (moves_from p.moves j) y → Contains (product_moves p (both_at p.positions i j)) (both_at p.positions x y)
  unfolding product_moves
  move_of_both i j x y below first second =
      rw (first_is p.positions i j below, second_is p.positions i j below) (pair_there p.positions (moves_from p.moves j) (moves_from p.moves i) x y first second)

  -- the rows of all positions
  pub length-rows : length (product_rows p) ≡ p.positions * p.positions
  length-rows = length-map-range_with_len (product_moves p) 0 (p.positions * p.positions)

  pub row_is : (n : ℕ) → n < p.positions * p.positions → moves_from (product_rows p) n ≡ product_moves p n
  unfolding moves_from
  row_is n inside = get_or-map-range_with_len (product_moves p) 0 (p.positions * p.positions) n n [] inside (omega arith)

  row_right : HasFewMoves p → (n : ℕ) → n < p.positions * p.positions → IsMoveRow (p.positions * p.positions) (product_moves p n)
  unfolding product_moves
  row_right few n inside =
      let P = p.positions in
      let firsts = moves_from p.moves (first_at P n) in
      let seconds = moves_from p.moves (second_at P n) in
      let first = first_row n inside in
      let second = second_row n inside in
      let many = length-pairs P seconds firsts in
      record {
        some = omega (arith, many, one-le-times _ _ first.some second.some);
        few = omega (arith, many, mul-le-mul (few _ (first_within P n inside)) (few _ (second_within P n inside)));
        ascending = pairs_ascend P seconds firsts second.within first.ascending second.ascending;
        within = pairs_within P seconds firsts first.within second.within;
      }

  pub grid_right : IsSmall p → IsGrid (product_rows p)
  grid_right small =
      let P = p.positions in
      let many : length (product_rows p) ≡ P * P = length-rows in
      record {
        size = (omega (arith, many, one-le-times P P sound.positions.0 sound.positions.0), omega (arith, many, few_pairs P small.positions));
        each = λ n inside.
            let within : n < P * P = omega (arith, many, inside) in
            rw (many, row_is n within) (row_right small.moves n within);
      }
