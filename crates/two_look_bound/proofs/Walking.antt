-- The greatest sums over pairs of positions, by way of a next move.
use Rattle.std.proofs.Common.{ℕ, suc, ◌+◌, ◌*◌, ◌-◌, ◌<◌, ◌≤◌, ◌≡◌, ◌⊎◌, List, ◌∷◌, max, map, length, slice_index, set, get_or-set_same, get_or-set_other, inl, inr, refl, sym, ap, ◌∙◌, subst, arith, Contains}
use Rattle.std.proofs.Math.Nat.{mul-le-mul_right}
use Rattle.std.proofs.lemmas.Bool.{cases_lt, cases_eq}
use Rattle.std.proofs.lemmas.List.{get_or_default}
use Rattle.std.proofs.lemmas.List.Elements.{All-weaker, All-contains_itself, Contains-get_or}
use Rattle.search_grid.specs.Moves.{moves_from}
use Rattle.search_model.specs.Problem.{Problem, IsProblem}
use Rattle.search_model.specs.Legal.{IsLegal, walks, continuations, last_of, moves_after}
use Rattle.search_model.specs.Bounds.{reward_of, greatest}
use Rattle.search_model.specs.Edge.{edge_reward_of}
use Rattle.search_model.proofs.LegalLemmas.{last_within, move_within}
use Rattle.search_model.proofs.Greatest.{greatest-one, greatest_above}
use Rattle.list_laws.proofs.Agreeing.{map_agree}
use Rattle.list_laws.proofs.Members.{Contains-map}
use Rattle.longest_walk.proofs.Steps.{greatest_walks-suc}
use Rattle.longest_walk.specs.Near.{IsNear}
use Rattle.edge_bound.specs.Moves.{IsLater}
use Rattle.two_look_bound.specs.Pairs.{two_reward_of, sum_pairs, second_sum, two_sum, greatest_pairs, pair_sum, HasPairs, IsMiddle}

pub sum_pairs-cons : (r : ℕ → ℕ → ℕ → ℕ → ℕ) (t a b c : ℕ) (y : List ℕ) → sum_pairs r t a b (c ∷ y) ≡ r t a b c + sum_pairs r (t + 1) b c y
unfolding sum_pairs
sum_pairs-cons r t a b c y = refl

-- no walk, no sum
pub greatest_pairs-zero : (rows : List (List ℕ)) (r : ℕ → ℕ → ℕ → ℕ → ℕ) (t a b : ℕ) → greatest_pairs rows r 0 t a b ≡ 0
unfolding walks sum_pairs
greatest_pairs-zero rows r t a b = greatest-one 0

-- the sum of one pair stands within the table
pub pair_inside : (positions a b : ℕ) → a < positions → b < positions → a * positions + b < positions * positions
pair_inside positions a b here there =
    let rows : (a + 1) * positions ≤ positions * positions = mul-le-mul_right positions (omega (arith, here)) in
    omega (arith, rows, there)

module _ (p : Problem) (sound : IsProblem p) where
  -- a move of a position is one
  pub move_inside : (a b : ℕ) → a < p.positions → Contains (moves_from p.moves a) b → b < p.positions
  move_inside a b here move = omega (arith, move_within p.moves sound.grid a b (omega (arith, here, sound.grid_positions)) move, sound.grid_positions)

  -- so is one that is listed among moves
  pub listed_inside : (a i : ℕ) (moves : List ℕ) → a < p.positions → moves ≡ moves_from p.moves a → i < length moves → slice_index moves i < p.positions
  listed_inside a i moves here is inside =
      move_inside a (slice_index moves i) here (subst (λ xs. Contains xs (slice_index moves i)) is (Contains-get_or moves i 0 inside))

module _ (p : Problem) (q : List ℕ) where
  -- a move of a position that the searcher can be on in the period before s is one that it can be on in period s
  pub pair_there : (pairs : List ℕ) (s a b c : ℕ) → length q + 2 ≤ s → IsNear p.moves (s - 1 - length q) (last_of p.start q) a → Contains (moves_from p.moves a) b → Contains (moves_from p.moves b) c → HasPairs p q s pairs →
      slice_index pairs (b * p.positions + c) ≡ pair_sum p q s b c
  pair_there pairs s a b c later near move next filled = filled b c (suc (s - 1 - length q)) (omega (arith, later)) (inr (a, near, move)) next

  -- the sums behind a pair, by those of the pairs that its second position begins
  pub sums_behind : (s a b : ℕ) → IsProblem p → s + 1 ≤ p.horizon → b < p.positions →
      greatest_pairs p.moves (two_reward_of p q) (p.horizon - s) (s + 1) a b ≡
      greatest (map (λ c. two_reward_of p q (s + 1) a b c + greatest_pairs p.moves (two_reward_of p q) (p.horizon - (s + 1)) (s + 1 + 1) b c) (moves_from p.moves b))
  sums_behind s a b sound last here =
      let r = two_reward_of p q in
      let at : b < length p.moves = omega (arith, here, sound.grid_positions) in
      let long : p.horizon - s ≡ suc (p.horizon - (s + 1)) = omega (arith, last) in
      rw long (greatest_walks-suc p.moves sound.grid (sum_pairs r (s + 1) a b) (r (s + 1) a b) (λ c. sum_pairs r (s + 1 + 1) b c) (λ c y. sum_pairs-cons r (s + 1) a b c y) (p.horizon - (s + 1)) b at)

  -- behind the last period there are none
  pub none_behind : (s a b : ℕ) → s ≡ p.horizon → 0 ≡ greatest_pairs p.moves (two_reward_of p q) (p.horizon - s) (s + 1) a b
  none_behind s a b at =
      let none : p.horizon - s ≡ 0 = omega (arith, at) in
      rw (none, greatest_pairs-zero p.moves (two_reward_of p q) (s + 1) a b) refl

  -- the greatest sum behind a first look, by the sums of the pairs that it begins
  pub seconds_greatest : (a : ℕ) → IsProblem p → length q + 1 + 1 ≤ p.horizon → a < p.positions →
      greatest (map (second_sum p q a) (walks p.moves (p.horizon - (length q + 1)) a)) ≡ greatest (map (λ b. pair_sum p q (length q + 1) a b) (moves_from p.moves a))
  seconds_greatest a sound last here =
      let at : a < length p.moves = omega (arith, here, sound.grid_positions) in
      let long : p.horizon - (length q + 1) ≡ suc (p.horizon - (length q + 1 + 1)) = omega (arith, last) in
      rw long (greatest_walks-suc p.moves sound.grid (second_sum p q a) (edge_reward_of p q (length q + 1 + 1) a) (λ b. sum_pairs (two_reward_of p q) (length q + 1 + 1 + 1) a b) (λ b y. refl) (p.horizon - (length q + 1 + 1)) a at)

  -- none follows in the last period
  pub seconds_none : (a : ℕ) → length q + 1 ≡ p.horizon → greatest (map (second_sum p q a) (walks p.moves (p.horizon - (length q + 1)) a)) ≡ 0
  unfolding walks
  seconds_none a last =
      let none : p.horizon - (length q + 1) ≡ 0 = omega (arith, last) in
      rw none (greatest-one 0)

  -- the greatest sum over all continuations, by way of a first move
  pub firsts_greatest : IsProblem p → IsLegal p q → length q < p.horizon →
      greatest (map (two_sum p q) (continuations p q)) ≡
      greatest (map (λ a. reward_of p q (length q + 1) a + greatest (map (second_sum p q a) (walks p.moves (p.horizon - (length q + 1)) a))) (moves_after p q))
  firsts_greatest sound legal short =
      let from = last_of p.start q in
      let at : from < length p.moves = last_within p.moves sound.grid p.start (omega (arith, sound.start, sound.grid_positions)) q legal.follows in
      let long : p.horizon - length q ≡ suc (p.horizon - (length q + 1)) = omega (arith, short) in
      rw long (greatest_walks-suc p.moves sound.grid (two_sum p q) (reward_of p q (length q + 1)) (second_sum p q) (λ a y. refl) (p.horizon - (length q + 1)) from at)

-- the greatest of what agrees on some moves
pub greatest_same : (f g : ℕ → ℕ) (xs : List ℕ) → ((b : ℕ) → Contains xs b → f b ≡ g b) → greatest (map f xs) ≡ greatest (map g xs)
greatest_same f g xs each = ap greatest (map_agree f g xs (All-weaker (Contains xs) (λ b. f b ≡ g b) each xs (All-contains_itself xs)))

-- with one of the places before all of them, the greatest is the same
pub best_begun : (f : ℕ → ℕ) (xs : List ℕ) (x : ℕ) → Contains xs x → max (f x) (greatest (map f xs)) ≡ greatest (map f xs)
best_begun f xs x there = omega (arith, greatest_above (map f xs) (f x) (Contains-map f xs x there))

-- the rows of two positions don't meet
pub apart_rows : (positions a k b : ℕ) → b < positions → (k ≡ a → ⊥) → (k * positions + b < a * positions) ⊎ (a * positions + positions ≤ k * positions + b)
apart_rows positions a k b there apart =
    elim (cases_lt k a) [
      | inl before ↦
          let rows : (k + 1) * positions ≤ a * positions = mul-le-mul_right positions (omega (arith, before)) in
          inl (omega (arith, rows, there))
      | inr not ↦
          let rows : (a + 1) * positions ≤ k * positions = mul-le-mul_right positions (omega (arith, not, apart)) in
          inr (omega (arith, rows))
    ]

-- one number more of a row, of those of some places
pub row_more : (f : ℕ → ℕ) (old moves : List ℕ) (here i v : ℕ) → here + slice_index moves i < length old → v ≡ f (slice_index moves i) →
    ((j : ℕ) → j < i → slice_index old (here + slice_index moves j) ≡ f (slice_index moves j)) →
    (j : ℕ) → j < i + 1 → slice_index (set old (here + slice_index moves i) v) (here + slice_index moves j) ≡ f (slice_index moves j)
row_more f old moves here i v inside is filled j short =
    let at = slice_index moves i in
    let b = slice_index moves j in
    elim (cases_eq b at) [
      | inl same ↦ rw (same, get_or-set_same old (here + at) v 0 inside) is
      | inr apart ↦
          let not : j ≡ i → ⊥ = λ e. apart (ap (slice_index moves) e) in
          let before : j < i = omega (arith, short, not) in
          rw (get_or-set_other old (here + at) (here + b) v 0 (λ e. apart (omega (arith, e)))) (filled j before)
    ]

-- where a period comes behind a later one, that is in the middle
pub middle_of : (p : Problem) (q : List ℕ) (s : ℕ) → IsLater p q s → s < p.horizon → IsMiddle p q s
middle_of p q s later more = record { later = later.later; last = omega (arith, more) }

-- what holds of all places of a list holds of all that it contains, also by another name
pub filled_all : (P : ℕ → Type 0) (xs ys : List ℕ) (n : ℕ) → xs ≡ ys → length xs ≤ n → ((j : ℕ) → j < n → P (slice_index xs j)) → (b : ℕ) → Contains ys b → P b
filled_all P xs ys n same all each b listed =
    let there = subst (λ (zs : List ℕ). Contains zs b) (sym same) listed in
    subst P (get_or_default xs there.0 0 b there.1 ∙ there.2) (each there.0 (omega (arith, there.1, all)))

-- one number more of a list, of those of some places
pub place_more : (f : ℕ → ℕ) (old moves : List ℕ) (i v : ℕ) → slice_index moves i < length old → v ≡ f (slice_index moves i) →
    ((j : ℕ) → j < i → slice_index old (slice_index moves j) ≡ f (slice_index moves j)) →
    (j : ℕ) → j < i + 1 → slice_index (set old (slice_index moves i) v) (slice_index moves j) ≡ f (slice_index moves j)
place_more f old moves i v inside is filled j short =
    let at = slice_index moves i in
    let b = slice_index moves j in
    elim (cases_eq b at) [
      | inl same ↦ rw (same, get_or-set_same old at v 0 inside) is
      | inr apart ↦
          let not : j ≡ i → ⊥ = λ e. apart (ap (slice_index moves) e) in
          let before : j < i = omega (arith, short, not) in
          rw (get_or-set_other old at b v 0 apart) (filled j before)
    ]
