-- The greatest sums of edge rewards, by way of a first move.
use Rattle.std.proofs.Common.{ℕ, suc, ◌+◌, ◌-◌, ◌<◌, ◌≤◌, ◌≡◌, List, ◌∷◌, map, length, slice_index, inr, refl, sym, ap, ◌∙◌, subst, arith, Contains}
use Rattle.std.proofs.lemmas.List.Elements.{All-get_or, All-weaker, All-contains_itself, Contains-get_or}
use Rattle.search_grid.specs.Moves.{moves_from}
use Rattle.search_model.specs.Problem.{Problem, IsProblem}
use Rattle.search_model.specs.Legal.{IsLegal, walks, continuations, last_of, moves_after}
use Rattle.search_model.specs.Bounds.{reward_of, greatest}
use Rattle.search_model.specs.Edge.{edge_reward_of, sum_moves, edge_sum, edge_of}
use Rattle.search_model.specs.Tracks.{value_of}
use Rattle.search_model.proofs.LegalLemmas.{last_within}
use Rattle.search_model.proofs.Greatest.{greatest-one, greatest-raised}
use Rattle.search_model.proofs.Children.{some_moves}
use Rattle.list_laws.proofs.Mapped.{map-map}
use Rattle.std.proofs.lemmas.List.{length-map}
use Rattle.list_laws.proofs.Agreeing.{map_agree}
use Rattle.longest_walk.proofs.Steps.{greatest_walks-suc, All-moves}
use Rattle.longest_walk.specs.Near.{IsNear}
use Rattle.edge_bound.specs.Moves.{greatest_moves, edge_and_later, through_of, HasGains, EdgeIsByMoves}

pub sum_moves-cons : (r : ℕ → ℕ → ℕ → ℕ) (t a b : ℕ) (y : List ℕ) → sum_moves r t a (b ∷ y) ≡ r t a b + sum_moves r (t + 1) b y
unfolding sum_moves
sum_moves-cons r t a b y = refl

-- no walk, no sum
pub greatest_moves-zero : (rows : List (List ℕ)) (r : ℕ → ℕ → ℕ → ℕ) (t a : ℕ) → greatest_moves rows r 0 t a ≡ 0
unfolding walks sum_moves
greatest_moves-zero rows r t a = greatest-one 0

module _ (p : Problem) (q : List ℕ) where
  -- a move of a position that the searcher can be on is one that it can be on a period later
  pub gain_there : (gains : List ℕ) (t a b : ℕ) → length q + 2 ≤ t → IsNear p.moves (t - 1 - length q) (last_of p.start q) a → Contains (moves_from p.moves a) b → HasGains p q t gains →
      slice_index gains b ≡ reward_of p q t b + greatest_moves p.moves (edge_reward_of p q) (p.horizon - t) (t + 1) b
  gain_there gains t a b later near move filled = filled b (suc (t - 1 - length q)) (omega (arith, later)) (inr (a, near, move))

  -- no sum follows a look in the last period
  pub gain_last : (u t b v : ℕ) → u ≡ p.horizon → t ≡ p.horizon → v ≡ reward_of p q u b → v ≡ reward_of p q t b + greatest_moves p.moves (edge_reward_of p q) (p.horizon - t) (t + 1) b
  gain_last u t b v at here is =
      let none : p.horizon - t ≡ 0 = omega (arith, here) in
      let same : u ≡ t = omega (arith, at, here) in
      rw (none, greatest_moves-zero p.moves (edge_reward_of p q) (t + 1) b) (omega (arith, rw same at is))

  -- the reward of a look in the period before t and the sum that follows it, by the number of its own period
  pub gain_back : (n t a v : ℕ) → n + 1 ≡ t → v ≡ reward_of p q (t - 1) a + greatest_moves p.moves (edge_reward_of p q) (p.horizon + 1 - t) t a →
      v ≡ reward_of p q n a + greatest_moves p.moves (edge_reward_of p q) (p.horizon - n) (n + 1) a
  gain_back n t a v next is =
      let before : t - 1 ≡ n = omega (arith, next) in
      let left : p.horizon + 1 - t ≡ p.horizon - n = omega (arith, next) in
      rw (next, ← left, ← before) is

  -- the sums of a period by those of the next one
  pub sums_before : (t a : ℕ) → IsProblem p → t ≤ p.horizon → a < p.positions →
      greatest_moves p.moves (edge_reward_of p q) (p.horizon + 1 - t) t a ≡
      greatest (map (edge_and_later p q t a) (moves_from p.moves a))
  sums_before t a sound last here =
      let r = edge_reward_of p q in
      let at : a < length p.moves = omega (arith, here, sound.grid_positions) in
      let long : p.horizon + 1 - t ≡ suc (p.horizon - t) = omega (arith, last) in
      rw long (greatest_walks-suc p.moves sound.grid (sum_moves r t a) (r t a) (λ b. sum_moves r (t + 1) b) (λ b y. sum_moves-cons r t a b y) (p.horizon - t) a at)

-- the reward of a look from a position next, and the greatest sum of edge rewards from there on
abbrev next_sum : Problem → List ℕ → ℕ → ℕ
next_sum p q b = reward_of p q (length q + 1) b + greatest_moves p.moves (edge_reward_of p q) (p.horizon - (length q + 1)) (length q + 2) b

module _ (p : Problem) (sound : IsProblem p) (q : List ℕ) where
  -- the greatest sum over all continuations, by way of the moves after the prefix
  sums_first : IsLegal p q → length q < p.horizon → greatest (map (edge_sum p q) (continuations p q)) ≡ greatest (map (next_sum p q) (moves_after p q))
  sums_first legal short =
      let r = edge_reward_of p q in
      let n = p.horizon - (length q + 1) in
      let a = last_of p.start q in
      let at : a < length p.moves = last_within p.moves sound.grid p.start (omega (arith, sound.start, sound.grid_positions)) q legal.follows in
      let long : p.horizon - length q ≡ suc n = omega (arith, short) in
      rw long
      (greatest_walks-suc p.moves sound.grid (edge_sum p q) (reward_of p q (length q + 1)) (λ b. sum_moves r (length q + 2) b) (λ b y. refl) n a at)

  -- and by the rewards of these moves with the sums that follow them
  pub gains_first : (gains : List ℕ) → IsLegal p q → length q < p.horizon → HasGains p q (length q + 1) gains →
      greatest (map (edge_sum p q) (continuations p q)) ≡ greatest (map (λ b. slice_index gains b) (moves_after p q))
  gains_first gains legal short filled =
      let g : ℕ → ℕ = λ b. slice_index gains b in
      let moves = moves_after p q in
      let two : length q + 1 + 1 ≡ length q + 2 = omega arith in
      sums_first legal short
      ∙ ap greatest (map_agree (next_sum p q) g moves
      (All-weaker (Contains moves) (λ b. next_sum p q b ≡ g b) (λ b move. sym (rw two at (filled b 1 refl (inr (last_of p.start q, refl, move))))) moves (All-contains_itself moves)))

  -- the edge bound by way of them
  edge_first : IsLegal p q → length q < p.horizon → edge_of p q ≡ greatest (map (through_of p q) (moves_after p q))
  edge_first legal short =
      let moves = moves_after p q in
      let some : 0 < length (map (next_sum p q) moves) = omega (arith, some_moves p q sound legal, length-map moves (next_sum p q)) in
      ap (λ n. value_of p q + n) (sums_first legal short)
      ∙ sym (greatest-raised (value_of p q) (map (next_sum p q) moves) some)
      ∙ ap greatest (map-map (λ n. value_of p q + n) (next_sum p q) moves)

  -- each move is a position
  pub move_there : (a i : ℕ) → a < length p.moves → i < length (moves_from p.moves a) → slice_index (moves_from p.moves a) i < p.positions
  move_there a i here short =
      All-get_or (λ b. b < p.positions) (moves_from p.moves a) i 0 short (All-moves p.moves sound.grid (λ b. b < p.positions) (λ b there. omega (arith, there, sound.grid_positions)) a here)

-- and one of the moves
pub listed_move : (p : Problem) (a i : ℕ) (moves : List ℕ) → moves ≡ moves_from p.moves a → i < length moves → Contains (moves_from p.moves a) (slice_index moves i)
listed_move p a i moves is inside = subst (λ xs. Contains xs (slice_index moves i)) is (Contains-get_or moves i 0 inside)

pub edge_by_moves : EdgeIsByMoves
edge_by_moves p q sound legal short = edge_first p sound q legal short
