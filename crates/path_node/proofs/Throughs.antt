-- The edge bound of a prefix by way of its moves.
use Rattle.std.proofs.Common.{ℕ, ◌+◌, ◌-◌, ◌<◌, ◌≡◌, ◌^◌, List, map, length, inr, refl, ap, arith, slice_index, Contains}
use Rattle.list_laws.proofs.Members.{Contains-map}
use Rattle.search_model.specs.Problem.{Problem, IsProblem}
use Rattle.search_model.specs.Legal.{IsLegal, last_of, moves_after}
use Rattle.search_model.specs.Bounds.{reward_of}
use Rattle.search_model.specs.Edge.{edge_reward_of}
use Rattle.search_model.proofs.Greatest.{greatest_above}
use Rattle.search_model.proofs.LegalLemmas.{last_within, move_within}
use Rattle.search_model.proofs.RewardSizes.{weights-fit}
use Rattle.edge_bound.specs.Moves.{greatest_moves, through_of, HasGains}
use Rattle.edge_bound.proofs.Fitting.{edge_sums-within}
use Rattle.edge_bound.proofs.Walking.{edge_by_moves}

module _ (p : Problem) (q : List ℕ) (b : ℕ) (sound : IsProblem p) (legal : IsLegal p q) (short : length q < p.horizon) (step : Contains (moves_after p q) b) where
  -- a move is a position
  pub step_within : b < p.positions
  step_within =
      let last = last_within p.moves sound.grid p.start (omega (arith, sound.start, sound.grid_positions)) q legal.follows in
      omega (arith, move_within p.moves sound.grid (last_of p.start q) b last step, sound.grid_positions)

  -- what is reached by way of it is no more than the bound, which fits
  pub through-fits : through_of p q b < 2 ^ 127
  through-fits =
      let above = greatest_above (map (through_of p q) (moves_after p q)) (through_of p q b) (Contains-map (through_of p q) (moves_after p q) b step) in
      omega (arith, above, edge_by_moves p q sound legal short, edge_sums-within p sound q, weights-fit p sound (p.horizon - length q) (omega arith))

-- and the tables have it
pub through_by : (p : Problem) (q gains : List ℕ) (b gain value : ℕ) → HasGains p q (length q + 1) gains → Contains (moves_after p q) b → gain ≡ slice_index gains b →
    value + gain ≡ value + (reward_of p q (length q + 1) b + greatest_moves p.moves (edge_reward_of p q) (p.horizon - (length q + 1)) (length q + 2) b)
through_by p q gains b gain value filled step is =
    let two : length q + 1 + 1 ≡ length q + 2 = omega arith in
    rw (is, ← two) (ap (λ n. value + n) (filled b 1 refl (inr (last_of p.start q, refl, step))))
