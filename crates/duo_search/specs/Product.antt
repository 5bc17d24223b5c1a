-- Two searchers who move and look in each period, independently given the track, and the one searcher of the product
-- problem whose position says where both are.
use Rattle.std.specs.Prelude.{ℕ, ◌≡◌, ◌+◌, ◌-◌, ◌*◌, ◌/◌, ◌%◌, ◌^◌, ◌<◌, ◌≤◌, List, [], ◌∷◌, ◌++◌, map}
use Rattle.std.specs.Fmt.{decimal}
use Rattle.std.specs.List.{flat_map, range_with_len}
use Rattle.search_grid.specs.Moves.{moves_from}
use Rattle.sweep_table.specs.LookParts.{factor_of}
use Rattle.search_model.specs.Problem.{Problem}
use Rattle.searcher_maps.specs.Target.{HasSameTarget}
use Rattle.searcher_maps.specs.Stands.{missed_together}

-- what two paths find together: the whole weight, over looks in parts of the squared denominator, but for what both miss
abbrev pub pair_value : Problem → List ℕ → List ℕ → ℕ
pair_value p a b = p.total * p.drift.denominator ^ (p.horizon - 1) * p.sweep.denominator ^ (2 * p.horizon) - missed_together p (a ∷ b ∷ [])

-- the number of the position that says that the first is at i and the second at j, out of so many positions of each
abbrev pub both_at : ℕ → ℕ → ℕ → ℕ
both_at positions i j = i * positions + j

-- where the first is, and where the second is, as such a number says
abbrev pub first_at : ℕ → ℕ → ℕ
first_at positions n = n / positions

abbrev pub second_at : ℕ → ℕ → ℕ
second_at positions n = n % positions

-- its name: `p`, where the first is, `-`, where the second is
abbrev pub product_name : ℕ → ℕ → List ℕ
product_name i j = 112 ∷ (decimal i ++ 45 ∷ decimal j)

-- the names of all these positions, by number
abbrev pub product_names : ℕ → List (List ℕ)
product_names positions = map (λ n. product_name (first_at positions n) (second_at positions n)) (range_with_len 0 (positions * positions))

-- each of some moves of the first with each of some moves of the second, in ascending order where these are
abbrev pub all_pairs : ℕ → List ℕ → List ℕ → List ℕ
all_pairs positions firsts seconds = flat_map (λ i. map (both_at positions i) seconds) firsts

-- the moves of both: all pairs of a move of the first and a move of the second
unfoldable pub product_moves : Problem → ℕ → List ℕ
product_moves p n = all_pairs p.positions (moves_from p.moves (first_at p.positions n)) (moves_from p.moves (second_at p.positions n))

-- what the looks of both miss together of a target in cell c
unfoldable pub product_factor : Problem → ℕ → ℕ → ℕ → ℕ
product_factor p t n c = factor_of p.sweep t (first_at p.positions n) c * factor_of p.sweep t (second_at p.positions n) c

-- q is the product problem of p, in which the second searcher starts at the given position
pub record IsProduct (p : Problem) (second : ℕ) (q : Problem) : Type 0 where
  pub target : HasSameTarget p q
  pub positions : q.positions ≡ p.positions * p.positions
  pub position_names : q.position_names ≡ product_names p.positions
  pub start : q.start ≡ both_at p.positions p.start second
  pub moves : (n : ℕ) → n < p.positions * p.positions → moves_from q.moves n ≡ product_moves p n
  pub denominator : q.sweep.denominator ≡ p.sweep.denominator * p.sweep.denominator
  pub looks : (t n c : ℕ) → 1 ≤ t → t ≤ p.horizon → n < p.positions * p.positions → c < p.cells → factor_of q.sweep t n c ≡ product_factor p t n c
