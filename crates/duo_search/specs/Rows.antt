-- The parts of the product problem's searcher, by number of position.
use Rattle.std.specs.Prelude.{ℕ, ◌≡◌, ◌*◌, ◌<◌, ◌≤◌, nat_lt, List, map, filter}
use Rattle.std.specs.List.{range_with_len}
use Rattle.period_rows.specs.declared.part.CellPart.{CellPart}
use Rattle.sweep_table.specs.LookParts.{LookParts, positions_of, cells_of, factor_of, misses}
use Rattle.search_model.specs.Problem.{Problem}
use Rattle.searcher_maps.specs.declared.searcher.Searcher.{Searcher}
use Rattle.duo_search.specs.Product.{both_at, product_names, product_moves, product_factor}

-- the moves of all positions
abbrev pub product_rows : Problem → List (List ℕ)
product_rows p = map (product_moves p) (range_with_len 0 (p.positions * p.positions))

-- an entry for each cell of which the looks of both don't miss all
unfoldable pub product_look : Problem → ℕ → ℕ → List CellPart
product_look p t n =
    map (λ c. misses c (product_factor p t n c)) (filter (λ c. nat_lt (product_factor p t n c) (p.sweep.denominator * p.sweep.denominator)) (range_with_len 0 p.cells))

-- such a row for each position
abbrev pub product_looks : Problem → ℕ → List (List CellPart)
product_looks p t = map (product_look p t) (range_with_len 0 (p.positions * p.positions))

-- what is made of the looks
pub record HasProductLooks (p : Problem) (sweep : LookParts) : Type 0 where
  pub denominator : sweep.denominator ≡ p.sweep.denominator * p.sweep.denominator
  pub cells : cells_of sweep ≡ p.cells
  pub positions : positions_of sweep ≡ p.positions * p.positions
  pub factors : (t n c : ℕ) → 1 ≤ t → t ≤ p.horizon → n < p.positions * p.positions → c < p.cells → factor_of sweep t n c ≡ product_factor p t n c

-- the searcher who stands for both
pub record StandsForBoth (p : Problem) (second : ℕ) (searcher : Searcher) : Type 0 where
  pub names : searcher.positions.items ≡ product_names p.positions
  pub start : searcher.start ≡ both_at p.positions p.start second
  pub grid : searcher.grid ≡ product_rows p
  pub looks : HasProductLooks p searcher.sweep
