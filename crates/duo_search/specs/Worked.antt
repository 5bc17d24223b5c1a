-- Pairs of paths in small problems, and what the definitions make of them.
use Rattle.std.specs.Prelude.{◌≡◌, [], ◌∷◌, map}
use Rattle.search_model.specs.Worked.{one_cell, two_cells, waiting_target}
use Rattle.duo_search.specs.Product.{pair_value, product_name, product_moves, product_factor}
use Rattle.duo_search.specs.Pairs.{paired, firsts_of, seconds_of}

-- two who look at the one cell find 3 of 4; while the first stays at one of two cells, a second who stays with it finds 48
-- of 64 with it, and one who is elsewhere once finds the target
pub record WorkedPairs : Type 0 where
  pub one : pair_value one_cell (0 ∷ []) (0 ∷ []) ≡ 3
  pub two : map (pair_value two_cells (0 ∷ 0 ∷ [])) ((0 ∷ 0 ∷ []) ∷ (0 ∷ 1 ∷ []) ∷ (1 ∷ 0 ∷ []) ∷ (1 ∷ 1 ∷ []) ∷ []) ≡ 48 ∷ 64 ∷ 64 ∷ 64 ∷ []
  pub names : map (product_name 10) (3 ∷ 12 ∷ []) ≡ (112 ∷ 49 ∷ 48 ∷ 45 ∷ 51 ∷ []) ∷ (112 ∷ 49 ∷ 48 ∷ 45 ∷ 49 ∷ 50 ∷ []) ∷ []
  pub moves : product_moves waiting_target 5 ≡ 1 ∷ 2 ∷ 4 ∷ 5 ∷ 7 ∷ 8 ∷ []
  pub factors : map (product_factor waiting_target 1 5) (0 ∷ 1 ∷ 2 ∷ []) ≡ 4 ∷ 2 ∷ 2 ∷ []
  pub path : paired 3 (1 ∷ 2 ∷ []) (2 ∷ 2 ∷ []) ≡ 5 ∷ 8 ∷ []
  pub says : (firsts_of 3 (5 ∷ 8 ∷ []) ≡ 1 ∷ 2 ∷ []) × (seconds_of 3 (5 ∷ 8 ∷ []) ≡ 2 ∷ 2 ∷ [])
