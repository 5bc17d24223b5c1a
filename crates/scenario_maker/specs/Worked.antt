-- What is drawn for some numbers.
use Rattle.std.specs.Prelude.{ℕ, ◌≡◌, ◌-◌, ◌/◌, ◌^◌, List, [], ◌∷◌, length, slice_index_or}
use Rattle.scenario_maker.specs.Generator.{next}
use Rattle.search_model.specs.Grids.{grid_names}
use Rattle.scenario_maker.specs.Made.{draws_of, start_of, part_cells, counts_of, spread_of, overlook_of}

-- the start, the first distribution, the spread and the overlook part of a number
pub record Gives (number start : ℕ) (first : List ℕ) (spread overlook : ℕ) : Type 0 where
  pub starts : start_of number ≡ start
  pub firsts : counts_of 25 (part_cells number) ≡ first
  pub spreads : spread_of number ≡ spread
  pub overlooks : overlook_of number ≡ overlook

-- the first step from 0, and what the least and the greatest numbers give; the start of 0 is `r1c2`
pub record WorkedDraws : Type 0 where
  pub step : next 0 ≡ 1442695040888963407
  pub shifted : next 0 / 2 ^ 33 ≡ 167951807
  pub draws : length (draws_of 0) ≡ 63
  pub start : slice_index_or (grid_names 5 5) (start_of 0) [] ≡ 114 ∷ 49 ∷ 99 ∷ 50 ∷ []
  pub zero : Gives 0 7 (4 ∷ 2 ∷ 0 ∷ 2 ∷ 2 ∷ 1 ∷ 1 ∷ 6 ∷ 2 ∷ 4 ∷ 1 ∷ 3 ∷ 2 ∷ 3 ∷ 4 ∷ 1 ∷ 5 ∷ 4 ∷ 0 ∷ 2 ∷ 3 ∷ 1 ∷ 2 ∷ 0 ∷ 5 ∷ []) 3 2
  pub one : Gives 1 24 (3 ∷ 2 ∷ 4 ∷ 3 ∷ 1 ∷ 5 ∷ 0 ∷ 5 ∷ 3 ∷ 3 ∷ 2 ∷ 4 ∷ 1 ∷ 2 ∷ 2 ∷ 2 ∷ 1 ∷ 0 ∷ 2 ∷ 5 ∷ 3 ∷ 3 ∷ 3 ∷ 1 ∷ 0 ∷ []) 1 1
  pub middle : Gives (2 ^ 63) 6 (5 ∷ 2 ∷ 0 ∷ 2 ∷ 2 ∷ 1 ∷ 6 ∷ 2 ∷ 4 ∷ 1 ∷ 4 ∷ 0 ∷ 2 ∷ 4 ∷ 1 ∷ 4 ∷ 4 ∷ 3 ∷ 2 ∷ 2 ∷ 1 ∷ 2 ∷ 1 ∷ 3 ∷ 2 ∷ []) 2 2
  pub greatest : Gives (2 ^ 64 - 1) 13 (2 ∷ 5 ∷ 5 ∷ 3 ∷ 1 ∷ 2 ∷ 2 ∷ 3 ∷ 4 ∷ 1 ∷ 4 ∷ 0 ∷ 8 ∷ 1 ∷ 1 ∷ 5 ∷ 3 ∷ 2 ∷ 1 ∷ 0 ∷ 0 ∷ 2 ∷ 4 ∷ 0 ∷ 1 ∷ []) 3 4
