-- The masses of small problems.
use Rattle.std.specs.Prelude.{◌≡◌, [], ◌∷◌, Some, None, sum}
use Rattle.search_model.specs.Worked.{two_cells, waiting_longer}
use Rattle.belief_update.specs.Masses.{masses_of, looks_to}

-- a look finds all of its cell and scales the other one by 2, and the drift spreads each mass evenly
pub record TwoCellsMasses : Type 0 where
  pub start : masses_of two_cells (None ∷ []) ≡ 1 ∷ 1 ∷ []
  pub looked : masses_of two_cells (Some 0 ∷ []) ≡ 0 ∷ 2 ∷ []
  pub drifted : masses_of two_cells (Some 0 ∷ None ∷ []) ≡ 2 ∷ 2 ∷ []
  pub looked_again : masses_of two_cells (Some 0 ∷ Some 0 ∷ []) ≡ 0 ∷ 4 ∷ []
  pub undetected : sum (masses_of two_cells (Some 0 ∷ Some 0 ∷ [])) ≡ 4
  pub unlooked : masses_of two_cells (None ∷ Some 1 ∷ []) ≡ 4 ∷ 0 ∷ []

-- the target waits in the last cell, and each look there halves what is left of it
pub record WaitingLongerMasses : Type 0 where
  pub looked : masses_of waiting_longer (Some 1 ∷ Some 2 ∷ []) ≡ 0 ∷ 0 ∷ 2 ∷ []
  pub later : masses_of waiting_longer (looks_to 3 (2 ∷ [])) ≡ 0 ∷ 0 ∷ 1 ∷ []

pub record WorkedMasses : Type 0 where
  pub two : TwoCellsMasses
  pub longer : WaitingLongerMasses
