-- The masses of the small problems.
use Rattle.std.specs.Prelude.{◌≡◌, [], ◌∷◌, map}
use Rattle.search_model.specs.Worked.{two_cells, waiting_longer}
use Rattle.search_model.specs.Following.{forward_of}
use Rattle.backward_mass.specs.Masses.{backward_of}

-- in each period the products of forward and backward masses sum to the missed weight, 4
pub record TwoCellsMasses : Type 0 where
  pub backward : map (backward_of two_cells (0 ∷ 0 ∷ []) 1) (0 ∷ 1 ∷ []) ≡ 2 ∷ 2 ∷ []
  pub backward_last : map (backward_of two_cells (0 ∷ 0 ∷ []) 2) (0 ∷ 1 ∷ []) ≡ 1 ∷ 1 ∷ []
  pub forward : map (forward_of two_cells (0 ∷ []) 1) (0 ∷ 1 ∷ []) ≡ 0 ∷ 2 ∷ []
  pub forward_last : map (forward_of two_cells (0 ∷ 0 ∷ []) 2) (0 ∷ 1 ∷ []) ≡ 0 ∷ 4 ∷ []

-- the target waits in cell 2, where the first of these looks misses all of it and the others miss 1 of 2
pub record WaitingLongerMasses : Type 0 where
  pub backward : map (backward_of waiting_longer (1 ∷ 2 ∷ 2 ∷ []) 1) (0 ∷ 1 ∷ 2 ∷ []) ≡ 4 ∷ 4 ∷ 1 ∷ []
  pub backward_then : map (backward_of waiting_longer (1 ∷ 2 ∷ 2 ∷ []) 2) (0 ∷ 1 ∷ 2 ∷ []) ≡ 2 ∷ 2 ∷ 1 ∷ []
  pub backward_last : map (backward_of waiting_longer (1 ∷ 2 ∷ 2 ∷ []) 3) (0 ∷ 1 ∷ 2 ∷ []) ≡ 1 ∷ 1 ∷ 1 ∷ []
  pub forward_then : map (forward_of waiting_longer (1 ∷ 2 ∷ []) 2) (0 ∷ 1 ∷ 2 ∷ []) ≡ 0 ∷ 0 ∷ 2 ∷ []

pub record WorkedMasses : Type 0 where
  pub two : TwoCellsMasses
  pub longer : WaitingLongerMasses
