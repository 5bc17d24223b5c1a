-- A small scenario, and what forces a prefix of it, worked by hand.
use Rattle.std.specs.Prelude.{ℕ, ◌≡◌, List, [], ◌∷◌, map}
use Rattle.std.specs.List.{range_with_len}
use Rattle.search_model.specs.Worked.{waiting_for}
use Rattle.residual_plan.specs.Forced.{source_of, forced_name, forced_names, forced_moves, forced_path}

-- three cells in a row over three periods: from the middle the searcher stays, and then flies to the last cell
abbrev pub flown : List ℕ
flown = 1 ∷ 2 ∷ []

-- `flown-0`, `flown-1`, and `flown-10`; the moves; what the positions stand for; and a path that ends in the middle
pub record WorkedForced : Type 0 where
  pub names : forced_names 1 ≡ (102 ∷ 108 ∷ 111 ∷ 119 ∷ 110 ∷ 45 ∷ 48 ∷ []) ∷ (102 ∷ 108 ∷ 111 ∷ 119 ∷ 110 ∷ 45 ∷ 49 ∷ []) ∷ []
  pub two_digits : forced_name 10 ≡ 102 ∷ 108 ∷ 111 ∷ 119 ∷ 110 ∷ 45 ∷ 49 ∷ 48 ∷ []
  pub moves : forced_moves (waiting_for 3) flown ≡ (0 ∷ 1 ∷ []) ∷ (0 ∷ 1 ∷ 2 ∷ []) ∷ (1 ∷ 2 ∷ []) ∷ (4 ∷ []) ∷ (5 ∷ []) ∷ (1 ∷ 2 ∷ []) ∷ []
  pub sources : map (source_of (waiting_for 3) flown) (range_with_len 0 6) ≡ 0 ∷ 1 ∷ 2 ∷ 1 ∷ 1 ∷ 2 ∷ []
  pub path : forced_path (waiting_for 3) flown (1 ∷ 2 ∷ 1 ∷ []) ≡ 4 ∷ 5 ∷ 1 ∷ []
