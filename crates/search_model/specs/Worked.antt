-- Small problems, and what the definitions make of them.
use Rattle.std.specs.Prelude.{ℕ, ◌≡◌, [], ◌∷◌, map}
use Rattle.period_rows.specs.declared.part.CellPart.{CellPart}
use Rattle.drift_chain.specs.DriftRows.{drift_over}
use Rattle.sweep_table.specs.LookParts.{parts_over}
use Rattle.search_model.specs.Problem.{Problem, IsProblem}
use Rattle.search_model.specs.Legal.{continuations}
use Rattle.search_model.specs.Tracks.{tracks, weight_of, miss_of, whole_weight, missed_weight, value_of}
use Rattle.search_model.specs.Order.{IsBest}

-- an entry of a drift row
abbrev pub goes_to : ℕ → ℕ → CellPart
goes_to c part = record { cell = c; part = part }

-- one cell, one period: a look misses 1 of 2
abbrev pub one_cell : Problem
one_cell = record {
  names = (97 ∷ []) ∷ [];
  position_names = (97 ∷ []) ∷ [];
  cells = 1;
  positions = 1;
  horizon = 1;
  start = 0;
  total = 1;
  first = 1 ∷ [];
  moves = (0 ∷ []) ∷ [];
  drift = drift_over 1 ((goes_to 0 1 ∷ []) ∷ []);
  sweep = parts_over 2 (1 ∷ []);
}

-- two cells, two periods: no look at the target's cell misses, and each step goes to either cell alike
abbrev pub two_cells : Problem
two_cells = record {
  names = (97 ∷ []) ∷ (98 ∷ []) ∷ [];
  position_names = (97 ∷ []) ∷ (98 ∷ []) ∷ [];
  cells = 2;
  positions = 2;
  horizon = 2;
  start = 0;
  total = 2;
  first = 1 ∷ 1 ∷ [];
  moves = (0 ∷ 1 ∷ []) ∷ (0 ∷ 1 ∷ []) ∷ [];
  drift = drift_over 2 ((goes_to 0 1 ∷ goes_to 1 1 ∷ []) ∷ (goes_to 0 1 ∷ goes_to 1 1 ∷ []) ∷ []);
  sweep = parts_over 2 (0 ∷ 0 ∷ []);
}

-- three cells in a row, and a target that stays in the last one: the searcher starts in the middle, a look misses 1 of 2
abbrev pub waiting_for : ℕ → Problem
waiting_for periods = record {
  names = (97 ∷ []) ∷ (98 ∷ []) ∷ (99 ∷ []) ∷ [];
  position_names = (97 ∷ []) ∷ (98 ∷ []) ∷ (99 ∷ []) ∷ [];
  cells = 3;
  positions = 3;
  horizon = periods;
  start = 1;
  total = 1;
  first = 0 ∷ 0 ∷ 1 ∷ [];
  moves = (0 ∷ 1 ∷ []) ∷ (0 ∷ 1 ∷ 2 ∷ []) ∷ (1 ∷ 2 ∷ []) ∷ [];
  drift = drift_over 1 ((goes_to 0 1 ∷ []) ∷ (goes_to 1 1 ∷ []) ∷ (goes_to 2 1 ∷ []) ∷ []);
  sweep = parts_over 2 (1 ∷ 1 ∷ 1 ∷ []);
}

abbrev pub waiting_target : Problem
waiting_target = waiting_for 2

abbrev pub waiting_longer : Problem
waiting_longer = waiting_for 3

-- the one path finds the target in 1 of 2
pub record OneCellValues : Type 0 where
  pub sound : IsProblem one_cell
  pub whole : whole_weight one_cell ≡ 2
  pub weights : map (weight_of one_cell) (tracks 1 1) ≡ 1 ∷ []
  pub misses : (miss_of one_cell [] (0 ∷ []) ≡ 2) × (miss_of one_cell (0 ∷ []) (0 ∷ []) ≡ 1)
  pub paths : continuations one_cell [] ≡ (0 ∷ []) ∷ []
  pub missed : map (missed_weight one_cell) ([] ∷ (0 ∷ []) ∷ []) ≡ 2 ∷ 1 ∷ []
  pub values : map (value_of one_cell) ([] ∷ (0 ∷ []) ∷ []) ≡ 0 ∷ 1 ∷ []
  pub best : IsBest one_cell (0 ∷ [])

-- each look finds half of what is left, so all paths find 12 of 16, and the smallest one is best
pub record TwoCellsValues : Type 0 where
  pub sound : IsProblem two_cells
  pub whole : whole_weight two_cells ≡ 16
  pub all_tracks : tracks 2 2 ≡ (0 ∷ 0 ∷ []) ∷ (0 ∷ 1 ∷ []) ∷ (1 ∷ 0 ∷ []) ∷ (1 ∷ 1 ∷ []) ∷ []
  pub weights : map (weight_of two_cells) (tracks 2 2) ≡ 1 ∷ 1 ∷ 1 ∷ 1 ∷ []
  pub misses : map (miss_of two_cells (0 ∷ 1 ∷ [])) (tracks 2 2) ≡ 0 ∷ 0 ∷ 4 ∷ 0 ∷ []
  pub misses_of_prefix : map (miss_of two_cells (0 ∷ [])) (tracks 2 2) ≡ 0 ∷ 0 ∷ 4 ∷ 4 ∷ []
  pub paths : continuations two_cells [] ≡ (0 ∷ 0 ∷ []) ∷ (0 ∷ 1 ∷ []) ∷ (1 ∷ 0 ∷ []) ∷ (1 ∷ 1 ∷ []) ∷ []
  pub missed : map (missed_weight two_cells) (continuations two_cells []) ≡ 4 ∷ 4 ∷ 4 ∷ 4 ∷ []
  pub values : map (value_of two_cells) (continuations two_cells []) ≡ 12 ∷ 12 ∷ 12 ∷ 12 ∷ []
  pub prefix_values : map (value_of two_cells) ([] ∷ (0 ∷ []) ∷ (1 ∷ []) ∷ []) ≡ 0 ∷ 8 ∷ 8 ∷ []
  pub best : IsBest two_cells (0 ∷ 0 ∷ [])

-- the path that goes to the target's cell and stays finds 3 of 4
pub record WaitingTargetValues : Type 0 where
  pub sound : IsProblem waiting_target
  pub whole : whole_weight waiting_target ≡ 4
  pub weights : map (weight_of waiting_target) (tracks 3 2) ≡ 0 ∷ 0 ∷ 0 ∷ 0 ∷ 0 ∷ 0 ∷ 0 ∷ 0 ∷ 1 ∷ []
  pub misses : map (λ q. miss_of waiting_target q (2 ∷ 2 ∷ [])) ((1 ∷ []) ∷ (2 ∷ []) ∷ (1 ∷ 2 ∷ []) ∷ (2 ∷ 2 ∷ []) ∷ []) ≡ 4 ∷ 2 ∷ 2 ∷ 1 ∷ []
  pub paths : continuations waiting_target [] ≡ (0 ∷ 0 ∷ []) ∷ (0 ∷ 1 ∷ []) ∷ (1 ∷ 0 ∷ []) ∷ (1 ∷ 1 ∷ []) ∷ (1 ∷ 2 ∷ []) ∷ (2 ∷ 1 ∷ []) ∷ (2 ∷ 2 ∷ []) ∷ []
  pub missed : map (missed_weight waiting_target) (continuations waiting_target []) ≡ 4 ∷ 4 ∷ 4 ∷ 4 ∷ 2 ∷ 2 ∷ 1 ∷ []
  pub values : map (value_of waiting_target) (continuations waiting_target []) ≡ 0 ∷ 0 ∷ 0 ∷ 0 ∷ 2 ∷ 2 ∷ 3 ∷ []
  pub prefix_values : map (value_of waiting_target) ([] ∷ (0 ∷ []) ∷ (1 ∷ []) ∷ (2 ∷ []) ∷ []) ≡ 0 ∷ 0 ∷ 0 ∷ 2 ∷ []
  pub best : IsBest waiting_target (2 ∷ 2 ∷ [])

-- with one period more it finds 7 of 8
pub record WaitingLongerValues : Type 0 where
  pub sound : IsProblem waiting_longer
  pub whole : whole_weight waiting_longer ≡ 8
  pub weights : map (weight_of waiting_longer) ((2 ∷ 2 ∷ 2 ∷ []) ∷ (2 ∷ 2 ∷ 1 ∷ []) ∷ (0 ∷ 0 ∷ 0 ∷ []) ∷ []) ≡ 1 ∷ 0 ∷ 0 ∷ []
  pub misses : map (λ q. miss_of waiting_longer q (2 ∷ 2 ∷ 2 ∷ [])) ((0 ∷ []) ∷ (2 ∷ 1 ∷ []) ∷ (2 ∷ 2 ∷ 1 ∷ []) ∷ (2 ∷ 2 ∷ 2 ∷ []) ∷ []) ≡ 8 ∷ 4 ∷ 2 ∷ 1 ∷ []
  pub paths_on : continuations waiting_longer (2 ∷ []) ≡ (1 ∷ 0 ∷ []) ∷ (1 ∷ 1 ∷ []) ∷ (1 ∷ 2 ∷ []) ∷ (2 ∷ 1 ∷ []) ∷ (2 ∷ 2 ∷ []) ∷ []
  pub missed : map (missed_weight waiting_longer) (continuations waiting_longer []) ≡ 8 ∷ 8 ∷ 8 ∷ 8 ∷ 4 ∷ 8 ∷ 8 ∷ 8 ∷ 8 ∷ 4 ∷ 4 ∷ 2 ∷ 4 ∷ 4 ∷ 2 ∷ 2 ∷ 1 ∷ []
  pub values : map (value_of waiting_longer) (continuations waiting_longer []) ≡ 0 ∷ 0 ∷ 0 ∷ 0 ∷ 4 ∷ 0 ∷ 0 ∷ 0 ∷ 0 ∷ 4 ∷ 4 ∷ 6 ∷ 4 ∷ 4 ∷ 6 ∷ 6 ∷ 7 ∷ []
  pub prefix_values : map (value_of waiting_longer) ((0 ∷ []) ∷ (1 ∷ []) ∷ (2 ∷ []) ∷ (2 ∷ 1 ∷ []) ∷ (2 ∷ 2 ∷ []) ∷ []) ≡ 0 ∷ 0 ∷ 4 ∷ 4 ∷ 6 ∷ []
  pub path_values : map (value_of waiting_longer) ((1 ∷ 2 ∷ 2 ∷ []) ∷ (2 ∷ 2 ∷ 1 ∷ []) ∷ (2 ∷ 2 ∷ 2 ∷ []) ∷ []) ≡ 6 ∷ 6 ∷ 7 ∷ []
  pub best : IsBest waiting_longer (2 ∷ 2 ∷ 2 ∷ [])

pub record WorkedValues : Type 0 where
  pub one : OneCellValues
  pub two : TwoCellsValues
  pub waiting : WaitingTargetValues
  pub longer : WaitingLongerValues
