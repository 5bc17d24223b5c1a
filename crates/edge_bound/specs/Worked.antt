-- The edge bounds of small problems, worked by hand.
use Rattle.std.specs.Prelude.{◌≡◌, [], ◌∷◌}
use Rattle.search_model.specs.Edge.{edge_reward_of, edge_of}
use Rattle.search_model.specs.Worked.{one_cell, two_cells, waiting_target, waiting_longer}

-- the first look of all has its whole reward
pub record OneCellEdges : Type 0 where
  pub bound : edge_of one_cell [] ≡ 1

-- each second look finds half of what the first one left, so the bound of the empty prefix is the value of the best path
pub record TwoCellsEdges : Type 0 where
  pub rewards : (edge_reward_of two_cells [] 2 0 0 ≡ 4) × (edge_reward_of two_cells [] 2 0 1 ≡ 4) × (edge_reward_of two_cells [] 2 1 1 ≡ 4)
  pub bounds : (edge_of two_cells [] ≡ 12) × (edge_of two_cells (0 ∷ []) ≡ 12) × (edge_of two_cells (1 ∷ []) ≡ 12)

-- after a look at the target's cell a look finds half of what it finds after another one
pub record WaitingTargetEdges : Type 0 where
  pub rewards : (edge_reward_of waiting_target [] 2 1 2 ≡ 2) × (edge_reward_of waiting_target [] 2 2 2 ≡ 1)
  pub bounds : (edge_of waiting_target [] ≡ 3) × (edge_of waiting_target (0 ∷ []) ≡ 0) × (edge_of waiting_target (1 ∷ []) ≡ 2)

-- two looks at the target's cell one after the other are bounded as what they find, three of them by more
pub record WaitingLongerEdges : Type 0 where
  pub rewards : (edge_reward_of waiting_longer [] 3 1 2 ≡ 4) × (edge_reward_of waiting_longer [] 3 2 2 ≡ 2) × (edge_reward_of waiting_longer (2 ∷ []) 3 2 2 ≡ 1)
  pub bounds : (edge_of waiting_longer [] ≡ 8) × (edge_of waiting_longer (0 ∷ []) ≡ 4) × (edge_of waiting_longer (1 ∷ []) ≡ 6) × (edge_of waiting_longer (2 ∷ []) ≡ 7) × (edge_of waiting_longer (2 ∷ 2 ∷ []) ≡ 7)

pub record WorkedEdges : Type 0 where
  pub one : OneCellEdges
  pub two : TwoCellsEdges
  pub waiting : WaitingTargetEdges
  pub longer : WaitingLongerEdges
