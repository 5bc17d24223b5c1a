-- Walks over the moves of the small problems, worked by hand.
use Rattle.std.specs.Prelude.{ℕ, ◌≡◌, List, [], ◌∷◌}
use Rattle.search_model.specs.Worked.{one_cell, waiting_target}
use Rattle.longest_walk.specs.Sums.{entry_at, highest_sum}
use Rattle.search_model.specs.Reference.{greatest_sum, IsLeastBest}

-- two periods over three cells, with a reward of 2 for each look at the last one
abbrev pub last_cell_rewards : List ℕ
last_cell_rewards = 0 ∷ 0 ∷ 2 ∷ 0 ∷ 0 ∷ 2 ∷ []

-- two periods over three cells, with no reward
abbrev pub no_rewards : List ℕ
no_rewards = 0 ∷ 0 ∷ 0 ∷ 0 ∷ 0 ∷ 0 ∷ []

-- from the middle the walk that goes to the last cell and stays has 4, and after a look at the first cell nothing is left
pub record LastCellWalks : Type 0 where
  pub greatest : greatest_sum waiting_target.moves (entry_at 3 last_cell_rewards) 2 1 1 ≡ 4
  pub least : IsLeastBest waiting_target.moves (entry_at 3 last_cell_rewards) 2 1 1 (2 ∷ 2 ∷ [])
  pub after_the_first : greatest_sum waiting_target.moves (entry_at 3 last_cell_rewards) 1 2 0 ≡ 0
  pub after_the_middle : greatest_sum waiting_target.moves (entry_at 3 last_cell_rewards) 1 2 1 ≡ 2
  pub highest : highest_sum 3 (entry_at 3 last_cell_rewards) 2 1 ≡ 4

-- with no reward all walks have 0, and the smallest of them is the least
pub record NoRewardWalks : Type 0 where
  pub greatest : greatest_sum waiting_target.moves (entry_at 3 no_rewards) 2 1 1 ≡ 0
  pub least : IsLeastBest waiting_target.moves (entry_at 3 no_rewards) 2 1 1 (0 ∷ 0 ∷ [])

-- over one cell there is one walk
pub record OneCellWalks : Type 0 where
  pub greatest : greatest_sum one_cell.moves (entry_at 1 (7 ∷ [])) 1 1 0 ≡ 7
  pub least : IsLeastBest one_cell.moves (entry_at 1 (7 ∷ [])) 1 1 0 (0 ∷ [])

pub record WorkedWalks : Type 0 where
  pub last_cell : LastCellWalks
  pub no_reward : NoRewardWalks
  pub one_cell : OneCellWalks
