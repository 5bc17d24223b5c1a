-- The rewards after a prefix, in one list with a row of positions for each period.
use Rattle.std.specs.Prelude.{ℕ, ◌+◌, ◌*◌, ◌-◌, ◌^◌, List, length}
use Rattle.search_model.specs.Problem.{Problem}
use Rattle.search_model.specs.Legal.{last_of}
use Rattle.search_model.specs.Bounds.{reward_of}
use Rattle.longest_walk.specs.Tables.{HasNear}
use Rattle.belief_update.specs.Found.{found_of}

-- the reward of a look from position a in period t, after k looks and its own, where each cell has some mass in that period
abbrev pub reward_by : Problem → ℕ → ℕ → (ℕ → ℕ) → ℕ → ℕ
reward_by p k t mass a = found_of p t a mass * (p.drift.denominator ^ (p.horizon - t) * p.sweep.denominator ^ (p.horizon - (k + 1)))

-- the rewards of the periods after the prefix, up to a last one, for the positions that the searcher can be on then
abbrev pub HasRewardsTo : Problem → List ℕ → ℕ → List ℕ → Type 0
HasRewardsTo p q last rewards = HasNear p.moves p.positions last (reward_of p q) (last_of p.start q) (length q) rewards

-- those of all periods after the prefix
abbrev pub HasRewards : Problem → List ℕ → List ℕ → Type 0
HasRewards p q rewards = HasRewardsTo p q p.horizon rewards
