-- What contracts see of the tables of the mean bound, and when they are right.
use Rattle.std.specs.Prelude.{ℕ, ◌≡◌, ◌*◌, ◌<◌, List, length}
use Rattle.search_model.specs.Problem.{Problem}
use Rattle.search_model.specs.Legal.{last_of, IsLegal}
use Rattle.search_model.specs.Bounds.{reward_of}
use Rattle.longest_walk.specs.Near.{NearRow, AreNear}
use Rattle.longest_walk.specs.Tables.{Tables, IsFilledNear}
use Rattle.belief_update.specs.Levels.{LevelsState, AreLevelsOf}
use Rattle.mean_bound.specs.Rewards.{HasRewards}

-- the beliefs after a prefix and after each front of it, the rewards after the last prefix that was bounded, and the walks
-- of these rewards; and for each position the positions within reach of it
pub record MeanState : Type 0 where
  pub near : List NearRow
  pub levels : LevelsState
  pub rewards : List ℕ
  pub walk : Tables

-- the tables are for this scenario, and the beliefs that they keep are right in it
pub record IsMadeFor (p : Problem) (m : MeanState) : Type 0 where
  pub near : AreNear p.moves p.horizon m.near
  pub levels : AreLevelsOf p m.levels
  pub size : length m.rewards ≡ p.horizon * p.positions
  pub positions : m.walk.positions ≡ p.positions
  pub horizon : m.walk.horizon ≡ p.horizon

-- the beliefs are those after this prefix
abbrev pub IsAlong : List ℕ → MeanState → Type 0
IsAlong q m = m.levels.prefix ≡ q

-- the tables hold the rewards after this legal prefix, and the walks of these rewards from its last position
pub record IsFilledFor (p : Problem) (q : List ℕ) (m : MeanState) : Type 0 where
  pub legal : IsLegal p q
  pub short : length q < p.horizon
  pub rewarded : HasRewards p q m.rewards
  pub walked : IsFilledNear m.walk p.moves (reward_of p q) (last_of p.start q) (length q)
