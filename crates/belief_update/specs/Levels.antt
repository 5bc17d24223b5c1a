-- Beliefs of the periods after a prefix, and after each shorter front of it.
use Rattle.std.specs.Prelude.{ℕ, ◌≡◌, ◌<◌, ◌≤◌, false, List, [], length, take, slice_index_or}
use Rattle.search_model.specs.Problem.{Problem}
use Rattle.belief_update.specs.Taken.{TakenState}
use Rattle.belief_update.specs.Flows.{FlowState, AreFlows}
use Rattle.belief_update.specs.Onward.{OnwardState, IsMadeBehind, IsOnward}

-- what contracts see: the prefix, per number of its looks the beliefs after so many, what the last looks took, and where
-- units of single cells go
pub record LevelsState : Type 0 where
  pub prefix : List ℕ
  pub levels : List OnwardState
  pub taken : TakenState
  pub flows : List FlowState

-- the beliefs that are kept after so many looks
abbrev pub level_at : List OnwardState → ℕ → OnwardState
level_at levels k = slice_index_or levels k (record { belief = record { period = 0; looked = false; masses = [] }; rows = []; value = 0 })

-- each is made for the periods after as many looks as those before it
abbrev pub AreRooms : Problem → List OnwardState → Type 0
AreRooms p levels = (k : ℕ) → k < length levels → IsMadeBehind p k (level_at levels k)

-- one level for each number of looks below the horizon; up to n looks they are those of a list of positions
pub record AreLevels (p : Problem) (q : List ℕ) (n : ℕ) (levels : List OnwardState) : Type 0 where
  pub size : length levels ≡ p.horizon
  pub made : AreRooms p levels
  pub after : (k : ℕ) → k ≤ n → k < p.horizon → IsOnward p (take k q) (level_at levels k)

-- the levels are those of the prefix, in this scenario
pub record AreLevelsOf (p : Problem) (l : LevelsState) : Type 0 where
  pub short : length l.prefix < p.horizon
  pub cells : length l.taken.masses ≡ p.cells
  pub levels : AreLevels p l.prefix (length l.prefix) l.levels
  pub flows : AreFlows p l.flows
