-- What contracts see of the tables of a tangent bound, and when they are right.
use Rattle.std.specs.Prelude.{ℕ, ◌≡◌, ◌↔◌, List, Option, Some}
use Rattle.search_model.specs.Problem.{Problem}
use Rattle.search_model.specs.Bounds.{IsRate}
use Rattle.belief_update.specs.Onward.{OnwardState, IsMadeFor as IsOnwardFor}
use Rattle.longest_walk.specs.Near.{NearRow, AreNear}

-- the numbers of cells, of positions and of periods that they were made for, and the rate of the looks, where they have one
pub record TangentRoom : Type 0 where
  pub cells : ℕ
  pub positions : ℕ
  pub horizon : ℕ
  pub rate : Option ℕ

-- the rate of a problem, where it has one
abbrev pub IsRateFound : Problem → Option ℕ → Type 0
IsRateFound p found = (rate : ℕ) → (found ≡ Some rate) ↔ IsRate p rate

-- as many cells, positions and periods as a problem has, and its rate
pub record AreTablesFor (p : Problem) (room : TangentRoom) : Type 0 where
  pub cells : room.cells ≡ p.cells
  pub positions : room.positions ≡ p.positions
  pub horizon : room.horizon ≡ p.horizon
  pub rate : IsRateFound p room.rate

-- the tables, for each position what is within reach of it, and the beliefs of the periods after the last prefix
pub record TangentState : Type 0 where
  pub near : List NearRow
  pub onward : OnwardState
  pub tables : TangentRoom

-- they were made for this scenario
pub record IsMadeFor (p : Problem) (s : TangentState) : Type 0 where
  pub near : AreNear p.moves p.horizon s.near
  pub onward : IsOnwardFor p s.onward
  pub tables : AreTablesFor p s.tables
