-- What contracts see of the tables of the edge bound, and when they are right.
use Rattle.std.specs.Prelude.{ℕ, ◌≡◌, List, length}
use Rattle.search_model.specs.Problem.{Problem}
use Rattle.belief_update.specs.Onward.{OnwardState, IsMadeFor as IsOnwardFor}
use Rattle.longest_walk.specs.Near.{NearRow, AreNear}
use Rattle.edge_bound.specs.Units.{UnitTable, HasUnits}

-- what looks find of units, the rewards of looks in one period with none just before them, each with the sum that follows it,
-- room for those of the period before it, and what one look before finds in each of its cells
pub record EdgeRoom : Type 0 where
  pub units : UnitTable
  pub gains : List ℕ
  pub earlier : List ℕ
  pub shares : List ℕ

-- these tables were made for this scenario
pub record AreTablesFor (p : Problem) (e : EdgeRoom) : Type 0 where
  pub units : HasUnits p e.units
  pub gains : length e.gains ≡ p.positions
  pub earlier : length e.earlier ≡ p.positions
  pub shares : length e.shares ≡ p.cells

-- for each position what is within reach of it, the beliefs of the periods after the last prefix, and the tables
pub record EdgeState : Type 0 where
  pub near : List NearRow
  pub onward : OnwardState
  pub tables : EdgeRoom

-- all of them were made for this scenario
pub record IsMadeFor (p : Problem) (e : EdgeState) : Type 0 where
  pub near : AreNear p.moves p.horizon e.near
  pub onward : IsOnwardFor p e.onward
  pub tables : AreTablesFor p e.tables
