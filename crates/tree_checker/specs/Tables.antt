-- When the tables of the bounds are right.
use Rattle.search_model.specs.Problem.{Problem}
use Rattle.tangent_bound.specs.Room.{AreTablesFor as AreTangentTablesFor}
use Rattle.ceiling_bound.specs.Ceilings.{AreCeilingsFor}
use Rattle.two_look_bound.specs.Rooms.{AreTablesFor as AreTwoLookTablesFor}
use Rattle.exchange_bound.specs.Exchanges.{IsMadeFor as AreExchangesFor}
use Rattle.tree_checker.specs.declared.tables.BoundTables.{BoundTables}

-- all tables were made for the scenario
pub record AreMadeFor (p : Problem) (tables : BoundTables) : Type 0 where
  pub ceilings_for : AreCeilingsFor p tables.ceilings
  pub tangent_for : AreTangentTablesFor p tables.tangent
  pub exchange_for : AreExchangesFor p tables.exchange
  pub two_looks_for : AreTwoLookTablesFor p tables.two_looks
