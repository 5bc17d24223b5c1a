-- What contracts see of the tables with which prefixes are closed.
use Rattle.std.specs.Prelude.{ℕ, ◌+◌, Bool, true, false, List, length}
use Rattle.search_model.specs.Problem.{Problem}
use Rattle.search_model.specs.Bounds.{IsRate}
use Rattle.mean_bound.specs.Means.{MeanState, IsAlong, IsMadeFor as IsMeanFor}
use Rattle.tangent_bound.specs.Room.{TangentRoom, AreTablesFor as AreTangentTablesFor}
use Rattle.edge_bound.specs.Moves.{HasGains}
use Rattle.edge_bound.specs.Edges.{EdgeRoom, AreTablesFor as AreEdgeTablesFor}
use Rattle.exchange_bound.specs.Exchanges.{ExchangeState, IsMadeFor as IsExchangeFor}
use Rattle.two_look_bound.specs.Rooms.{TwoLookRoom, AreTablesFor as AreTwoLookTablesFor}

-- the tables of the bounds
pub record NodeTables : Type 0 where
  pub mean : MeanState
  pub tangent : TangentRoom
  pub edge : EdgeRoom
  pub exchange : ExchangeState
  pub two_looks : TwoLookRoom

-- whether a problem has one rate
abbrev pub TellsRate : Problem → Bool → Type 0
TellsRate p true = (rate : ℕ) × IsRate p rate
TellsRate p false = (rate : ℕ) → ¬ IsRate p rate

-- the tables are for this scenario, and the beliefs that they keep are right in it
pub record IsMadeFor (p : Problem) (s : NodeTables) : Type 0 where
  pub mean : IsMeanFor p s.mean
  pub tangent : AreTangentTablesFor p s.tangent
  pub edge : AreEdgeTablesFor p s.edge
  pub exchange : IsExchangeFor p s.exchange
  pub two_looks : AreTwoLookTablesFor p s.two_looks

-- the tables are along this prefix, and have what looks from its moves reach
pub record LooksThrough (p : Problem) (q : List ℕ) (s : NodeTables) : Type 0 where
  pub along : IsAlong q s.mean
  pub gains : HasGains p q (length q + 1) s.edge.gains
