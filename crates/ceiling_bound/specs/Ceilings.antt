-- When the tables of the ceilings are right.
use Rattle.search_model.specs.Problem.{Problem}
use Rattle.mean_bound.specs.Means.{IsMadeFor as IsMeanFor}
use Rattle.edge_bound.specs.Edges.{AreTablesFor as AreEdgeTablesFor}
use Rattle.ceiling_bound.specs.declared.ceilings.Ceilings.{Ceilings}

-- both tables were made for the scenario
pub record AreCeilingsFor (p : Problem) (ceilings : Ceilings) : Type 0 where
  pub mean_for : IsMeanFor p ceilings.mean
  pub edge_for : AreEdgeTablesFor p ceilings.edge
