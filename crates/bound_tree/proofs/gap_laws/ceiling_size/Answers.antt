use Rattle.bound_tree.proofs.Ceilings.{ceiling_size, edge_ceiling_size_holds}
use Rattle.bound_tree.proofs.gap_laws.ceiling_size.Goals as goal

pub returns : goal.returns
returns c = record { size = ceiling_size; edges = edge_ceiling_size_holds }
