use Rattle.tree_format.proofs.Tables.{kinds_by_table}
use Rattle.tree_format.proofs.laws.kinds_by_table.Goals as goal

pub returns : goal.returns
returns c = kinds_by_table
