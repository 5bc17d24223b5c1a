use Rattle.search_grid.proofs.Beside.{IsGrid-from_sides}
use Rattle.search_grid.proofs.moves.Grid.four_neighbour.Goals as goal

pub invariant_of-result : goal.invariant_of-result
invariant_of-result c = rw (c.in_ok-rows.ensures.made) (IsGrid-from_sides c.args.rows c.args.columns c.requires.some_row c.requires.some_column c.requires.few)

pub returns-clause-sound : goal.returns-clause-sound
returns-clause-sound c = rw (c.in_ok-rows.ensures.made) (IsGrid-from_sides c.args.rows c.args.columns c.requires.some_row c.requires.some_column c.requires.few)
