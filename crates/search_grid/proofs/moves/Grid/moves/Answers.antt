use Rattle.std.proofs.Common.{◌≡◌, ◌<◌, length, map, [], ap, arith}
use Rattle.std.proofs.Math.ListN.{length-map}
use Rattle.std.proofs.lemmas.List.{get_or-map}
use Rattle.search_grid.specs.Moves.{moves_from}
use Rattle.search_grid.proofs.moves.Grid.moves.Goals as goal

pub returns-clause-value : goal.returns-clause-value
unfolding moves_from
returns-clause-value c =
    let rows = c.self.inside.rows.items in
    let is : map (λ row. row.items) rows ≡ c.args.self.now = c.self.view_is in
    let cell : c.args.c < length rows = omega (arith, c.requires, ap length is, length-map rows (λ row. row.items)) in
    rw (← c.self.view_is, get_or-map (λ row. row.items) rows c.args.c c.index.result.now [] cell, ← c.index.ensures) c.deref.ensures.value
