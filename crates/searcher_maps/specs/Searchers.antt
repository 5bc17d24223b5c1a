-- Another searcher for a scenario's target.
use Rattle.std.specs.Prelude.{◌≡◌, length}
use Rattle.search_model.specs.Problem.{Problem}
use Rattle.searcher_maps.specs.declared.searcher.Searcher.{Searcher}

-- a problem has this searcher: its positions, its start, its moves and its looks are the searcher's
pub record HasSearcher (searcher : Searcher) (p : Problem) : Type 0 where
  pub position_names : p.position_names ≡ searcher.positions.items
  pub positions : p.positions ≡ length searcher.grid
  pub start : p.start ≡ searcher.start
  pub moves : p.moves ≡ searcher.grid
  pub sweep : p.sweep ≡ searcher.sweep
