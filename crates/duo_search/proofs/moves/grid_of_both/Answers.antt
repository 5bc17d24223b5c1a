use Rattle.std.proofs.Common.{ℕ, List, subst, sym}
use Rattle.search_grid.specs.Moves.{IsGrid}
use Rattle.duo_search.proofs.PairMoves.{grid_right}
use Rattle.duo_search.proofs.moves.grid_of_both.Goals as goal

pub of_right-requires : goal.of_right-requires
of_right-requires c =
    let G : List (List ℕ) → Type 0 = λ rows. IsGrid rows in
    subst G (sym c.in_ok-rows.ensures) (grid_right c.args.sc.now c.recall_sound.ensures c.requires)
