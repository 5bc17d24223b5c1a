-- The drift rows that a line `spread` gives, cell by cell.
use Rattle.std.proofs.Common.{◌≡◌, ℕ, ◌+◌, ◌<◌, List, [], ◌∷◌, ◌++◌, map, length, get_or, sym, ap, ◌∙◌, arith}
use Rattle.std.specs.List.{range_with_len}
use Rattle.std.proofs.lemmas.List.FromFn.{map-range_with_len_more}
use Rattle.search_grid.specs.Moves.{moves_from}
use Rattle.search_grid.proofs.MoveRows.{moves_from-map}
use Rattle.search_model.specs.Grids.{spread_row}

-- the row of the next cell
pub spread_next : {R : Type 0} (items : R → List ℕ) (denominator part c : ℕ) (rows : List R) (row : R) → c < length rows → row ≡ get_or rows c row → map (λ k. spread_row denominator part k (moves_from (map items rows) k)) (range_with_len 0 (c + 1)) ≡ map (λ k. spread_row denominator part k (moves_from (map items rows) k)) (range_with_len 0 c) ++ spread_row denominator part c (items row) ∷ []
spread_next items denominator part c rows row lt is =
    let own : moves_from (map items rows) c ≡ items row = moves_from-map items rows c row lt ∙ ap items (sym is) in
    map-range_with_len_more (λ k. spread_row denominator part k (moves_from (map items rows) k)) 0 c c (omega arith)
    ∙ ap (λ (ms : List ℕ). map (λ k. spread_row denominator part k (moves_from (map items rows) k)) (range_with_len 0 c) ++ spread_row denominator part c ms ∷ []) own
