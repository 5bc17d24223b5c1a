-- Grids with the same moves.
use Rattle.std.proofs.Common.{ℕ, ◌<◌, ◌≡◌, List, [], length, sym, ◌∙◌}
use Rattle.std.specs.List.Sorted.{IsPermutation}
use Rattle.std.proofs.lemmas.List.{same_lists, get_or_default}
use Rattle.std.proofs.lemmas.List.Kept.{AllPairs-from_increasing}
use Rattle.std.proofs.lemmas.List.Sorted.{Contains-permutation, IsPermutation-sym}
use Rattle.search_grid.specs.Moves.{moves_from, IsMoveRow, IsGrid}
use Rattle.search_grid.specs.Faults.{HasSameMoves}
use Rattle.list_laws.proofs.Ascending.{same_ascending}

-- two right rows with the same moves are the same
same_row : (n m : ℕ) (xs ys : List ℕ) → IsMoveRow n xs → IsMoveRow m ys → IsPermutation xs ys → xs ≡ ys
same_row n m xs ys right right' same =
    same_ascending (λ move. move) xs ys (AllPairs-from_increasing xs right.ascending) (AllPairs-from_increasing ys right'.ascending)
    (λ z there. Contains-permutation xs ys z same there)
    (λ z there. Contains-permutation ys xs z (IsPermutation-sym xs ys same) there)

-- two grids with the same moves are the same
pub same_grid : (given made : List (List ℕ)) → IsGrid given → IsGrid made → HasSameMoves given made → made ≡ given
unfolding moves_from
same_grid given made grid grid' same =
    same_lists made given same.cells (λ c d inside.
    let there : c < length given = rw (← same.cells) inside in
    let row : moves_from given c ≡ moves_from made c = same_row _ _ _ _ (grid.each c there) (grid'.each c inside) (same.moves c there) in
    get_or_default made c d [] inside ∙ sym row ∙ get_or_default given c [] d there)
