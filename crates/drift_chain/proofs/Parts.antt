-- The part that a row gives to a cell.
use Rattle.std.proofs.Common.{ℕ, ◌<◌, ◌≤◌, ◌≡◌, ◌≢◌, List, length, get_or, map, arith, All}
use Rattle.std.proofs.Math.ListN.{length-map}
use Rattle.std.proofs.lemmas.List.Elements.{All-map}
use Rattle.std.proofs.lemmas.Map.Keys.{sorted_from_strictly_increasing}
use Rattle.std.proofs.lemmas.Map.Views.{length-le_from_below}
use Rattle.period_rows.specs.declared.part.CellPart.{CellPart}
use Rattle.period_rows.specs.Rows.{IsAscending}
use Rattle.drift_chain.specs.DriftRows.{part_in}
use Rattle.list_laws.proofs.Ascending.{Ascends-from_keys, sum_at-none, sum_at-one}

-- a row without the cell gives it nothing
pub part_in-none : (row : List CellPart) (d : ℕ) → All (λ entry. entry.cell ≢ d) row → part_in row d ≡ 0
unfolding part_in
part_in-none row d none = sum_at-none (λ entry. entry.cell) (λ entry. entry.part) d row none

-- an ascending row gives the cell of an entry that entry's part
pub part_in-entry : (row : List CellPart) (k : ℕ) (e : CellPart) → IsAscending row → k < length row →
    part_in row (get_or row k e).cell ≡ (get_or row k e).part
unfolding part_in
part_in-entry row k e up inside = sum_at-one (λ entry. entry.cell) (λ entry. entry.part) row k e (Ascends-from_keys (λ entry. entry.cell) row up) inside

-- an ascending row has no more entries than there are cells
pub length-le_cells : (n : ℕ) (row : List CellPart) → All (λ entry. entry.cell < n) row → IsAscending row → length row ≤ n
length-le_cells n row within up =
    let cells = map (λ entry. entry.cell) row in
    let le = length-le_from_below n cells (sorted_from_strictly_increasing cells up) (All-map (λ d. d < n) (λ entry. entry.cell) row within) in
    omega (arith, le, length-map row (λ entry. entry.cell))
