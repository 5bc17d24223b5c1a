-- Rows in ascending order.
use Rattle.std.proofs.Common.{ℕ, ◌<◌, ◌≤◌, List, map, ◌∙◌, arith, subst}
use Rattle.std.specs.List.Sorted.{IsStrictlyIncreasing}
use Rattle.std.proofs.lemmas.List.{map-id}
use Rattle.std.proofs.lemmas.List.Elements.{All-map}
use Rattle.std.proofs.lemmas.List.Sorted.{length_permutation, All-permutation, sum_by-IsPermutation}
use Rattle.period_rows.specs.declared.part.CellPart.{CellPart}
use Rattle.drift_chain.specs.DriftRows.{IsDriftRow}
use Rattle.search_grid.specs.Moves.{IsMoveRow}
use Rattle.sweep_table.specs.LookParts.{misses, IsLookRow}
use Rattle.list_laws.proofs.Mapped.{map-map}
use Rattle.list_laws.proofs.Rising.{increasing_from_ascends}
use Rattle.scenario_text.specs.Scenarios.{look_parts}
use Rattle.scenario_text.specs.Sound.{AreEntries, AreLooks, AreMoves}
use Rattle.scenario_text.proofs.Ordered.{in_order, in_order_same, in_order_rises}

abbrev pub cells_in_order : List CellPart → List CellPart
cells_in_order row = in_order (λ e. e.cell) row

pub moves_in_order : (positions : ℕ) (row : List ℕ) → AreMoves positions row → IsMoveRow positions (in_order (λ m. m) row)
moves_in_order positions row given =
    let same = in_order_same (λ m. m) row in
    let long = length_permutation row (in_order (λ m. m) row) same in
    record {
      some = omega (arith, long, given.some);
      few = omega (arith, long, given.few);
      ascending = subst IsStrictlyIncreasing (map-id (in_order (λ m. m) row)) (increasing_from_ascends (λ m. m) _ (in_order_rises (λ m. m) row given.once));
      within = All-permutation (λ d. d < positions) row (in_order (λ m. m) row) same given.within;
    }

pub entries_in_order : (cells denominator : ℕ) (row : List CellPart) → AreEntries cells denominator row → IsDriftRow denominator cells (cells_in_order row)
entries_in_order cells denominator row given =
    let same = in_order_same (λ e. e.cell) row in
    record {
      within = All-permutation (λ e. e.cell < cells) row (cells_in_order row) same given.within;
      positive = All-permutation (λ e. 1 ≤ e.part) row (cells_in_order row) same given.positive;
      ascending = increasing_from_ascends (λ e. e.cell) _ (in_order_rises (λ e. e.cell) row given.once);
      total = sum_by-IsPermutation (λ e. e.part) row (cells_in_order row) same ∙ given.total;
    }

pub looks_in_order : (cells denominator : ℕ) (row : List CellPart) → AreLooks cells denominator row → IsLookRow denominator cells (look_parts (cells_in_order row))
looks_in_order cells denominator row given =
    let same = in_order_same (λ e. e.cell) row in
    let up : IsStrictlyIncreasing (map (λ e. e.cell) (cells_in_order row)) = increasing_from_ascends (λ e. e.cell) _ (in_order_rises (λ e. e.cell) row given.once) in
    record {
      within = All-map (λ x. x.cell < cells) (λ e. misses e.cell e.part) (cells_in_order row) (All-permutation (λ e. e.cell < cells) row (cells_in_order row) same given.within);
      ascending = rw (map-map (λ x. x.cell) (λ e. misses e.cell e.part) (cells_in_order row)) up;
      parts = All-map (λ x. x.part ≤ denominator) (λ e. misses e.cell e.part) (cells_in_order row) (All-permutation (λ e. e.part ≤ denominator) row (cells_in_order row) same given.parts);
    }
