-- The worked gap plans, computed from the worked values and bounds.
use Rattle.std.proofs.Common.{ℕ, ◌≡◌, [], ◌∷◌, refl, sym, ap, ◌∙◌, arith, slice_index}
use Rattle.std.proofs.lemmas.List.Elements.{All-from_recursion}
use Rattle.drift_chain.specs.DriftRows.{row_of, part_in}
use Rattle.sweep_table.specs.LookParts.{look_row, factor_in, factor_of}
use Rattle.search_grid.specs.Moves.{moves_from}
use Rattle.search_model.specs.Legal.{walks}
use Rattle.search_model.specs.Tracks.{tracks, steps_product, weight_of, miss_from, missed_weight}
use Rattle.search_model.specs.Bounds.{factors_along, reward_of, greatest}
use Rattle.search_model.specs.Edge.{edge_reward_of, sum_moves}
use Rattle.search_model.specs.Worked.{two_cells, waiting_longer}
use Rattle.search_model.proofs.Examples.{worked_values}
use Rattle.search_model.proofs.ExampleBounds.{worked_bounds_hold}
use Rattle.bound_tree.specs.declared.node.Kind.TheVariants.{Branch}
use Rattle.bound_tree.specs.declared.gap.Numbers.TheVariants.{Means, Edges}
use Rattle.bound_tree.specs.declared.gap.GapKind.TheVariants.{Closed}
use Rattle.bound_tree.specs.Gaps.{ceiling_of, IsGoodOpen, GapAccepts}
use Rattle.bound_tree.proofs.ExampleGreedy.{greedy_gap_holds}
use Rattle.bound_tree.specs.WorkedGap.{node_at, longer_gap, LongerGap, LongerEdges, two_cells_gap, WorkedGaps}

longer_accepted : GapAccepts waiting_longer (longer_gap Means 8 8 8)
unfolding moves_from greatest
longer_accepted =
    let means = worked_bounds_hold.longer.means in
    record {
      path = record { follows = ((1, omega arith, refl), ((2, omega arith, refl), ((1, omega arith, refl), tt))); whole = refl };
      value = sym (ap (λ ns. slice_index ns 0) worked_values.longer.path_values);
      weight = refl;
      placed = (refl, (refl, (refl, (refl, tt))));
      good =
          All-from_recursion (IsGoodOpen Means waiting_longer (longer_gap Means 8 8 8).standing) (longer_gap Means 8 8 8).nodes
          (omega arith, ((omega arith, sym means.0, refl), (sym means.1, (sym means.2, tt))));
      ceiling = refl;
    }

-- the last number is the bound of its prefix, and the ceiling the greatest
longer_alone : (ceiling last : ℕ) → GapAccepts waiting_longer (longer_gap Means ceiling 8 last) → (ceiling ≡ 8) × (last ≡ 8)
unfolding greatest
longer_alone ceiling last a =
    let number : last ≡ 8 = a.good 3 (node_at [] (Closed Branch)) (omega arith) ∙ worked_bounds_hold.longer.means.2 in
    (omega (arith, a.ceiling, number), number)

longer_gap_holds : LongerGap
longer_gap_holds =
    let means = worked_bounds_hold.longer.means in
    record {
      ceilings = (means.1, means.2, ap (λ ns. slice_index ns 2) worked_values.longer.path_values);
      numbers = refl;
      accepted = longer_accepted;
      lower_ceiling = λ a. omega (arith, (longer_alone 7 8 a).0);
      lower_number = λ a. omega (arith, (longer_alone 8 7 a).1);
      no_other = longer_alone;
    }

-- the edge bounds of the prefixes that wait, computed
longer_ceilings : (ceiling_of Edges waiting_longer (1 ∷ []) ≡ 6) × (ceiling_of Edges waiting_longer (2 ∷ []) ≡ 7)
unfolding tracks steps_product weight_of miss_from missed_weight row_of part_in look_row factor_in factor_of moves_from walks factors_along reward_of greatest edge_reward_of sum_moves
longer_ceilings = (refl, refl)

longer_edges_accepted : GapAccepts waiting_longer (longer_gap Edges 7 6 7)
unfolding moves_from greatest
longer_edges_accepted =
    let before = longer_accepted in
    record {
      path = before.path;
      value = before.value;
      weight = before.weight;
      placed = (refl, (refl, (refl, (refl, tt))));
      good =
          All-from_recursion (IsGoodOpen Edges waiting_longer (longer_gap Edges 7 6 7).standing) (longer_gap Edges 7 6 7).nodes
          (omega arith, ((omega arith, sym worked_bounds_hold.longer.means.0, refl), (sym longer_ceilings.0, (sym longer_ceilings.1, tt))));
      ceiling = refl;
    }

longer_edges_hold : LongerEdges
longer_edges_hold = record {
  ceilings = (longer_ceilings.0, longer_ceilings.1, ap (λ ns. slice_index ns 2) worked_values.longer.path_values);
  accepted = longer_edges_accepted;
  not_means = λ a. omega (arith, a.good 2 (node_at [] (Closed Branch)) (omega arith) ∙ worked_bounds_hold.longer.means.1);
  not_edges = λ a. omega (arith, a.good 2 (node_at [] (Closed Branch)) (omega arith) ∙ longer_ceilings.0);
}

two_cells_accepted : GapAccepts two_cells two_cells_gap
unfolding moves_from walks greatest
two_cells_accepted =
    let means = worked_bounds_hold.two.means in
    record {
      path = record { follows = ((0, omega arith, refl), ((0, omega arith, refl), tt)); whole = refl };
      value = sym (ap (λ ns. slice_index ns 0) worked_values.two.values);
      weight = refl;
      placed = (refl, (refl, (refl, tt)));
      good = All-from_recursion (IsGoodOpen Means two_cells two_cells_gap.standing) two_cells_gap.nodes (omega arith, (sym means.0, (sym means.1, tt)));
      ceiling = refl;
    }

pub worked_gaps_hold : WorkedGaps
worked_gaps_hold = record { greedy = greedy_gap_holds; longer = longer_gap_holds; edges = longer_edges_hold; two = two_cells_accepted }
