-- The gap plan of a problem whose greedy path isn't the best, computed.
use Rattle.std.proofs.Common.{ℕ, ◌≡◌, ◌≤◌, [], ◌∷◌, refl, arith, take, slice_index, Contains}
use Rattle.std.proofs.lemmas.List.Elements.{All-from_recursion}
use Rattle.search_grid.specs.Moves.{moves_from, IsMoveRow}
use Rattle.drift_chain.proofs.Drifts.{AreChanges-none}
use Rattle.drift_chain.specs.DriftRows.{row_of, part_in, IsDriftRow}
use Rattle.sweep_table.specs.LookParts.{look_row, factor_in, factor_of}
use Rattle.sweep_table.proofs.Factors.{IsSweep-from_parts}
use Rattle.search_model.specs.Names.{IsName, name_in, AreNames}
use Rattle.search_model.specs.Problem.{IsProblem}
use Rattle.search_model.specs.Legal.{walks}
use Rattle.search_model.specs.Tracks.{tracks, steps_product, weight_of, miss_from, missed_weight}
use Rattle.search_model.specs.Bounds.{factors_along, reward_of, sum_along, greatest}
use Rattle.search_model.proofs.ExampleProblems.{two_moves, one_step, letters, apart, below_four}
use Rattle.list_laws.proofs.Members.{Contains-nil}
use Rattle.bound_tree.specs.Gaps.{IsGoodOpen, GapAccepts}
use Rattle.bound_tree.specs.declared.node.Kind.TheVariants.{Branch}
use Rattle.bound_tree.specs.declared.gap.Numbers.TheVariants.{Means}
use Rattle.bound_tree.specs.declared.gap.GapKind.TheVariants.{Closed}
use Rattle.bound_tree.specs.WorkedGap.{node_at, greedy_isnt_best, greedy_gap, GreedyGap}

four_names : AreNames 4 greedy_isnt_best.names
four_names = record {
  count = refl;
  each = All-from_recursion IsName greedy_isnt_best.names (letters 97 refl, (letters 98 refl, (letters 99 refl, (letters 100 refl, tt))));
  differ = λ c has.
      below_four (λ c. ¬ Contains (take c greedy_isnt_best.names) (name_in greedy_isnt_best.names c))
      (Contains-nil (97 ∷ []))
      (apart 97 98 [] (omega arith) (Contains-nil (98 ∷ [])))
      (apart 97 99 ((98 ∷ []) ∷ []) (omega arith) (apart 98 99 [] (omega arith) (Contains-nil (99 ∷ []))))
      (apart 97 100 ((98 ∷ []) ∷ (99 ∷ []) ∷ []) (omega arith) (apart 98 100 ((99 ∷ []) ∷ []) (omega arith) (apart 99 100 [] (omega arith) (Contains-nil (100 ∷ [])))))
      c has.0 has.1;
}

greedy_sound : IsProblem greedy_isnt_best
unfolding moves_from row_of
greedy_sound = record {
  horizon = (omega arith, omega arith);
  total = (omega arith, omega arith);
  cells = (omega arith, omega arith);
  positions = (omega arith, omega arith);
  names = four_names;
  position_names = four_names;
  start = omega arith;
  first_length = refl;
  first_total = refl;
  grid = record {
    size = (omega arith, omega arith);
    each = below_four (λ a. IsMoveRow 4 (moves_from greedy_isnt_best.moves a)) (two_moves 4 0 1 (omega arith) (omega arith)) (two_moves 4 0 2 (omega arith) (omega arith)) (two_moves 4 2 3 (omega arith) (omega arith)) (two_moves 4 2 3 (omega arith) (omega arith));
  };
  grid_positions = refl;
  drift = record {
    denominator = (omega arith, omega arith);
    size = (omega arith, omega arith);
    each = λ t. below_four (λ c. IsDriftRow 1 4 (row_of greedy_isnt_best.drift t c)) (one_step 1 4 0 (omega arith) (omega arith)) (one_step 1 4 1 (omega arith) (omega arith)) (one_step 1 4 2 (omega arith) (omega arith)) (one_step 1 4 3 (omega arith) (omega arith));
    changes = AreChanges-none 4;
  };
  drift_cells = refl;
  sweep = IsSweep-from_parts 1 (0 ∷ 0 ∷ 0 ∷ 0 ∷ []) (omega arith, omega arith) (omega arith, omega arith) (below_four (λ k. slice_index (0 ∷ 0 ∷ 0 ∷ 0 ∷ []) k ≤ 1) (omega arith) (omega arith) (omega arith) (omega arith));
  sweep_positions = refl;
  sweep_cells = refl;
  fits = omega arith;
}

-- with the ceiling and the number that it has
greedy_accepted : GapAccepts greedy_isnt_best (greedy_gap 6 6)
unfolding tracks steps_product weight_of miss_from missed_weight row_of part_in look_row factor_in factor_of moves_from walks factors_along reward_of sum_along greatest
greedy_accepted = record {
  path = record { follows = ((0, omega arith, refl), ((0, omega arith, refl), tt)); whole = refl };
  value = refl;
  weight = refl;
  placed = (refl, (refl, (refl, tt)));
  good = All-from_recursion (IsGoodOpen Means greedy_isnt_best (greedy_gap 6 6).standing) (greedy_gap 6 6).nodes (omega arith, (refl, (refl, tt)));
  ceiling = refl;
}

-- the number is that of the third node, and the ceiling the greatest
greedy_alone : (ceiling last : ℕ) → GapAccepts greedy_isnt_best (greedy_gap ceiling last) → (ceiling ≡ 6) × (last ≡ 6)
unfolding tracks steps_product weight_of miss_from missed_weight row_of part_in look_row factor_in factor_of moves_from walks factors_along reward_of sum_along greatest
greedy_alone ceiling last a =
    let number : last ≡ 6 = a.good 2 (node_at [] (Closed Branch)) (omega arith) in
    (omega (arith, a.ceiling, number), number)

pub greedy_gap_holds : GreedyGap
unfolding tracks steps_product weight_of miss_from missed_weight row_of part_in look_row factor_in factor_of moves_from walks factors_along reward_of sum_along greatest
greedy_gap_holds = record {
  sound = greedy_sound;
  whole = refl;
  values = (refl, refl);
  ceilings = (refl, refl, refl);
  numbers = refl;
  accepted = greedy_accepted;
  lower_ceiling = λ a. omega (arith, (greedy_alone 5 6 a).0);
  lower_number = λ a. omega (arith, (greedy_alone 6 5 a).1);
  no_other = greedy_alone;
}
