-- The worked teams, computed.
use Rattle.std.proofs.Common.{ℕ, ◌≡◌, ◌<◌, ◌≤◌, ◌/◌, ◌%◌, [], ◌∷◌, map, refl, arith, Contains, slice_index}
use Rattle.std.proofs.lemmas.List.Elements.{All-from_recursion, All-contains}
use Rattle.search_grid.specs.Moves.{moves_from}
use Rattle.drift_chain.specs.DriftRows.{row_of, part_in, IsDriftRow}
use Rattle.drift_chain.proofs.Drifts.{AreChanges-none}
use Rattle.sweep_table.specs.LookParts.{look_row, factor_in, factor_of}
use Rattle.sweep_table.proofs.Factors.{IsSweep-from_parts}
use Rattle.search_model.specs.Problem.{IsProblem}
use Rattle.search_model.specs.Tracks.{tracks, steps_product, weight_of, miss_from, missed_weight}
use Rattle.search_model.proofs.ExampleProblems.{one_step, two_cells_sound, below_two, below_four}
use Rattle.searcher_maps.specs.Stands.{product, missed_together, StandsFor}
use Rattle.searcher_maps.specs.Worked.{two_views, both_views, WorkedTeams}
use Rattle.searcher_maps.proofs.Following.{KeepsMoves}

two_views_sound : IsProblem two_views
unfolding moves_from row_of
two_views_sound = record {
  horizon = (omega arith, omega arith);
  total = (omega arith, omega arith);
  cells = (omega arith, omega arith);
  positions = (omega arith, omega arith);
  names = two_cells_sound.names;
  position_names = two_cells_sound.position_names;
  start = omega arith;
  first_length = refl;
  first_total = refl;
  grid = two_cells_sound.grid;
  grid_positions = refl;
  drift = record {
    denominator = (omega arith, omega arith);
    size = (omega arith, omega arith);
    each = λ t. below_two (λ c. IsDriftRow 1 2 (row_of two_views.drift t c)) (one_step 1 2 0 (omega arith) (omega arith)) (one_step 1 2 1 (omega arith) (omega arith));
    changes = AreChanges-none 2;
  };
  drift_cells = refl;
  sweep = IsSweep-from_parts 4 (1 ∷ 3 ∷ []) (omega arith, omega arith) (omega arith, omega arith) (below_two (λ k. slice_index (1 ∷ 3 ∷ []) k ≤ 4) (omega arith) (omega arith));
  sweep_positions = refl;
  sweep_cells = refl;
  fits = omega arith;
}

-- of four positions both searchers' are among two
halved : (b : ℕ) → Contains (0 ∷ 1 ∷ 2 ∷ 3 ∷ []) b → Contains (0 ∷ 1 ∷ []) (b / 2)
halved b = All-contains (λ b. Contains (0 ∷ 1 ∷ []) (b / 2)) (0 ∷ 1 ∷ 2 ∷ 3 ∷ []) b
    (All-from_recursion (λ b. Contains (0 ∷ 1 ∷ []) (b / 2)) (0 ∷ 1 ∷ 2 ∷ 3 ∷ []) ((0, omega arith, refl), ((0, omega arith, refl), ((1, omega arith, refl), ((1, omega arith, refl), tt)))))

parity : (b : ℕ) → Contains (0 ∷ 1 ∷ 2 ∷ 3 ∷ []) b → Contains (0 ∷ 1 ∷ []) (b % 2)
parity b = All-contains (λ b. Contains (0 ∷ 1 ∷ []) (b % 2)) (0 ∷ 1 ∷ 2 ∷ 3 ∷ []) b
    (All-from_recursion (λ b. Contains (0 ∷ 1 ∷ []) (b % 2)) (0 ∷ 1 ∷ 2 ∷ 3 ∷ []) ((0, omega arith, refl), ((1, omega arith, refl), ((0, omega arith, refl), ((1, omega arith, refl), tt)))))

first_keeps : KeepsMoves two_views both_views (λ n. n / 2)
unfolding moves_from
first_keeps a b here = below_four (λ a. Contains (moves_from both_views.moves a) b → Contains (moves_from two_views.moves (a / 2)) (b / 2)) (halved b) (halved b) (halved b) (halved b) a here

second_keeps : KeepsMoves two_views both_views (λ n. n % 2)
unfolding moves_from
second_keeps a b here = below_four (λ a. Contains (moves_from both_views.moves a) b → Contains (moves_from two_views.moves (a % 2)) (b % 2)) (parity b) (parity b) (parity b) (parity b) a here

-- the look factors of both in one period are the products of those of each
abbrev AreProducts : ℕ → ℕ → ℕ → Type 0
AreProducts t a c = factor_of both_views.sweep t a c ≡ product (map (λ (h : ℕ → ℕ). factor_of two_views.sweep t (h a) c) ((λ n. n / 2) ∷ (λ n. n % 2) ∷ []))

looks_multiply : (t a c : ℕ) → a < 4 → c < 2 → AreProducts t a c
unfolding look_row factor_in factor_of
looks_multiply t a c place here =
    below_four (λ a. AreProducts t a c)
    (below_two (AreProducts t 0) refl refl c here)
    (below_two (AreProducts t 1) refl refl c here)
    (below_two (AreProducts t 2) refl refl c here)
    (below_two (AreProducts t 3) refl refl c here)
    a place

both_stand : StandsFor two_views both_views ((λ n. n / 2) ∷ (λ n. n % 2) ∷ [])
both_stand = record {
  target = record { names = refl; cells = refl; horizon = refl; total = refl; first = refl; drift_denominator = refl; rows = λ t c from to here. refl };
  parts = refl;
  looks = λ t a c from to place here. looks_multiply t a c place here;
  moves = All-from_recursion (KeepsMoves two_views both_views) ((λ n. n / 2) ∷ (λ n. n % 2) ∷ []) (first_keeps, (second_keeps, tt));
}

pub worked_teams : WorkedTeams
unfolding tracks steps_product weight_of miss_from missed_weight missed_together row_of part_in look_row factor_in factor_of
worked_teams = record { sound = two_views_sound; nobody = refl; alone = refl; first_at_0 = refl; first_at_1 = refl; stands = both_stand; missed = refl }
