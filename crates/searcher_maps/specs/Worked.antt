-- Two searchers in a small problem, and a problem of one searcher that stands for both.
use Rattle.std.specs.Prelude.{◌≡◌, ◌/◌, ◌%◌, [], ◌∷◌, map}
use Rattle.drift_chain.specs.DriftRows.{drift_over}
use Rattle.sweep_table.specs.LookParts.{misses, parts_over, looks_over}
use Rattle.search_model.specs.Problem.{Problem, IsProblem}
use Rattle.search_model.specs.Tracks.{missed_weight}
use Rattle.search_model.specs.Worked.{goes_to}
use Rattle.searcher_maps.specs.Stands.{missed_together, StandsFor}

-- two cells, one period, and a target that is in the second cell in 2 of 3; a look misses 1 of 4 in the first cell, and
-- 3 of 4 in the second
abbrev pub two_views : Problem
two_views = record {
  names = (97 ∷ []) ∷ (98 ∷ []) ∷ [];
  position_names = (97 ∷ []) ∷ (98 ∷ []) ∷ [];
  cells = 2;
  positions = 2;
  horizon = 1;
  start = 0;
  total = 3;
  first = 1 ∷ 2 ∷ [];
  moves = (0 ∷ 1 ∷ []) ∷ (0 ∷ 1 ∷ []) ∷ [];
  drift = drift_over 1 ((goes_to 0 1 ∷ []) ∷ (goes_to 1 1 ∷ []) ∷ []);
  sweep = parts_over 4 (1 ∷ 3 ∷ []);
}

-- the same for two searchers: at position 2 * a + b the first is at a, and the second at b
abbrev pub both_views : Problem
both_views = record {
  names = (97 ∷ []) ∷ (98 ∷ []) ∷ [];
  position_names = (97 ∷ []) ∷ (98 ∷ []) ∷ (99 ∷ []) ∷ (100 ∷ []) ∷ [];
  cells = 2;
  positions = 4;
  horizon = 1;
  start = 0;
  total = 3;
  first = 1 ∷ 2 ∷ [];
  moves = (0 ∷ 1 ∷ 2 ∷ 3 ∷ []) ∷ (0 ∷ 1 ∷ 2 ∷ 3 ∷ []) ∷ (0 ∷ 1 ∷ 2 ∷ 3 ∷ []) ∷ (0 ∷ 1 ∷ 2 ∷ 3 ∷ []) ∷ [];
  drift = drift_over 1 ((goes_to 0 1 ∷ []) ∷ (goes_to 1 1 ∷ []) ∷ []);
  sweep = looks_over 16 2 ((misses 0 1 ∷ []) ∷ (misses 0 4 ∷ misses 1 12 ∷ []) ∷ (misses 0 4 ∷ misses 1 12 ∷ []) ∷ (misses 1 9 ∷ []) ∷ []);
}

-- two who look at different cells miss least: 28 of 48
pub record WorkedTeams : Type 0 where
  pub sound : IsProblem two_views
  pub nobody : missed_together two_views [] ≡ 3
  pub alone : map (λ y. missed_together two_views (y ∷ [])) ((0 ∷ []) ∷ (1 ∷ []) ∷ []) ≡ 9 ∷ 10 ∷ []
  pub first_at_0 : map (λ y. missed_together two_views ((0 ∷ []) ∷ y ∷ [])) ((0 ∷ []) ∷ (1 ∷ []) ∷ []) ≡ 33 ∷ 28 ∷ []
  pub first_at_1 : map (λ y. missed_together two_views ((1 ∷ []) ∷ y ∷ [])) ((0 ∷ []) ∷ (1 ∷ []) ∷ []) ≡ 28 ∷ 34 ∷ []
  pub stands : StandsFor two_views both_views ((λ n. n / 2) ∷ (λ n. n % 2) ∷ [])
  pub missed : map (missed_weight both_views) ((0 ∷ []) ∷ (1 ∷ []) ∷ (2 ∷ []) ∷ (3 ∷ []) ∷ []) ≡ 33 ∷ 28 ∷ 28 ∷ 34 ∷ []
