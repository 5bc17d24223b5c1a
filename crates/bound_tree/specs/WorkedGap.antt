-- Gap plans of small problems, worked by hand.
use Rattle.std.specs.Prelude.{ℕ, ◌≡◌, List, [], ◌∷◌}
use Rattle.drift_chain.specs.DriftRows.{drift_over}
use Rattle.sweep_table.specs.LookParts.{parts_over}
use Rattle.search_model.specs.Problem.{Problem, IsProblem}
use Rattle.search_model.specs.Tracks.{whole_weight, value_of}
use Rattle.search_model.specs.Worked.{goes_to, two_cells, waiting_longer}
use Rattle.bound_tree.specs.declared.node.Kind.TheVariants.{Branch, Mean}
use Rattle.bound_tree.specs.declared.gap.Numbers.{Numbers}
use Rattle.bound_tree.specs.declared.gap.Numbers.TheVariants.{Means, Edges}
use Rattle.bound_tree.specs.declared.gap.GapKind.{GapKind}
use Rattle.bound_tree.specs.declared.gap.GapKind.TheVariants.{Closed, Waiting}
use Rattle.bound_tree.specs.declared.gap.GapNode.{GapNode}
use Rattle.bound_tree.specs.declared.gap.GapPlan.{GapPlan}
use Rattle.bound_tree.specs.Gaps.{ceiling_of, open_numbers, GapAccepts}

-- a node at a prefix
abbrev pub node_at : List ℕ → GapKind → GapNode
node_at q kind = record { prefix = q; kind = kind }

-- four cells, a target that stays, and looks that miss nothing: from the second cell the searcher may go to the first, or
-- to the third and on to the fourth
abbrev pub greedy_isnt_best : Problem
greedy_isnt_best = record {
  names = (97 ∷ []) ∷ (98 ∷ []) ∷ (99 ∷ []) ∷ (100 ∷ []) ∷ [];
  position_names = (97 ∷ []) ∷ (98 ∷ []) ∷ (99 ∷ []) ∷ (100 ∷ []) ∷ [];
  cells = 4;
  positions = 4;
  horizon = 2;
  start = 1;
  total = 9;
  first = 3 ∷ 0 ∷ 2 ∷ 4 ∷ [];
  moves = (0 ∷ 1 ∷ []) ∷ (0 ∷ 2 ∷ []) ∷ (2 ∷ 3 ∷ []) ∷ (2 ∷ 3 ∷ []) ∷ [];
  drift = drift_over 1 ((goes_to 0 1 ∷ []) ∷ (goes_to 1 1 ∷ []) ∷ (goes_to 2 1 ∷ []) ∷ (goes_to 3 1 ∷ []) ∷ []);
  sweep = parts_over 1 (0 ∷ 0 ∷ 0 ∷ 0 ∷ []);
}

-- its gap plan where one prefix alone was closed, with the path of a greedy searcher, and with these two numbers
abbrev pub greedy_gap : ℕ → ℕ → GapPlan
greedy_gap ceiling last = record {
  standing = record { path = 0 ∷ 0 ∷ []; value = 3 };
  weight = 9;
  ceiling = ceiling;
  numbers = Means;
  nodes = node_at [] (Closed Branch) ∷ node_at (0 ∷ []) (Waiting 3) ∷ node_at (2 ∷ []) (Waiting last) ∷ [];
}

-- the path finds 3 of 9, and no path finds more than 6, which is what the best one finds; with a lower ceiling or a lower
-- number the gap plan isn't accepted, nor with any other
pub record GreedyGap : Type 0 where
  pub sound : IsProblem greedy_isnt_best
  pub whole : whole_weight greedy_isnt_best ≡ 9
  pub values : (value_of greedy_isnt_best (0 ∷ 0 ∷ []) ≡ 3) × (value_of greedy_isnt_best (2 ∷ 3 ∷ []) ≡ 6)
  pub ceilings : (ceiling_of Means greedy_isnt_best (0 ∷ []) ≡ 3) × (ceiling_of Means greedy_isnt_best (2 ∷ []) ≡ 6) × (ceiling_of Means greedy_isnt_best (2 ∷ 2 ∷ []) ≡ 2)
  pub numbers : open_numbers (greedy_gap 6 6).nodes ≡ 3 ∷ 6 ∷ []
  pub accepted : GapAccepts greedy_isnt_best (greedy_gap 6 6)
  pub lower_ceiling : ¬ GapAccepts greedy_isnt_best (greedy_gap 5 6)
  pub lower_number : ¬ GapAccepts greedy_isnt_best (greedy_gap 6 5)
  pub no_other : (ceiling last : ℕ) → GapAccepts greedy_isnt_best (greedy_gap ceiling last) → (ceiling ≡ 6) × (last ≡ 6)

-- the waiting target with three periods: the path stays for a period and finds 6 of 8, one prefix is closed by its mean
-- bound, and the two others wait; with such numbers, this ceiling, and these numbers of the two
abbrev pub longer_gap : Numbers → ℕ → ℕ → ℕ → GapPlan
longer_gap numbers ceiling first last = record {
  standing = record { path = 1 ∷ 2 ∷ 2 ∷ []; value = 6 };
  weight = 8;
  ceiling = ceiling;
  numbers = numbers;
  nodes = node_at [] (Closed Branch) ∷ node_at (0 ∷ []) (Closed (Mean 4)) ∷ node_at (1 ∷ []) (Waiting first) ∷ node_at (2 ∷ []) (Waiting last) ∷ [];
}

-- no path finds more than 8; with a lower ceiling or a lower number the gap plan isn't accepted, nor with any other
pub record LongerGap : Type 0 where
  pub ceilings : (ceiling_of Means waiting_longer (1 ∷ []) ≡ 8) × (ceiling_of Means waiting_longer (2 ∷ []) ≡ 8) × (ceiling_of Means waiting_longer (2 ∷ 2 ∷ 2 ∷ []) ≡ 7)
  pub numbers : open_numbers (longer_gap Means 8 8 8).nodes ≡ 8 ∷ 8 ∷ []
  pub accepted : GapAccepts waiting_longer (longer_gap Means 8 8 8)
  pub lower_ceiling : ¬ GapAccepts waiting_longer (longer_gap Means 7 8 8)
  pub lower_number : ¬ GapAccepts waiting_longer (longer_gap Means 8 8 7)
  pub no_other : (ceiling last : ℕ) → GapAccepts waiting_longer (longer_gap Means ceiling 8 last) → (ceiling ≡ 8) × (last ≡ 8)

-- with edge bounds no path finds more than 7, which is what the best one finds; neither kind is taken for the other
pub record LongerEdges : Type 0 where
  pub ceilings : (ceiling_of Edges waiting_longer (1 ∷ []) ≡ 6) × (ceiling_of Edges waiting_longer (2 ∷ []) ≡ 7) × (ceiling_of Edges waiting_longer (2 ∷ 2 ∷ 2 ∷ []) ≡ 7)
  pub accepted : GapAccepts waiting_longer (longer_gap Edges 7 6 7)
  pub not_means : ¬ GapAccepts waiting_longer (longer_gap Means 7 6 7)
  pub not_edges : ¬ GapAccepts waiting_longer (longer_gap Edges 8 8 8)

-- two cells where the empty prefix alone was closed: both prefixes below it wait, and the ceiling is the value
abbrev pub two_cells_gap : GapPlan
two_cells_gap = record {
  standing = record { path = 0 ∷ 0 ∷ []; value = 12 };
  weight = 16;
  ceiling = 12;
  numbers = Means;
  nodes = node_at [] (Closed Branch) ∷ node_at (0 ∷ []) (Waiting 12) ∷ node_at (1 ∷ []) (Waiting 12) ∷ [];
}

pub record WorkedGaps : Type 0 where
  pub greedy : GreedyGap
  pub longer : LongerGap
  pub edges : LongerEdges
  pub two : GapAccepts two_cells two_cells_gap
