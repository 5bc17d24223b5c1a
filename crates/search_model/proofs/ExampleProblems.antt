-- The small problems keep what every scenario keeps.
use Rattle.std.proofs.Common.{ℕ, ◌≡◌, ◌<◌, ◌≤◌, ◌+◌, true, inl, inr, List, [], ◌∷◌, refl, ap, arith, Contains, take, slice_index}
use Rattle.std.proofs.lemmas.List.Elements.{All-from_recursion}
use Rattle.std.proofs.lemmas.Bool.{and_from}
use Rattle.exact_parts.specs.Width.{Fits}
use Rattle.search_grid.specs.Moves.{moves_from, IsMoveRow}
use Rattle.drift_chain.proofs.Drifts.{AreChanges-none}
use Rattle.drift_chain.specs.DriftRows.{row_of, IsDriftRow}
use Rattle.sweep_table.proofs.Factors.{IsSweep-from_parts}
use Rattle.search_model.specs.Names.{IsName, is_name_byte, name_in, AreNames}
use Rattle.search_model.specs.Problem.{IsProblem}
use Rattle.search_model.specs.Worked.{goes_to, one_cell, two_cells, waiting_for, waiting_target, waiting_longer}
use Rattle.search_model.proofs.NameLemmas.{below_more}
use Rattle.list_laws.proofs.Members.{Contains-nil, Contains-cons_cases}

-- what holds of the first few numbers holds below them
below_one : (P : ℕ → Type 0) → P 0 → (d : ℕ) → d < 1 → P d
below_one P p = below_more P 0 (λ d less. absurd (omega (arith, less))) p

pub below_two : (P : ℕ → Type 0) → P 0 → P 1 → (d : ℕ) → d < 2 → P d
below_two P p q = below_more P 1 (below_one P p) q

pub below_three : (P : ℕ → Type 0) → P 0 → P 1 → P 2 → (d : ℕ) → d < 3 → P d
below_three P p q r = below_more P 2 (below_two P p q) r

pub below_four : (P : ℕ → Type 0) → P 0 → P 1 → P 2 → P 3 → (d : ℕ) → d < 4 → P d
below_four P p q r s = below_more P 3 (below_three P p q r) s

one_move : (n a : ℕ) → a < n → IsMoveRow n (a ∷ [])
one_move n a here = record { some = omega arith; few = omega arith; ascending = λ k less. absurd (omega (arith, less)); within = All-from_recursion (λ q. q < n) (a ∷ []) (here, tt) }

pub two_moves : (n a b : ℕ) → a < b → b < n → IsMoveRow n (a ∷ b ∷ [])
two_moves n a b up here = record {
  some = omega arith;
  few = omega arith;
  ascending = λ k less. below_one (λ k. slice_index (a ∷ b ∷ []) k < slice_index (a ∷ b ∷ []) (k + 1)) up k (omega (arith, less));
  within = All-from_recursion (λ q. q < n) (a ∷ b ∷ []) (omega (arith, up, here), (here, tt));
}

three_moves : IsMoveRow 3 (0 ∷ 1 ∷ 2 ∷ [])
three_moves = record {
  some = omega arith;
  few = omega arith;
  ascending = λ k less. below_two (λ k. slice_index (0 ∷ 1 ∷ 2 ∷ []) k < slice_index (0 ∷ 1 ∷ 2 ∷ []) (k + 1)) (omega arith) (omega arith) k (omega (arith, less));
  within = All-from_recursion (λ q. q < 3) (0 ∷ 1 ∷ 2 ∷ []) (omega arith, (omega arith, (omega arith, tt)));
}

pub one_step : (denominator n c : ℕ) → c < n → 1 ≤ denominator → IsDriftRow denominator n (goes_to c denominator ∷ [])
one_step denominator n c here some = record {
  within = All-from_recursion (λ entry. entry.cell < n) (goes_to c denominator ∷ []) (here, tt);
  positive = All-from_recursion (λ entry. 1 ≤ entry.part) (goes_to c denominator ∷ []) (some, tt);
  ascending = λ k less. absurd (omega (arith, less));
  total = omega arith;
}

two_steps : IsDriftRow 2 2 (goes_to 0 1 ∷ goes_to 1 1 ∷ [])
two_steps = record {
  within = All-from_recursion (λ entry. entry.cell < 2) (goes_to 0 1 ∷ goes_to 1 1 ∷ []) (omega arith, (omega arith, tt));
  positive = All-from_recursion (λ entry. 1 ≤ entry.part) (goes_to 0 1 ∷ goes_to 1 1 ∷ []) (omega arith, (omega arith, tt));
  ascending = λ k less. below_one (λ k. slice_index (0 ∷ 1 ∷ []) k < slice_index (0 ∷ 1 ∷ []) (k + 1)) (omega arith) k (omega (arith, less));
  total = refl;
}

pub letters : (b : ℕ) → is_name_byte b ≡ true → IsName (b ∷ [])
letters b test = record { some = omega arith; short = omega arith; bytes = and_from (is_name_byte b) true test refl }

pub apart : (a b : ℕ) (names : List (List ℕ)) → a < b → ¬ Contains names (b ∷ []) → ¬ Contains ((a ∷ []) ∷ names) (b ∷ [])
apart a b names less rest has = elim (Contains-cons_cases (a ∷ []) (b ∷ []) names has) [
  | inl e ↦ omega (arith, less, ap (λ xs. slice_index xs 0) e)
  | inr k ↦ rest k
]

-- the last of the names is not among the earlier ones
abbrev pub NotBefore : List (List ℕ) → ℕ → Type 0
NotBefore names c = ¬ Contains (take c names) (name_in names c)

-- the names of the small problems
one_name : AreNames 1 one_cell.names
one_name = record {
  count = refl;
  each = All-from_recursion IsName one_cell.names (letters 97 refl, tt);
  differ = λ c has. below_one (NotBefore one_cell.names) (Contains-nil (97 ∷ [])) c has.0 has.1;
}

two_names : AreNames 2 two_cells.names
two_names = record {
  count = refl;
  each = All-from_recursion IsName two_cells.names (letters 97 refl, (letters 98 refl, tt));
  differ = λ c has. below_two (NotBefore two_cells.names) (Contains-nil (97 ∷ [])) (apart 97 98 [] (omega arith) (Contains-nil (98 ∷ []))) c has.0 has.1;
}

three_names : AreNames 3 waiting_target.names
three_names = record {
  count = refl;
  each = All-from_recursion IsName waiting_target.names (letters 97 refl, (letters 98 refl, (letters 99 refl, tt)));
  differ = λ c has.
      below_three (NotBefore waiting_target.names)
      (Contains-nil (97 ∷ []))
      (apart 97 98 [] (omega arith) (Contains-nil (98 ∷ [])))
      (apart 97 99 ((98 ∷ []) ∷ []) (omega arith) (apart 98 99 [] (omega arith) (Contains-nil (99 ∷ []))))
      c has.0 has.1;
}

pub one_cell_sound : IsProblem one_cell
unfolding moves_from row_of
one_cell_sound = record {
  horizon = (omega arith, omega arith);
  total = (omega arith, omega arith);
  cells = (omega arith, omega arith);
  positions = (omega arith, omega arith);
  names = one_name;
  position_names = one_name;
  start = omega arith;
  first_length = refl;
  first_total = refl;
  grid = record { size = (omega arith, omega arith); each = below_one (λ p. IsMoveRow 1 (moves_from one_cell.moves p)) (one_move 1 0 (omega arith)) };
  grid_positions = refl;
  drift = record { denominator = (omega arith, omega arith); size = (omega arith, omega arith); each = λ t. below_one (λ c. IsDriftRow 1 1 (row_of one_cell.drift t c)) (one_step 1 1 0 (omega arith) (omega arith)); changes = AreChanges-none 1 };
  drift_cells = refl;
  sweep = IsSweep-from_parts 2 (1 ∷ []) (omega arith, omega arith) (omega arith, omega arith) (below_one (λ k. slice_index (1 ∷ []) k ≤ 2) (omega arith));
  sweep_positions = refl;
  sweep_cells = refl;
  fits = omega arith;
}

pub two_cells_sound : IsProblem two_cells
unfolding moves_from row_of
two_cells_sound = record {
  horizon = (omega arith, omega arith);
  total = (omega arith, omega arith);
  cells = (omega arith, omega arith);
  positions = (omega arith, omega arith);
  names = two_names;
  position_names = two_names;
  start = omega arith;
  first_length = refl;
  first_total = refl;
  grid = record {
    size = (omega arith, omega arith);
    each = below_two (λ p. IsMoveRow 2 (moves_from two_cells.moves p)) (two_moves 2 0 1 (omega arith) (omega arith)) (two_moves 2 0 1 (omega arith) (omega arith));
  };
  grid_positions = refl;
  drift = record { denominator = (omega arith, omega arith); size = (omega arith, omega arith); each = λ t. below_two (λ c. IsDriftRow 2 2 (row_of two_cells.drift t c)) two_steps two_steps; changes = AreChanges-none 2 };
  drift_cells = refl;
  sweep = IsSweep-from_parts 2 (0 ∷ 0 ∷ []) (omega arith, omega arith) (omega arith, omega arith) (below_two (λ k. slice_index (0 ∷ 0 ∷ []) k ≤ 2) (omega arith) (omega arith));
  sweep_positions = refl;
  sweep_cells = refl;
  fits = omega arith;
}

waiting_sound : (periods : ℕ) → (1 ≤ periods) × (periods ≤ 32) → Fits 1 1 2 periods → IsProblem (waiting_for periods)
unfolding moves_from row_of
waiting_sound periods horizon fits =
    record {
      horizon = horizon;
      total = (omega arith, omega arith);
      cells = (omega arith, omega arith);
      positions = (omega arith, omega arith);
      names = three_names;
      position_names = three_names;
      start = omega arith;
      first_length = refl;
      first_total = refl;
      grid = record {
        size = (omega arith, omega arith);
        each = below_three (λ p. IsMoveRow 3 (moves_from (waiting_for periods).moves p)) (two_moves 3 0 1 (omega arith) (omega arith)) three_moves (two_moves 3 1 2 (omega arith) (omega arith));
      };
      grid_positions = refl;
      drift = record {
        denominator = (omega arith, omega arith);
        size = (omega arith, omega arith);
        each = λ t. below_three (λ c. IsDriftRow 1 3 (row_of (waiting_for periods).drift t c)) (one_step 1 3 0 (omega arith) (omega arith)) (one_step 1 3 1 (omega arith) (omega arith)) (one_step 1 3 2 (omega arith) (omega arith));
        changes = AreChanges-none 3;
      };
      drift_cells = refl;
      sweep = IsSweep-from_parts 2 (1 ∷ 1 ∷ 1 ∷ []) (omega arith, omega arith) (omega arith, omega arith) (below_three (λ k. slice_index (1 ∷ 1 ∷ 1 ∷ []) k ≤ 2) (omega arith) (omega arith) (omega arith));
      sweep_positions = refl;
      sweep_cells = refl;
      fits = fits;
    }

pub waiting_target_sound : IsProblem waiting_target
waiting_target_sound = waiting_sound 2 (omega arith, omega arith) (omega arith)

pub waiting_longer_sound : IsProblem waiting_longer
waiting_longer_sound = waiting_sound 3 (omega arith, omega arith) (omega arith)
