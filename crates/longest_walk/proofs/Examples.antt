-- The worked walks, computed.
use Rattle.std.proofs.Common.{ℕ, ◌≡◌, ◌==◌, ◌||◌, Bool, true, not, List, [], ◌∷◌, inl, inr, refl, sym, ◌∙◌, arith, Contains, eq-eqb}
use Rattle.std.specs.List.{list_all}
use Rattle.std.proofs.lemmas.Bool.{true≢false, or_cases, not-true}
use Rattle.search_grid.specs.Moves.{moves_from}
use Rattle.search_model.specs.Legal.{walks}
use Rattle.search_model.specs.Bounds.{sum_along, greatest}
use Rattle.search_model.specs.Order.{smaller}
use Rattle.search_model.specs.Worked.{one_cell, waiting_target}
use Rattle.list_laws.proofs.Members.{list_all-contains}
use Rattle.longest_walk.specs.Sums.{entry_at}
use Rattle.search_model.specs.Reference.{greatest_sum, IsLeastBest}
use Rattle.longest_walk.specs.Worked.{last_cell_rewards, no_rewards, LastCellWalks, NoRewardWalks, OneCellWalks, WorkedWalks}

-- whether a walk has another sum, or isn't smaller
abbrev pub is_no_less : List (List ℕ) → (ℕ → ℕ → ℕ) → ℕ → ℕ → ℕ → List ℕ → List ℕ → Bool
is_no_less rows r n t a y z = not (sum_along r t z == greatest_sum rows r n t a) || not (smaller z y)

-- a walk is the least of the greatest sum where each walk has another sum or isn't smaller
least_by_test : (rows : List (List ℕ)) (r : ℕ → ℕ → ℕ) (n t a : ℕ) (y : List ℕ) → Contains (walks rows n a) y → sum_along r t y ≡ greatest_sum rows r n t a →
    list_all (is_no_less rows r n t a y) (walks rows n a) ≡ true → IsLeastBest rows r n t a y
least_by_test rows r n t a y listed is all = record {
  walk = listed;
  best = is;
  least = λ z other same. elim (or_cases _ _ (list_all-contains (is_no_less rows r n t a y) (walks rows n a) z all other)) [
    | inl differs ↦ absurd (true≢false (sym (eq-eqb _ _ same) ∙ not-true _ differs))
    | inr h ↦ not-true _ h
  ];
}

last_cell_walks : LastCellWalks
unfolding walks moves_from sum_along greatest
last_cell_walks = record {
  greatest = refl;
  least = least_by_test waiting_target.moves (entry_at 3 last_cell_rewards) 2 1 1 (2 ∷ 2 ∷ []) (6, omega arith, refl) refl refl;
  after_the_first = refl;
  after_the_middle = refl;
  highest = refl;
}

no_reward_walks : NoRewardWalks
unfolding walks moves_from sum_along greatest
no_reward_walks = record {
  greatest = refl;
  least = least_by_test waiting_target.moves (entry_at 3 no_rewards) 2 1 1 (0 ∷ 0 ∷ []) (0, omega arith, refl) refl refl;
}

one_cell_walks : OneCellWalks
unfolding walks moves_from sum_along greatest
one_cell_walks = record {
  greatest = refl;
  least = least_by_test one_cell.moves (entry_at 1 (7 ∷ [])) 1 1 0 (0 ∷ []) (0, omega arith, refl) refl refl;
}

pub worked_walks : WorkedWalks
worked_walks = record { last_cell = last_cell_walks; no_reward = no_reward_walks; one_cell = one_cell_walks }
