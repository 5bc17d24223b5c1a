-- A cell is found by its name, since no name is repeated.
use Rattle.std.proofs.Common.{◌≡◌, ℕ, ◌<◌, false, List, [], length, Some, refl, sym}
use Rattle.std.specs.Str.{bytes_eq}
use Rattle.std.proofs.lemmas.Bool.{false_from_ne_true}
use Rattle.std.proofs.lemmas.Slice.Eq.{bytes_eq-Decides}
use Rattle.search_model.specs.Names.{name_in, IsRepeated}
use Rattle.scenario_text.specs.Fields.{cell_named}
use Rattle.list_laws.proofs.Firsts.{position-first}
use Rattle.search_model.proofs.NameLemmas.{names_apart}

-- names of which none is repeated
module _ (names : List (List ℕ)) (differ : (c : ℕ) → ¬ IsRepeated names c) where
  -- that of an earlier cell is another
  pub named_before : (j k : ℕ) → j < k → k < length names → bytes_eq (name_in names k) (name_in names j) ≡ false
  named_before j k below within = false_from_ne_true _ (λ e. names_apart names differ j k below within (sym ((bytes_eq-Decides (name_in names k) (name_in names j)).0 e)))

  -- a name is that of its number
  pub named_at : (c : ℕ) → c < length names → cell_named names (name_in names c) ≡ Some c
  named_at c lt =
      position-first (bytes_eq (name_in names c)) names c [] lt (λ k below. named_before k c below lt) ((bytes_eq-Decides (name_in names c) (name_in names c)).1 refl)
