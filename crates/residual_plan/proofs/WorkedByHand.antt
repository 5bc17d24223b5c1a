-- What forces a small prefix, by computing.
use Rattle.std.proofs.Common.{◌≡◌, List, ℕ, [], ◌∷◌, refl, sym, ap, ◌∙◌, arith}
use Rattle.search_grid.specs.Moves.{moves_from}
use Rattle.residual_plan.specs.Forced.{source_of, forced_name, forced_names, forced_row, forced_moves}
use Rattle.residual_plan.specs.Worked.{WorkedForced}
use Rattle.residual_plan.proofs.NewNames.{name_of_digit, name_of_digits}

two_names : (a b : List ℕ) → forced_name 0 ≡ a → forced_name 1 ≡ b → forced_names 1 ≡ a ∷ b ∷ []
unfolding forced_names
two_names a b first second = ap (λ (n : List ℕ). n ∷ forced_name 1 ∷ []) first ∙ ap (λ (n : List ℕ). a ∷ n ∷ []) second

pub worked_forced : WorkedForced
unfolding source_of forced_row forced_moves moves_from
worked_forced = record {
  names = two_names _ _ (sym (name_of_digit 0 (omega arith))) (sym (name_of_digit 1 (omega arith)));
  two_digits = sym (name_of_digits 10 (omega arith) (omega arith));
  moves = refl;
  sources = refl;
  path = refl;
}
