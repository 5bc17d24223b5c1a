-- Cells that stand twice.
use Rattle.std.proofs.Common.{◌≡◌, ℕ, zero, suc, ◌≤◌, ◌<◌, ◌+◌, ◌-◌, false, List, [], ◌∷◌, length, get_or, take, drop, add-one, Option, None, refl, ap, arith, length-drop}
use Rattle.std.specs.Prelude.{◌||◌}
use Rattle.std.proofs.Math.Seq.{drop-nil}
use Rattle.std.proofs.lemmas.List.{take_all}
use Rattle.scenario_text.specs.ByCells.{stands_in, has_double}

-- what follows a place is all that is left from there
rest_is : {A : Type 0} (xs : List A) (n : ℕ) → take (length xs - n) (drop n xs) ≡ drop n xs
rest_is xs n = take_all (length xs - n) (drop n xs) (omega (arith, length-drop n xs))

double_at_suc : (cells : List (Option ℕ)) (i : ℕ) → i < length cells → has_double (drop i cells) ≡ (stands_in (get_or cells i None) (drop (suc i) cells) || has_double (drop (suc i) cells))
unfolding has_double
double_at_suc [] i lt = absurd (omega arith)
double_at_suc (c ∷ cells) zero lt = refl
double_at_suc (c ∷ cells) (suc i) lt = double_at_suc cells i (omega arith)

-- a cell stands again behind it, or the doubles are behind it
pub double_at : (cells : List (Option ℕ)) (i : ℕ) → i < length cells → has_double (drop i cells) ≡ (stands_in (get_or cells i None) (take (length cells - (i + 1)) (drop (i + 1) cells)) || has_double (drop (i + 1) cells))
double_at cells i lt = rw (rest_is cells (i + 1)) (rw add-one (double_at_suc cells i lt))

-- behind the last cell nothing stands twice
pub double_end : (cells : List (Option ℕ)) (i : ℕ) → length cells ≤ i → has_double (drop i cells) ≡ false
unfolding has_double
double_end [] i le = ap has_double (drop-nil {A = Option ℕ} i)
double_end (c ∷ cells) zero le = absurd (omega arith)
double_end (c ∷ cells) (suc i) le = double_end cells i (omega arith)

pub ruleset double_steps = (double_at, double_end)
