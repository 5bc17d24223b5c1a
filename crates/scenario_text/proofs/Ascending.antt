-- No number stands twice in an ascending list.
use Rattle.std.proofs.Common.{◌≡◌, ℕ, ◌<◌, false, eqb, List, [], ◌∷◌, map, Some, refl, arith}
use Rattle.std.specs.Prelude.{◌&&◌, ◌==◌, All, is_some, unwrap_or}
use Rattle.std.specs.List.{list_any}
use Rattle.std.proofs.lemmas.Bool.{ne_eqb}
use Rattle.std.proofs.lemmas.List.Elements.{All-head, All-tail}
use Rattle.list_laws.proofs.Ascending.{Ascends, Ascends-head, Ascends-tail}
use Rattle.scenario_text.specs.ByCells.{has_double}

not_among : (c : ℕ) (xs : List ℕ) → All (λ y. c < y) xs → list_any (λ d. is_some d && unwrap_or d 0 == c) (map Some xs) ≡ false
not_among c [] above = refl
not_among c (x ∷ xs) above =
    let apart : eqb x c ≡ false = ne_eqb x c (λ e. omega (arith, All-head (λ y. c < y) x xs above)) in
    rw (apart, not_among c xs (All-tail (λ y. c < y) x xs above)) refl

-- ascending cells have no double
pub has_double-rising : (xs : List ℕ) → Ascends (λ c. c) xs → has_double (map Some xs) ≡ false
unfolding has_double
has_double-rising [] up = refl
has_double-rising (x ∷ xs) up = rw (not_among x xs (Ascends-head (λ c. c) x xs up), has_double-rising xs (Ascends-tail (λ c. c) x xs up)) refl
