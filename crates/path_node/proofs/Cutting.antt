-- What a standing's value says of which bounds it cuts.
use Rattle.std.proofs.Common.{ℕ, ◌≡◌, ◌<◌, ◌≤◌, List, true, false, inl, inr, arith, ltb-true, eqb-true}
use Rattle.std.proofs.lemmas.Bool.{or_cases, and_parts, false_from_ne_true}
use Rattle.search_model.specs.declared.standing.Standing.{Standing}
use Rattle.bound_tree.specs.Cut.{is_cut}

-- a bound that a standing cuts isn't above its value
pub cut-within : (b : ℕ) (q : List ℕ) (s : Standing) → is_cut b q s ≡ true → b ≤ s.value
cut-within b q s cut = elim (or_cases _ _ cut) [
  | inl less ↦ let low = ltb-true b s.value less in omega (arith, low)
  | inr level ↦ let same = eqb-true b s.value (and_parts _ _ level).0 in omega (arith, same)
]

-- so it cuts none above its value
pub above-open : (b : ℕ) (q : List ℕ) (s : Standing) → s.value < b → is_cut b q s ≡ false
above-open b q s above = false_from_ne_true _ (λ cut. absurd (omega (arith, above, cut-within b q s cut)))
