-- The rate of a problem's look factors, as its sweep tells it.
use Rattle.std.proofs.Common.{ℕ, ◌≡◌, ◌≤◌, Option, Some, None, IsSome, IfSome, IfNone, refl, sym, subst, ap, ◌∙◌, arith}
use Rattle.std.proofs.lemmas.Option.{none-some, same_Some}
use Rattle.sweep_table.specs.LookParts.{IsOneRate}
use Rattle.sweep_table.proofs.Factors.{factor_of-le}
use Rattle.search_model.specs.Problem.{Problem, IsProblem}
use Rattle.search_model.specs.Bounds.{IsRate}
use Rattle.search_model.proofs.Rates.{one_rate_is_rate, one_rate}
use Rattle.tangent_bound.specs.Room.{IsRateFound}

-- what the sweep tells is the problem's rate
pub rate_told : (p : Problem) → IsProblem p → (found : Option ℕ) → IfSome found (IsOneRate p.sweep p.horizon) → IfNone found ((rate : ℕ) → IsOneRate p.sweep p.horizon rate → ⊥) → IsRateFound p found
rate_told p sound (Some r) some none rate =
    let is : IsRate p r = (one_rate_is_rate p r sound).0 some in
    (λ same. subst (IsRate p) (same_Some r rate same) is, λ other. ap Some (one_rate p r rate is other))
rate_told p sound None some none rate = (λ same. absurd (none-some rate same), λ is. absurd (none rate ((one_rate_is_rate p rate sound).1 is)))

-- the rate is a part of the denominator
pub rate-le : (p : Problem) → IsProblem p → (rate : ℕ) → IsRate p rate → rate ≤ p.sweep.denominator
rate-le p sound rate is =
    let (t, a, c, first, last, position, cell, at) = is.reached in
    omega (arith, at, factor_of-le p.sweep sound.sweep t a c)

-- a rate that was found is the problem's
pub found_is_rate : (p : Problem) (found kept : Option ℕ) (rate : ℕ) → IsRateFound p found → kept ≡ found → kept ≡ Some rate → IsRate p rate
found_is_rate p found kept rate told same is = (told rate).0 (sym same ∙ is)

-- where there is a rate, it is found
pub rate_there : (p : Problem) (found : Option ℕ) → IsRateFound p found → (rate : ℕ) × IsRate p rate → IsSome found
rate_there p (Some r) told (rate, is) = refl
rate_there p None told (rate, is) = absurd (none-some rate ((told rate).1 is))
