-- What the dialects of a family have in common, and what follows from whether nodes may wait.
use Rattle.std.proofs.Common.{◌≡◌, ℕ, ◌<◌, ◌^◌, true, false, [], ◌∷◌, refl, sym, subst}
use Rattle.std.specs.Prelude.{Bool}
use Rattle.bound_tree.specs.declared.gap.Numbers.TheVariants.{Means}
use Rattle.tree_format.specs.declared.plan_line.Dialect.{Dialect}
use Rattle.tree_format.specs.declared.plan_line.Dialect.TheVariants.{PlanOne, PlanTwo, PlanThree, GapOne, GapTwo}
use Rattle.tree_format.specs.declared.plan_line.Family.TheVariants.{Plans}
use Rattle.tree_format.specs.Dialects.{family_of, has_open, numbers_in}
use Rattle.tree_format.specs.PlanText.{ceiling_row, ceiling_rows}

-- no node waits in a text of plans
pub none_waits : (v : Dialect) → family_of v ≡ Plans → has_open v ≡ false
none_waits PlanOne e = refl
none_waits PlanTwo e = refl
none_waits PlanThree e = refl
none_waits GapOne e = absurd (let bad : ⊥ = cc in bad)
none_waits GapTwo e = absurd (let bad : ⊥ = cc in bad)

pub numbers_back : (v : Dialect) → family_of v ≡ Plans → Means ≡ numbers_in v
numbers_back PlanOne e = refl
numbers_back PlanTwo e = refl
numbers_back PlanThree e = refl
numbers_back GapOne e = refl
numbers_back GapTwo e = absurd (let bad : ⊥ = cc in bad)

-- where none waits, no line says the ceiling
pub no_ceiling : (v : Dialect) (ceiling : ℕ) → has_open v ≡ false → ceiling_rows v ceiling ≡ []
no_ceiling v ceiling none = rw none refl

pub ceiling_written : (v : Dialect) (ceiling : ℕ) → has_open v ≡ true → ceiling_rows v ceiling ≡ ceiling_row ceiling ∷ []
ceiling_written v ceiling has = rw has refl

-- and the ceiling is the value
abbrev pub IsCeilingWhere : Bool → ℕ → ℕ → Type 0
IsCeilingWhere true value ceiling = ceiling < 2 ^ 128
IsCeilingWhere false value ceiling = ceiling ≡ value

abbrev pub IsCeiling : Dialect → ℕ → ℕ → Type 0
IsCeiling v value ceiling = IsCeilingWhere (has_open v) value ceiling

pub ceiling_read : (v : Dialect) (b : Bool) (value ceiling : ℕ) → has_open v ≡ b → IsCeiling v value ceiling → IsCeilingWhere b value ceiling
ceiling_read v b value ceiling e is = subst (λ (x : Bool). IsCeilingWhere x value ceiling) e is

pub ceiling_is_read : (v : Dialect) (b : Bool) (value ceiling : ℕ) → has_open v ≡ b → IsCeilingWhere b value ceiling → IsCeiling v value ceiling
ceiling_is_read v b value ceiling e is = subst (λ (x : Bool). IsCeilingWhere x value ceiling) (sym e) is
