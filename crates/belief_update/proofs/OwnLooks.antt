-- The factors of a look over one cell alone.
use Rattle.std.proofs.Common.{◌≡◌, ◌≢◌, ◌∷◌, [], ℕ, refl, subst}
use Rattle.std.proofs.lemmas.Bool.{eq-eqb, ne_eqb}
use Rattle.sweep_table.specs.LookParts.{LookParts, look_row, factor_in, factor_of, misses}
use Rattle.search_model.specs.Problem.{Problem}

-- it misses its part there, and all elsewhere
pub own_factor_here : (g a part : ℕ) → factor_in g (misses a part ∷ []) a ≡ part
unfolding factor_in
own_factor_here g a part = rw (eq-eqb a a refl) refl

pub own_factor_there : (g a part c : ℕ) → a ≢ c → factor_in g (misses a part ∷ []) c ≡ g
unfolding factor_in
own_factor_there g a part c apart = rw (ne_eqb a c apart) refl

-- they are those of the sweep
pub own_factors : (p : Problem) (sweep : LookParts) (t a part : ℕ) → sweep ≡ p.sweep → ((u : ℕ) → look_row sweep u a ≡ misses a part ∷ []) → (c : ℕ) → factor_in p.sweep.denominator (misses a part ∷ []) c ≡ factor_of p.sweep t a c
unfolding factor_of
own_factors p sweep t a part same own c =
    let row : look_row p.sweep t a ≡ misses a part ∷ [] = subst (λ (s : LookParts). look_row s t a ≡ misses a part ∷ []) same (own t) in
    rw row refl
