-- What holds of each of some views.
use Rattle.std.proofs.Common.{◌≡◌, ◌≢◌, ⊎_elim, ℕ, List, [], ◌∷◌, ◌++◌, set, subst}
use mathlib.Core.Option.{some}
use lib.ListN.{get_elem?}
use Rattle.atomic_table.proofs.Lists.{at_set, at_snoc}

module _ {V : Type 0} where
  -- what holds of each view, after a write
  abbrev pub Each : (V → Type 0) → List V → Type 0
  Each P views = (port : ℕ) (v : V) → get_elem? views port ≡ some v → P v

  pub each_set : (P : V → Type 0) (views : List V) (port : ℕ) (w : V) → P w → Each P views → Each P (set views port w)
  each_set P views port w mine others j u e =
      ⊎_elim (λ (x : (j ≡ port) × (w ≡ u)). subst (λ (y : V). P y) x.1 mine)
      (λ (x : (j ≢ port) × (get_elem? views j ≡ some u)). others j u x.1) (at_set views port j w u e)

  -- and with one more view
  pub each_push : (P : V → Type 0) (views : List V) (w : V) → P w → Each P views → Each P (views ++ w ∷ [])
  each_push P views w mine others j u e = ⊎_elim (λ x. others j u x) (λ (is : w ≡ u). subst (λ (y : V). P y) is mine) (at_snoc views w u j e)
