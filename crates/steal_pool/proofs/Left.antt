-- What is left of a list of tasks.
use Rattle.std.proofs.Common.{◌≡◌, ℕ, ◌+◌, List, [], ◌∷◌, ◌++◌, length, sym, ap, ◌∙◌, arith, IsPermutation, length-append, slice_get, Some}
use Rattle.std.proofs.lemmas.List.Sorted.{IsPermutation-trans, length_permutation}
use Rattle.std.proofs.lemmas.List.{append-nil}
use Rattle.steal_pool.specs.Rule.{IsLeft}
use Rattle.list_laws.proofs.Exchanges.{IsPermutation-same}
use Rattle.steal_pool.proofs.Places.{slice_get_at}

module _ {T : Type 0} where
  -- as many are gone as were taken
  gone_many : (put taken left : List T) (h : IsLeft put taken left) → length h.gone ≡ length taken
  gone_many put taken left h = sym (length_permutation _ _ h.took)

  -- there are as many tasks as were taken and are left
  pub left_many : (put taken left : List T) → IsLeft put taken left → length put ≡ length taken + length left
  left_many put taken left h = omega (arith, ap length h.order, length-append h.gone left, gone_many put taken left h)

  -- where none is left, all were taken
  pub left_none : (put taken : List T) → IsLeft put taken [] → IsPermutation put taken
  left_none put taken h = IsPermutation-trans _ _ _ (IsPermutation-same _ _ (h.order ∙ append-nil h.gone)) h.took

  -- the first task that is left comes after as many as were taken
  pub left_first : (put taken later : List T) (x : T) → IsLeft put taken (x ∷ later) → slice_get put (length taken) ≡ Some x
  left_first put taken later x h =
      ap (λ (l : List T). slice_get l (length taken)) h.order
      ∙ ap (λ (n : ℕ). slice_get (h.gone ++ x ∷ later) n) (sym (gone_many put taken (x ∷ later) h))
      ∙ slice_get_at h.gone later x
