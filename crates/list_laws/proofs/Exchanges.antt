-- Joined lists in another order.
use Rattle.std.proofs.Common.{◌≡◌, List, ◌++◌, sym, subst, append_assoc, IsPermutation}
use Rattle.std.proofs.lemmas.List.Sorted.{IsPermutation-refl, IsPermutation-trans, IsPermutation-append_left, IsPermutation-append_right, IsPermutation-append_comm}

module _ {T : Type 0} where
  -- equal lists
  pub IsPermutation-same : (xs ys : List T) → xs ≡ ys → IsPermutation xs ys
  IsPermutation-same xs ys e = subst (λ (l : List T). IsPermutation xs l) e (IsPermutation-refl xs)

  -- the last of three lists comes before the second
  pub IsPermutation-swap_last : (a b c : List T) → IsPermutation ((a ++ b) ++ c) ((a ++ c) ++ b)
  IsPermutation-swap_last a b c =
      IsPermutation-trans _ _ _ (IsPermutation-same _ _ (append_assoc a b c))
      (IsPermutation-trans _ _ _ (IsPermutation-append_right a (b ++ c) (c ++ b) (IsPermutation-append_comm b c))
      (IsPermutation-same _ _ (sym (append_assoc a c b))))

  -- of four lists the inner two change places
  pub IsPermutation-swap_inner : (a b c d : List T) → IsPermutation ((a ++ b) ++ (c ++ d)) ((a ++ c) ++ (b ++ d))
  IsPermutation-swap_inner a b c d =
      IsPermutation-trans _ _ _ (IsPermutation-same _ _ (sym (append_assoc (a ++ b) c d)))
      (IsPermutation-trans _ _ _ (IsPermutation-append_left d _ _ (IsPermutation-swap_last a b c))
      (IsPermutation-same _ _ (append_assoc (a ++ c) b d)))
