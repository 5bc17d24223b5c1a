-- Sums over tracks.
use Rattle.std.proofs.Common.{ℕ, zero, suc, ◌+◌, ◌≡◌, List, [], ◌∷◌, ◌++◌, map, length, refl, sym, ap, ◌∙◌, arith, sum_by, add-zero, zero-add, length-append, append_assoc}
use Rattle.std.specs.List.{range_with_len}
use Rattle.std.proofs.lemmas.List.{append-nil}
use Rattle.search_model.specs.Tracks.{tracks}
use Rattle.list_laws.proofs.Sums.{sum_by-same, sum_by-map, sum_by-flat_map}

-- there is one track of no cells
pub one_track : (f : List ℕ → ℕ) (cells : ℕ) → sum_by f (tracks cells 0) ≡ f []
unfolding tracks
one_track f cells = zero-add (f [])

-- a sum over tracks that are longer by one, by their last cells
pub sum_tracks-suc : (f : List ℕ → ℕ) (cells n : ℕ) → sum_by f (tracks cells (suc n)) ≡ sum_by (λ x. sum_by (λ c. f (x ++ c ∷ [])) (range_with_len 0 cells)) (tracks cells n)
unfolding tracks
sum_tracks-suc f cells n =
    sum_by-flat_map f (λ x. map (λ c. x ++ c ∷ []) (range_with_len 0 cells)) (tracks cells n)
    ∙ sum_by-same _ _ (tracks cells n) (λ x. sum_by-map f (λ c. x ++ c ∷ []) (range_with_len 0 cells))

-- a sum over tracks that are longer by one, by their first cells
pub sum_tracks-cons : (cells n : ℕ) (f : List ℕ → ℕ) → sum_by f (tracks cells (suc n)) ≡ sum_by (λ d. sum_by (λ z. f (d ∷ z)) (tracks cells n)) (range_with_len 0 cells)
sum_tracks-cons cells zero f =
    sum_tracks-suc f cells zero
    ∙ one_track (λ x. sum_by (λ c. f (x ++ c ∷ [])) (range_with_len 0 cells)) cells
    ∙ sum_by-same _ _ (range_with_len 0 cells) (λ d. sym (one_track (λ z. f (d ∷ z)) cells))
sum_tracks-cons cells (suc n) f =
    let all = range_with_len 0 cells in
    sum_tracks-suc f cells (suc n)
    ∙ sum_tracks-cons cells n (λ x. sum_by (λ e. f (x ++ e ∷ [])) all)
    ∙ sum_by-same _ _ all (λ d. sym (sum_tracks-suc (λ z. f (d ∷ z)) cells n))

-- a sum over tracks, by their fronts of n cells
pub sum_tracks-split : (cells n m : ℕ) (f : List ℕ → ℕ) → sum_by f (tracks cells (n + m)) ≡ sum_by (λ x. sum_by (λ z. f (x ++ z)) (tracks cells m)) (tracks cells n)
sum_tracks-split cells n zero f = rw (add-zero n) (sum_by-same _ _ (tracks cells n) (λ x. sym (one_track (λ z. f (x ++ z)) cells ∙ ap f (append-nil x))))
sum_tracks-split cells n (suc m) f =
    let all = range_with_len 0 cells in
    let e : n + suc m ≡ suc (n + m) = omega arith in
    rw e (sum_tracks-suc f cells (n + m)
    ∙ sum_tracks-split cells n m (λ x. sum_by (λ d. f (x ++ d ∷ [])) all)
    ∙ sum_by-same _ _ (tracks cells n) (λ x.
    sum_by-same _ _ (tracks cells m) (λ z. sum_by-same _ _ all (λ d. ap f (append_assoc x z (d ∷ []))))
    ∙ sym (sum_tracks-suc (λ z. f (x ++ z)) cells m)))

-- sums over tracks are equal where the terms of lists of their length are
pub sum_tracks-same : (cells n : ℕ) (f g : List ℕ → ℕ) → ((x : List ℕ) → length x ≡ n → f x ≡ g x) → sum_by f (tracks cells n) ≡ sum_by g (tracks cells n)
sum_tracks-same cells zero f g h = one_track f cells ∙ h [] refl ∙ sym (one_track g cells)
sum_tracks-same cells (suc n) f g h =
    sum_tracks-suc f cells n
    ∙ sum_tracks-same cells n _ _ (λ x e. sum_by-same _ _ (range_with_len 0 cells) (λ c. h (x ++ c ∷ []) (rw (length-append x (c ∷ [])) (omega (arith, e)))))
    ∙ sym (sum_tracks-suc g cells n)
