-- What the looks of a longer prefix miss of a track, by the looks of its front and those after.
use Rattle.std.proofs.Common.{ℕ, suc, ◌+◌, ◌*◌, ◌-◌, ◌^◌, ◌≤◌, ◌≡◌, List, [], ◌∷◌, ◌++◌, length, take, drop, refl, sym, ap, ◌∙◌, arith, add-zero}
use Rattle.std.proofs.Math.Nat.{pow-zero, pow-suc}
use Rattle.std.proofs.lemmas.List.{append-nil, take-append-drop, length-drop, length-take-le}
use Rattle.std.proofs.Math.Seq.{get_or-append_seam}
use Rattle.search_model.specs.Problem.{Problem}
use Rattle.search_model.specs.Tracks.{miss_from, miss_of}
use Rattle.search_model.specs.Bounds.{factors_along, cell_in}

-- the looks of the front, and those after it
pub miss_from-append : (p : Problem) (t : ℕ) (q z u v : List ℕ) → length u ≡ length q →
    miss_from p t (q ++ z) (u ++ v) ≡ factors_along p t q (u ++ v) * miss_from p (t + length q) z v
unfolding miss_from factors_along
miss_from-append p t [] z [] v e = rw (add-zero t) (omega arith)
miss_from-append p t [] z (c ∷ u) v e = absurd (omega (arith, e))
miss_from-append p t (a ∷ q) z [] v e = absurd (omega (arith, e))
miss_from-append p t (a ∷ q) z (c ∷ u) v e =
    let later : t + suc (length q) ≡ t + 1 + length q = omega arith in
    rw (later, miss_from-append p (t + 1) q z u v (omega (arith, e))) (omega arith)

-- periods without a look count the denominator
pub miss_from-none : (p : Problem) (t : ℕ) (v : List ℕ) → miss_from p t [] v ≡ p.sweep.denominator ^ length v
unfolding miss_from
miss_from-none p t [] = sym (pow-zero p.sweep.denominator)
miss_from-none p t (c ∷ v) = rw (miss_from-none p (t + 1) v, pow-suc p.sweep.denominator (length v)) (omega arith)

module _ (p : Problem) (q x : List ℕ) (long : length q ≤ length x) where
  -- what a longer prefix misses
  pub miss_of-append : (z : List ℕ) → miss_of p (q ++ z) x ≡ factors_along p 1 q x * miss_from p (1 + length q) z (drop (length q) x)
  miss_of-append z =
      let parts = miss_from-append p 1 q z (take (length q) x) (drop (length q) x) (length-take-le (length q) x long) in
      rw (take-append-drop (length q) x) at parts

  -- what the prefix alone misses
  pub miss_of-front : miss_of p q x ≡ factors_along p 1 q x * p.sweep.denominator ^ (length x - length q)
  miss_of-front =
      let parts = miss_of-append [] in
      let size = length-drop (length q) x in
      ap (λ (r : List ℕ). miss_of p r x) (sym (append-nil q)) ∙ parts ∙ rw (miss_from-none p (1 + length q) (drop (length q) x), size) refl

-- the cell of a track in the period after some of its cells
pub cell_in-after : (u : List ℕ) (c : ℕ) (x : List ℕ) (t : ℕ) → t ≡ length u + 1 → cell_in (u ++ c ∷ x) t ≡ c
cell_in-after u c x t e = let last : t - 1 ≡ length u = omega (arith, e) in rw last (get_or-append_seam u c x 0)
