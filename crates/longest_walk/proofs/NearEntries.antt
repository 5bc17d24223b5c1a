-- A table with a row of places for each period, filled row by row for the positions within reach.
use Rattle.std.proofs.Common.{ℕ, suc, ◌+◌, ◌*◌, ◌-◌, ◌<◌, ◌≤◌, ◌≡◌, List, [], ◌∷◌, length, slice_index, inl, inr, refl, ◌∙◌, subst, arith}
use Rattle.std.proofs.lemmas.Bool.{cases_lt}
use Rattle.search_grid.specs.Moves.{IsGrid}
use Rattle.search_model.specs.Legal.{Follows}
use Rattle.search_model.specs.Bounds.{sum_along}
use Rattle.longest_walk.specs.Near.{IsNear}
use Rattle.longest_walk.specs.Tables.{HasNear}
use Rattle.longest_walk.proofs.Entries.{earlier_place}
use Rattle.longest_walk.proofs.NearSteps.{near_within}

-- one row more, with the rows before it as they were
pub near_more : (rows : List (List ℕ)) → IsGrid rows → (places : ℕ) (f : ℕ → ℕ → ℕ) (from k : ℕ) (old new : List ℕ) (t : ℕ) → length rows ≡ places → from < length rows → HasNear rows places t f from k old →
    ((a : ℕ) → IsNear rows (t + 1 - k) from a → slice_index new (t * places + a) ≡ f (t + 1) a) →
    ((i : ℕ) → i < t * places → slice_index new i ≡ slice_index old i) →
    HasNear rows places (t + 1) f from k new
near_more rows grid places f from k old new t all start filled row kept u a later last near =
    elim (cases_lt t u) [
      | inl after ↦
          let period : u ≡ t + 1 = omega (arith, after, last) in
          let before : t + 1 - 1 ≡ t = omega arith in
          rw (period, before) (row a (subst (λ (v : ℕ). IsNear rows (v - k) from a) period near))
      | inr within ↦
          let here : a < places = omega (arith, near_within rows grid (u - k) from a start near, all) in
          kept ((u - 1) * places + a) (earlier_place places t u a here (omega (arith, later)) within) ∙ filled u a later within near
    ]

-- rewards that agree on the positions within reach have the same sum along a walk
pub along_near : (rows : List (List ℕ)) (r s : ℕ → ℕ → ℕ) (from k t a : ℕ) (y : List ℕ) → k < t → IsNear rows (t - 1 - k) from a → Follows rows a y →
    ((u q : ℕ) → t ≤ u → u < t + length y → IsNear rows (u - k) from q → r u q ≡ s u q) → sum_along r t y ≡ sum_along s t y
unfolding sum_along
along_near rows r s from k t a [] after near follows same = refl
along_near rows r s from k t a (b ∷ y) after near follows same =
    let steps : t - k ≡ suc (t - 1 - k) = omega (arith, after) in
    let there : IsNear rows (t - k) from b = rw steps (inr (a, near, follows.0)) in
    let back : t + 1 - 1 - k ≡ t - k = omega arith in
    let first : r t b ≡ s t b = same t b (omega arith) (omega arith) there in
    let rest = along_near rows r s from k (t + 1) b y (omega (arith, after)) (rw back there) follows.1 (λ u q begin end here. same u q (omega (arith, begin)) (omega (arith, end)) here) in
    omega (arith, first, rest)
