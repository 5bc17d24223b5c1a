-- The places of some positions, written one after another.
use Rattle.std.proofs.Common.{ℕ, ◌+◌, ◌<◌, ◌≡◌, ◌≢◌, List, length, slice_index, slice_set, inl, inr, ap, ◌∙◌, subst, arith, Contains}
use Rattle.std.proofs.lemmas.Bool.{cases_lt, cases_eq}
use Rattle.std.proofs.lemmas.List.{get_or-set_same, get_or-set_other, get_or_default}

-- one place more
pub place_more : (f : ℕ → ℕ) (xs old : List ℕ) (here i v : ℕ) → here + slice_index xs i < length old → v ≡ f (slice_index xs i) →
    ((j : ℕ) → j < i → slice_index old (here + slice_index xs j) ≡ f (slice_index xs j)) →
    (j : ℕ) → j < i + 1 → slice_index (slice_set old (here + slice_index xs i) v) (here + slice_index xs j) ≡ f (slice_index xs j)
place_more f xs old here i v inside is before j next = elim (cases_eq (slice_index xs j) (slice_index xs i)) [
  | inl same ↦ rw same (get_or-set_same old (here + slice_index xs i) v 0 inside ∙ is)
  | inr apart ↦
      let other : here + slice_index xs j ≢ here + slice_index xs i = λ e. apart (omega (arith, e)) in
      get_or-set_other old (here + slice_index xs i) (here + slice_index xs j) v 0 other ∙ before j (elim (cases_lt j i) [
        | inl less ↦ less
        | inr not ↦ absurd (apart (ap (slice_index xs) (let e : j ≡ i = omega (arith, not, next) in e)))
      ])
]

-- all places
pub place_all : (f : ℕ → ℕ) (xs new : List ℕ) (here : ℕ) → ((j : ℕ) → j < length xs → slice_index new (here + slice_index xs j) ≡ f (slice_index xs j)) →
    (u : ℕ) → Contains xs u → slice_index new (here + u) ≡ f u
place_all f xs new here each u (j, inside, at) =
    subst (λ v. slice_index new (here + v) ≡ f v) (get_or_default xs j 0 u inside ∙ at) (each j inside)
