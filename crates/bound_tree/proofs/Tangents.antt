-- A prefix's tangent bound: there is at most one, and whether there is one is decided by the look factors.
use Rattle.std.proofs.Common.{◌≡◌, ◌⊎◌, ℕ, ◌+◌, ◌-◌, ◌<◌, List, ◌++◌, length, inl, inr, sym, refl, ap, ◌∙◌, subst, arith}
use Rattle.std.proofs.lemmas.List.{take_at}
use Rattle.sweep_table.proofs.OneRate.{one_rate_or_none}
use Rattle.search_model.specs.Problem.{Problem, IsProblem}
use Rattle.search_model.specs.Legal.{IsLegal, last_of}
use Rattle.search_model.specs.Bounds.{reward_of, IsRate, tangent_of}
use Rattle.search_model.proofs.LegalLemmas.{last_within}
use Rattle.search_model.proofs.WalkLemmas.{continuations_are}
use Rattle.search_model.proofs.Rates.{one_rate, one_rate_is_rate}
use Rattle.search_model.proofs.LeastBest.{one_least_best}
use Rattle.bound_tree.specs.Accepts.{Extends}
use Rattle.bound_tree.specs.Close.{IsTangent}
use Rattle.search_model.specs.Reference.{IsReference}

-- without one rate a prefix has no tangent
pub tangent_needs_rate : (p : Problem) (q : List ℕ) (b : ℕ) (whole : List ℕ) → ((rate : ℕ) → IsRate p rate → ⊥) → IsTangent p q b whole → ⊥
tangent_needs_rate p q b whole none tangent = none tangent.rate tangent.is_rate

-- whether a problem's look factors have one rate
pub rate_or_none : (p : Problem) → IsProblem p → ((rate : ℕ) × IsRate p rate) ⊎ ((rate : ℕ) → IsRate p rate → ⊥)
rate_or_none p sound = elim (one_rate_or_none p.sweep sound.sweep p.horizon sound.horizon.0) [
  | inl (rate, one) ↦ inl (rate, (one_rate_is_rate p rate sound).0 one)
  | inr none ↦ inr (λ rate is. none rate ((one_rate_is_rate p rate sound).1 is))
]

module _ (p : Problem) (q : List ℕ) (sound : IsProblem p) (legal : IsLegal p q) where
  -- a prefix has one reference
  only_reference : (y : List ℕ) × IsReference p q (q ++ y) × ((whole : List ℕ) → IsReference p q whole → whole ≡ q ++ y)
  only_reference =
      let start : p.start < length p.moves = omega (arith, sound.start, sound.grid_positions) in
      let here = last_within p.moves sound.grid p.start start q legal.follows in
      let (y, least, only) = one_least_best p.moves (reward_of p q) (p.horizon - length q) (length q + 1) (last_of p.start q) sound.grid here in
      (y, (y, refl, least), λ whole (z, is, other). is ∙ ap (λ (u : List ℕ). q ++ u) (only z other))

  -- the reference is a path that extends the prefix
  pub reference_extends : (whole : List ℕ) → IsReference p q whole → Extends p q whole
  reference_extends whole (y, is, least) =
      subst (Extends p q) (sym is) (record { path = (continuations_are p q y legal).0 least.walk; front = take_at q y (length q) refl })

  -- a prefix has one tangent at most
  pub one_tangent : (b c : ℕ) (x y : List ℕ) → IsTangent p q b x → IsTangent p q c y → (b ≡ c) × (x ≡ y)
  one_tangent b c x y first second =
      let (_, _, only) = only_reference in
      let rate : first.rate ≡ second.rate = one_rate p first.rate second.rate first.is_rate second.is_rate in
      let path : x ≡ y = only x first.reference ∙ sym (only y second.reference) in
      (first.bound ∙ ap (λ (r : ℕ). tangent_of p r q x) rate ∙ ap (λ (w : List ℕ). tangent_of p second.rate q w) path ∙ sym second.bound, path)

  -- a prefix has a tangent, or none
  pub tangent_or_none : ((b : ℕ) × (whole : List ℕ) × IsTangent p q b whole) ⊎ ((b : ℕ) (whole : List ℕ) → IsTangent p q b whole → ⊥)
  tangent_or_none = elim (rate_or_none p sound) [
    | inl (rate, is) ↦
        let (y, reference, _) = only_reference in
        inl (tangent_of p rate q (q ++ y), q ++ y, record { rate = rate; is_rate = is; reference = reference; bound = refl })
    | inr none ↦ inr (λ b whole. tangent_needs_rate p q b whole none)
  ]
