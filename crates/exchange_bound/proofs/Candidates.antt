-- Rows of candidates: one noted down more, and one taken out.
use Rattle.std.proofs.Common.{ℕ, ◌+◌, ◌<◌, ◌≤◌, ◌≡◌, ◌⊎◌, List, [], ◌∷◌, ◌++◌, length, set, inl, inr, sym, ap, subst, ◌∙◌, arith, Contains, length-set, length-append, get_or-set_same, get_or-set_other}
use Rattle.std.proofs.lemmas.Bool.{cases_lt, cases_order}
use Rattle.std.proofs.lemmas.List.Elements.{Contains-append_cases}
use Rattle.list_laws.proofs.Members.{Contains-nil, Contains-cons_cases}
use Rattle.search_model.specs.Problem.{Problem}
use Rattle.bound_tree.specs.Exchanges.{StandsIn, exchanged}
use Rattle.exchange_bound.specs.declared.stand_in.Candidate.{Candidate}
use Rattle.exchange_bound.specs.StandIns.{IsCandidate, AreCandidates, AreLeft, place_at}

-- no candidate
abbrev none : Candidate
none = record { value = 0; position = 0 }

-- a list with one element more has that, or what it had
pushed_cases : (tried : List ℕ) (u v : ℕ) → Contains (tried ++ u ∷ []) v → Contains tried v ⊎ (u ≡ v)
pushed_cases tried u v has = elim (Contains-append_cases tried (u ∷ []) v has) [
  | inl before ↦ inl before
  | inr last ↦ elim (Contains-cons_cases u v [] last) [ inl e ↦ inr e | inr nothing ↦ absurd (Contains-nil v nothing) ]
]

module _ (p : Problem) (q tried : List ℕ) (n : ℕ) (row : List Candidate) (noted : AreCandidates p q tried n row) (u : ℕ) where
  -- with a candidate behind the first n there is one more
  pub noted_more : (found : Candidate) → n < length row → IsCandidate p q found → found.position ≡ u → AreCandidates p q (tried ++ u ∷ []) (n + 1) (set row n found)
  noted_more found room is same = record {
    few = omega (arith, length-append tried (u ∷ []), noted.few);
    inside = omega (arith, length-set row n found, room);
    right = λ j from to. elim (cases_lt j n) [
      | inl before ↦ rw (get_or-set_other row n j found none (λ e. omega (arith, e, before))) (noted.right j from before)
      | inr behind ↦
          let here : j ≡ n = omega (arith, behind, to) in
          rw (here, get_or-set_same row n found none room) is
    ];
    all = λ v has stands. elim (pushed_cases tried u v has) [
      | inl before ↦
          let (j, from, to, there) = noted.all v before stands in
          (j, from, omega (arith, to), ap (λ (e : Candidate). e.position) (get_or-set_other row n j found none (λ e. omega (arith, e, to))) ∙ there)
      | inr last ↦ (n, omega arith, omega arith, ap (λ (e : Candidate). e.position) (get_or-set_same row n found none room) ∙ same ∙ last)
    ];
  }

  -- what doesn't stand in needs no place
  pub noted_none : ¬ StandsIn p (exchanged u q) q → AreCandidates p q (tried ++ u ∷ []) n row
  noted_none free = record {
    few = omega (arith, length-append tried (u ∷ []), noted.few);
    inside = noted.inside;
    right = noted.right;
    all = λ v has stands. elim (pushed_cases tried u v has) [
      | inl before ↦ noted.all v before stands
      | inr last ↦ absurd (free (subst (λ (w : ℕ). StandsIn p (exchanged w q) q) (sym last) stands))
    ];
  }

-- without a candidate that doesn't stand in, in whose place the first one is put, those behind the first are left
pub left_after : (p : Problem) (q : List ℕ) (from to : ℕ) (row : List Candidate) (j : ℕ) → from ≤ j → j < to → AreLeft p q from to row → ¬ StandsIn p (exchanged (place_at row j).position q) q →
    AreLeft p q (from + 1) to (set row j (place_at row from))
left_after p q from to row j first last left free =
    let here : j < length row = omega (arith, last, left.inside) in
    let moved = place_at row from in
    record {
      inside = omega (arith, length-set row j moved, left.inside);
      right = λ k after before. elim (cases_order k j) [
        | inl same ↦ rw (same, get_or-set_same row j moved none here) (left.right from (omega arith) (omega (arith, first, last)))
        | inr apart ↦ rw (get_or-set_other row j k moved none (λ e. omega (arith, e, apart))) (left.right k (omega (arith, after)) before)
      ];
      all = λ u stands.
          let (k, after, before, there) = left.all u stands in
          elim (cases_order k j) [
            | inl same ↦
                let is : (place_at row j).position ≡ u = ap (λ (i : ℕ). (place_at row i).position) (sym same) ∙ there in
                absurd (free (subst (λ (v : ℕ). StandsIn p (exchanged v q) q) (sym is) stands))
            | inr apart ↦ elim (cases_lt from k) [
              | inl later ↦ (k, omega (arith, later), before, ap (λ (e : Candidate). e.position) (get_or-set_other row j k moved none (λ e. omega (arith, e, apart))) ∙ there)
              | inr early ↦
                  let same : k ≡ from = omega (arith, early, after) in
                  let later : from + 1 ≤ j = omega (arith, same, apart, first) in
                  (j, later, last, ap (λ (e : Candidate). e.position) (get_or-set_same row j moved none here) ∙ ap (λ (i : ℕ). (place_at row i).position) (sym same) ∙ there)
            ]
          ];
    }
