-- What stands in a filtered list.
use Rattle.std.proofs.Common.{◌≡◌, Bool, true, List, [], ◌∷◌, filter, inl, inr, sym, ap, ◌∙◌, subst, Contains}
use Rattle.std.proofs.lemmas.Bool.{cond_both, true≢false}
use Rattle.list_laws.proofs.Members.{Contains-nil, Contains-head, Contains-tail, Contains-cons_cases}

-- an element that passes the test is kept
pub Contains-filter : {X : Type 0} (p : X → Bool) (xs : List X) (x : X) → Contains xs x → p x ≡ true → Contains (filter p xs) x
Contains-filter p [] x h e = absurd (Contains-nil x h)
Contains-filter p (a ∷ xs) x h e =
    cond_both (p a) (a ∷ filter p xs) (filter p xs) (λ ys. Contains ys x)
    (λ b. elim (Contains-cons_cases a x xs h) [ inl same ↦ (let P : _ → Type 0 = λ z. Contains (z ∷ filter p xs) x in subst P (sym same) (Contains-head x (filter p xs))) | inr k ↦ Contains-tail a x (filter p xs) (Contains-filter p xs x k e) ])
    (λ b. elim (Contains-cons_cases a x xs h) [ inl same ↦ absurd (true≢false (sym e ∙ (ap p (sym same)) ∙ b)) | inr k ↦ Contains-filter p xs x k e ])

-- what is kept is an element that passes the test
pub Contains-filter_parts : {X : Type 0} (p : X → Bool) (xs : List X) (x : X) → Contains (filter p xs) x → Contains xs x × (p x ≡ true)
Contains-filter_parts p [] x = λ h. absurd (Contains-nil x h)
Contains-filter_parts {X} p (a ∷ xs) x =
    cond_both (p a) (a ∷ filter p xs) (filter p xs) (λ ys. Contains ys x → Contains (a ∷ xs) x × (p x ≡ true))
    (λ b h. elim (Contains-cons_cases a x (filter p xs) h) [
      | inl same ↦ (let P : X → Type 0 = λ z. Contains (z ∷ xs) x × (p x ≡ true) in subst P (sym same) (Contains-head x xs, ap p (sym same) ∙ b))
      | inr k ↦ let parts = Contains-filter_parts p xs x k in (Contains-tail a x xs parts.0, parts.1)
    ])
    (λ b h. let parts = Contains-filter_parts p xs x h in (Contains-tail a x xs parts.0, parts.1))
