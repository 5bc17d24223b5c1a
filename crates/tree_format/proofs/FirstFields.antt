-- The first fields of a line, taken one after the other.
use Rattle.std.proofs.Common.{◌≡◌, ℕ, suc, ◌<◌, ◌+◌, ◌-◌, List, [], ◌∷◌, ◌++◌, map, length, set, take, Bor, refl, sym, ap, ◌∙◌, arith, append_assoc}
use Rattle.std.proofs.lemmas.List.{map-append, append-nil, take_all, take_more_set}

abbrev pub fronts : List (List ℕ) → List (List ℕ)
fronts fields = map (λ f. take 40 f) fields

-- one field more
pub field_added : (items : List (Bor (List ℕ))) (n : ℕ) (b : Bor (List ℕ)) (fields later all : List (List ℕ)) (field : List ℕ) → n < 70 → length items ≡ 70 → b.now ≡ take 40 field → fields ≡ field ∷ later →
    map (λ f. f.now) (take n items) ++ fronts (take (70 - n) fields) ≡ all → map (λ f. f.now) (take (n + 1) (set items n b)) ++ fronts (take (70 - (n + 1)) later) ≡ all
field_added items n b fields later all field lt room front is so_far =
    let now : Bor (List ℕ) → List ℕ = λ f. f.now in
    let done = map now (take n items) in
    let more = fronts (take (70 - (n + 1)) later) in
    let left : map now (take (n + 1) (set items n b)) ≡ done ++ take 40 field ∷ [] =
    ap (map now) (take_more_set items n b (omega (arith, lt, room))) ∙ map-append now (take n items) (b ∷ []) ∙ ap (λ (x : List ℕ). done ++ x ∷ []) front in
    let step : 70 - n ≡ suc (70 - (n + 1)) = omega arith in
    let right : fronts (take (70 - n) fields) ≡ take 40 field ∷ more = rw (is, step) refl in
    ap (λ (x : List (List ℕ)). x ++ more) left ∙ append_assoc done (take 40 field ∷ []) more ∙ ap (λ (x : List (List ℕ)). done ++ x) (sym right) ∙ so_far

-- and that was the last
pub field_last : (items : List (Bor (List ℕ))) (n : ℕ) (b : Bor (List ℕ)) (fields all : List (List ℕ)) (field : List ℕ) → n < 70 → length items ≡ 70 → b.now ≡ take 40 field → fields ≡ field ∷ [] →
    map (λ f. f.now) (take n items) ++ fronts (take (70 - n) fields) ≡ all → map (λ f. f.now) (take (n + 1) (set items n b)) ≡ all
field_last items n b fields all field lt room front is so_far =
    let done = map (λ (f : Bor (List ℕ)). f.now) (take (n + 1) (set items n b)) in
    let none : take (70 - (n + 1)) [] ≡ [] = take_all (70 - (n + 1)) [] (omega arith) in
    sym (ap (λ (x : List (List ℕ)). done ++ fronts x) none ∙ append-nil done) ∙ field_added items n b fields [] all field lt room front is so_far

pub ruleset first_steps = (field_added, field_last)
