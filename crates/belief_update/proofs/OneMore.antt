-- One look more: what it leaves of the masses and what it takes of them.
use Rattle.std.proofs.Common.{ℕ, zero, suc, ◌+◌, ◌*◌, ◌-◌, ◌≤◌, ◌≡◌, List, [], ◌∷◌, ◌++◌, Option, Some, None, length, replicate, sym, ap, ◌∙◌, arith, sum_by, length-append, append_assoc}
use Rattle.std.specs.List.{range_with_len}
use Rattle.std.proofs.lemmas.List.{length-replicate, replicate-append-replicate}
use Rattle.drift_chain.specs.DriftRows.{part_of}
use Rattle.sweep_table.specs.LookParts.{factor_of}
use Rattle.sweep_table.proofs.Factors.{factor_of-le}
use Rattle.list_laws.proofs.Sums.{sum_by-same, sum_by-times, sum_by-plus}
use Rattle.belief_update.specs.Masses.{mass_of}
use Rattle.belief_update.specs.Taken.{and_then, taken_of}
use Rattle.belief_update.specs.Laws.{OneLookMore}
use Rattle.belief_update.proofs.MassSteps.{mass_of-look}
use Rattle.belief_update.proofs.BeliefSteps.{drift_mass_at}

-- a mass, of which a look with factor f leaves a part and finds the rest
pub left_and_found : (g f m : ℕ) → f ≤ g → m * f + m * (g - f) ≡ m * g
left_and_found g f m within =
    let both : f + (g - f) ≡ g = omega (arith, within) in
    let whole : m * (f + (g - f)) ≡ m * g = ap (λ (s : ℕ). m * s) both in
    omega (arith, whole)

-- one period more without a look
pub and_then-drift : (looks : List (Option ℕ)) (look : Option ℕ) (n : ℕ) → and_then looks look (suc n) ≡ and_then looks look n ++ None ∷ []
and_then-drift looks look n =
    let none : Option ℕ = None in
    let next : suc n ≡ n + 1 = omega arith in
    let more : replicate (suc n) none ≡ replicate n none ++ none ∷ [] = ap (λ (k : ℕ). replicate k none) next ∙ sym (replicate-append-replicate n 1 none) in
    ap (λ (later : List (Option ℕ)). looks ++ look ∷ later) more ∙ sym (append_assoc looks (look ∷ replicate n none) (none ∷ []))

pub length-and_then : (looks : List (Option ℕ)) (look : Option ℕ) (n : ℕ) → length (and_then looks look n) ≡ length looks + suc n
length-and_then looks look n =
    let none : Option ℕ = None in
    omega (arith, length-append looks (look ∷ replicate n none), length-replicate n none)

pub one_look_more : OneLookMore
unfolding taken_of
one_look_more p sound looks a zero c =
    let f = factor_of p.sweep (length looks + 1) a c in
    let both = left_and_found p.sweep.denominator f (mass_of p (looks ++ None ∷ []) c) (factor_of-le p.sweep sound.sweep (length looks + 1) a c) in
    rw (mass_of-look p looks a c) both
one_look_more p sound looks a (suc n) d =
    let all = range_with_len 0 p.cells in
    let g = p.sweep.denominator in
    let t = length looks + suc n in
    let part : ℕ → ℕ = λ c. part_of p.drift t c d in
    let left : ℕ → ℕ = λ c. mass_of p (and_then looks (Some a) n) c * part c in
    let taken : ℕ → ℕ = λ c. taken_of p looks a n c * part c in
    let whole : ℕ → ℕ = λ c. mass_of p (and_then looks None n) c * part c in
    let some : 1 ≤ t = omega arith in
    let with_look : sum_by left all ≡ mass_of p (and_then looks (Some a) (suc n)) d =
    drift_mass_at p (and_then looks (Some a) n) t d (length-and_then looks (Some a) n) some ∙ ap (λ (made : List (Option ℕ)). mass_of p made d) (sym (and_then-drift looks (Some a) n)) in
    let without : sum_by whole all ≡ mass_of p (and_then looks None (suc n)) d =
    drift_mass_at p (and_then looks None n) t d (length-and_then looks None n) some ∙ ap (λ (made : List (Option ℕ)). mass_of p made d) (sym (and_then-drift looks None n)) in
    let each : sum_by (λ c. left c + taken c) all ≡ sum_by (λ c. whole c * g) all =
    sum_by-same _ _ all (λ c. let both = one_look_more p sound looks a n c in
    let scaled : (mass_of p (and_then looks (Some a) n) c + taken_of p looks a n c) * part c ≡ mass_of p (and_then looks None n) c * g * part c = ap (λ (m : ℕ). m * part c) both in
    omega (arith, scaled)) in
    let parts = sum_by-plus left taken all in
    let times = sum_by-times whole g all in
    rw (← with_look, ← without) (omega (arith, each, parts, times))
