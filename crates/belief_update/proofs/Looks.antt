-- The looks of a prefix, and none after them.
use Rattle.std.proofs.Common.{ℕ, suc, ◌+◌, ◌-◌, ◌≤◌, ◌≡◌, List, [], ◌∷◌, ◌++◌, Option, Some, None, map, max, length, replicate, take, drop, slice_index, refl, sym, ap, ◌∙◌, arith, length-append, append_assoc, All}
use Rattle.std.proofs.lemmas.List.{map-append, append-nil, length-map, length-replicate, replicate-append-replicate}
use Rattle.std.proofs.lemmas.List.Elements.{All-tail}
use Rattle.std.proofs.Math.Seq.{take-length}
use Rattle.std.proofs.Math.Nat.{max-eq_right}
use Rattle.belief_update.specs.Masses.{looks_to}

-- they are one option for each period
pub length-looks_to : (t : ℕ) (q : List ℕ) → length q ≤ t → length (looks_to t q) ≡ t
length-looks_to t q short =
    let none : Option ℕ = None in
    omega (arith, length-append (map Some q) (replicate (t - length q) none), length-map q Some, length-replicate (t - length q) none, short)

-- in the period of the last look there is none after it
pub looks_to-whole : (t : ℕ) (q : List ℕ) → t ≡ length q → looks_to t q ≡ map Some q
looks_to-whole t q e =
    let none : t - length q ≡ 0 = omega (arith, e) in
    rw none (append-nil (map Some q))

-- a further look in the next period
pub looks_to-look : (q : List ℕ) (a : ℕ) → looks_to (length q + 1) (q ++ a ∷ []) ≡ looks_to (length q) q ++ Some a ∷ []
looks_to-look q a =
    looks_to-whole (length q + 1) (q ++ a ∷ []) (sym (length-append q (a ∷ [])))
    ∙ map-append Some q (a ∷ [])
    ∙ ap (λ (looks : List (Option ℕ)). looks ++ Some a ∷ []) (sym (looks_to-whole (length q) q refl))

-- a further period without a look
pub looks_to-drift : (t : ℕ) (q : List ℕ) → length q ≤ t → looks_to (t + 1) q ≡ looks_to t q ++ None ∷ []
looks_to-drift t q short =
    let none : Option ℕ = None in
    let more : t + 1 - length q ≡ t - length q + 1 = omega (arith, short) in
    rw more (ap (λ (looks : List (Option ℕ)). map Some q ++ looks) (sym (replicate-append-replicate (t - length q) 1 none)) ∙ sym (append_assoc (map Some q) (replicate (t - length q) none) (none ∷ [])))

-- a list with an element is its first one and the later ones
pub first_and_later : (q : List ℕ) → 1 ≤ length q → slice_index q 0 ∷ take (length q - 1) (drop 1 q) ≡ q
first_and_later [] some = absurd (omega (arith, some))
first_and_later (a ∷ q) some =
    let rest : suc (length q) - 1 ≡ length q = omega arith in
    rw (rest, take-length q) refl

-- from the first look on, the looks of a whole prefix
pub looks_to-some : (q : List ℕ) → 1 ≤ length q → looks_to (max 1 (length q)) q ≡ map Some q
looks_to-some q some = looks_to-whole (max 1 (length q)) q (max-eq_right some)

-- what holds of each element of a list holds of the later ones
pub later_all : (P : ℕ → Type 0) (q : List ℕ) → All P q → All P (take (length q - 1) (drop 1 q))
later_all P [] all = all
later_all P (a ∷ q) all =
    let rest : suc (length q) - 1 ≡ length q = omega arith in
    rw (rest, take-length q) (All-tail P a q all)
