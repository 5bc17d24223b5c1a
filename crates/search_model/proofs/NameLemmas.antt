-- Names in lists.
use Rattle.std.proofs.Common.{ℕ, ◌≡◌, ◌<◌, ◌≤◌, ◌+◌, ◌==◌, ◌∙◌, false, List, [], ◌∷◌, length, get_or, take, inl, inr, arith, subst, get_or-take, true, All}
use Rattle.std.proofs.lemmas.Bool.{cases_eq, and_parts, leb-true, le-leb}
use Rattle.std.proofs.lemmas.List.{length-take-le, get_or_default}
use Rattle.std.specs.Fmt.{decimal}
use Rattle.std.specs.Int.{IsInRange}
use Rattle.std.proofs.lemmas.Grind.{common_steps}
use Rattle.std.proofs.lemmas.List.Elements.{All-weaker}
use Rattle.exact_parts.proofs.Decimals.{All-decimal}
use Rattle.search_model.specs.Names.{name_in, IsRepeated, IsName, is_name_byte, is_name}

-- what holds below c and at c holds below c + 1
pub below_more : (P : ℕ → Type 0) (c : ℕ) → ((d : ℕ) → d < c → P d) → P c → (d : ℕ) → d < c + 1 → P d
below_more P c below here d less =
    elim (cases_eq c d) [
      | inl same ↦ subst P same here
      | inr apart ↦ below d (omega (arith, less, apart))
    ]

-- a list of which a test says that it isn't empty
pub some_in : {X : Type 0} (xs : List X) → (length xs == 0) ≡ false → 1 ≤ length xs
some_in [] e = cc
some_in (x ∷ xs) e = omega arith

-- of names that differ two have two places
pub names_apart : (names : List (List ℕ)) → ((c : ℕ) → ¬ IsRepeated names c) → (j k : ℕ) → j < k → k < length names → name_in names j ≡ name_in names k → ⊥
names_apart names differ j k below within same =
    let cut : length (take k names) ≡ k = length-take-le k names (omega arith) in
    let at : get_or (take k names) j (name_in names k) ≡ get_or names j (name_in names k) = get_or-take k names j (name_in names k) below in
    differ k (within, (j, omega arith, at ∙ get_or_default names j (name_in names k) [] (omega arith) ∙ same))

-- digits are bytes of names
digit_is_of_names : (b : ℕ) → IsInRange 48 57 b → is_name_byte b ≡ true
digit_is_of_names b range = grind (arith, common_steps)

pub digits_are_of_names : (n : ℕ) → n < 256 → All (λ b. is_name_byte b ≡ true) (decimal n)
digits_are_of_names n small = All-weaker (IsInRange 48 57) (λ b. is_name_byte b ≡ true) digit_is_of_names (decimal n) (All-decimal n (omega arith))

-- bytes pass the test of names exactly where they are one
pub is_name_tells : (name : List ℕ) → is_name name ≡ true → IsName name
unfolding is_name
is_name_tells name e =
    let parts = and_parts _ _ e in
    let more = and_parts _ _ parts.1 in
    record { some = leb-true _ _ parts.0; short = leb-true _ _ more.0; bytes = more.1 }

pub is_name_of : (name : List ℕ) → IsName name → is_name name ≡ true
unfolding is_name
is_name_of name is = rw (le-leb _ _ is.some, le-leb _ _ is.short) is.bytes
