-- A field that says a number or a position is the text of it.
use Rattle.std.proofs.Common.{◌≡◌, ℕ, ◌<◌, ◌≤◌, ◌-◌, ◌^◌, true, List, [], ◌∷◌, map, get_or, Option, Some, None, refl, sym, ap, subst, ◌∙◌, arith}
use Rattle.std.specs.Prelude.{All}
use Rattle.std.specs.Fmt.{decimal}
use Rattle.std.specs.Str.{bytes_eq}
use Rattle.std.proofs.lemmas.List.Elements.{All-nil, All-cons}
use Rattle.std.proofs.lemmas.List.Quantifiers.{position-Some}
use Rattle.std.proofs.lemmas.Slice.Eq.{bytes_eq-Decides}
use Rattle.exact_parts.specs.declared.number.Number.{Number}
use Rattle.exact_parts.specs.declared.number.Number.TheVariants.{NotPlain, Above, Of}
use Rattle.exact_parts.specs.Decimal.{Spells, number_at}
use Rattle.exact_parts.proofs.Decimals.{spells-number_at, spelled_text}
use Rattle.search_model.specs.Problem.{Problem, IsProblem, position_name, position_named}
use Rattle.tree_format.specs.Reading.{said, amount_in, place_in, in_front, all_of}
use Rattle.text_rows.specs.Fields.{is_word}

-- a field that is a word
pub word_told : (field word : List ℕ) → is_word field word ≡ true → field ≡ word
word_told field word e = (bytes_eq-Decides field word).0 e

number_said : (r : Number) (n : ℕ) → said r ≡ Some n → r ≡ Of n
number_said NotPlain n e = absurd (let bad : ⊥ = cc in bad)
number_said Above n e = absurd (let bad : ⊥ = cc in bad)
number_said (Of m) n e = let same : m ≡ n = cc in ap Of same

-- a number within a limit is its text
pub number_told : (most : ℕ) (field : List ℕ) (n : ℕ) → most < 2 ^ 128 → said (number_at most field) ≡ Some n → (field ≡ decimal n) × (n ≤ most)
number_told most field n wide e =
    let spells : Spells most field (Of n) = subst (Spells most field) (number_said (number_at most field) n e) (spells-number_at most field) in
    (spelled_text most n field wide spells, spells.2)

pub amount_told : (field : List ℕ) (n : ℕ) → amount_in field ≡ Some n → (field ≡ decimal n) × (n < 2 ^ 128)
amount_told field n e =
    let told = number_told 340282366920938463463374607431768211455 field n (omega arith) e in
    (told.0, omega (arith, told.1))

pub place_told : (p : Problem) → IsProblem p → (field : List ℕ) (q : ℕ) → place_in p field ≡ Some q → (field ≡ decimal q) × (q < p.positions)
place_told p h field q e =
    let told = number_told (p.positions - 1) field q (omega (arith, h.positions.1)) e in
    (told.0, omega (arith, told.1, h.positions.0))

pub name_told : (p : Problem) → IsProblem p → (field : List ℕ) (q : ℕ) → position_named p field ≡ Some q → (field ≡ position_name p q) × (q < p.positions)
name_told p h field q e =
    let found = position-Some (λ n. bytes_eq n field) p.position_names q [] e in
    (sym ((bytes_eq-Decides (get_or p.position_names q []) field).0 found.1), omega (arith, found.0, h.position_names.count))

-- a field and fields that all say something
front_told : (o : Option ℕ) (os : Option (List ℕ)) (qs : List ℕ) → in_front o os ≡ Some qs → (a : ℕ) × (more : List ℕ) × (o ≡ Some a) × (os ≡ Some more) × (qs ≡ a ∷ more)
front_told None os qs e = absurd (let bad : ⊥ = cc in bad)
front_told (Some a) None qs e = absurd (let bad : ⊥ = cc in bad)
front_told (Some a) (Some more) qs e = (a, more, refl, refl, (let same : a ∷ more ≡ qs = cc in sym same))

-- fields that say these numbers are their texts
pub all_told : (says : List ℕ → Option ℕ) (g : ℕ → List ℕ) (P : ℕ → Type 0) → ((f : List ℕ) (a : ℕ) → says f ≡ Some a → (f ≡ g a) × P a) → (fields : List (List ℕ)) (qs : List ℕ) → all_of says fields ≡ Some qs → (fields ≡ map g qs) × All P qs
unfolding all_of
all_told says g P each [] qs e = let none : [] ≡ qs = cc in (ap (map g) none, subst (All P) none (All-nil P))
all_told says g P each (f ∷ fs) qs e =
    let front = front_told (says f) (all_of says fs) qs e in
    let a = front.0 in
    let more = front.1 in
    let here = each f a front.2 in
    let there = all_told says g P each fs more front.3 in (
      subst (λ (xs : List ℕ). f ∷ fs ≡ map g xs) (sym front.4) (ap (λ (x : List ℕ). x ∷ fs) here.0 ∙ ap (λ (xs : List (List ℕ)). g a ∷ xs) there.0),
      subst (All P) (sym front.4) (All-cons P a more here.1 there.1),
    )

pub places_told : (p : Problem) → IsProblem p → (fields : List (List ℕ)) (qs : List ℕ) → all_of (place_in p) fields ≡ Some qs → (fields ≡ map decimal qs) × All (λ a. a < p.positions) qs
places_told p h fields qs e = all_told (place_in p) decimal (λ a. a < p.positions) (place_told p h) fields qs e

pub names_told : (p : Problem) → IsProblem p → (fields : List (List ℕ)) (qs : List ℕ) → all_of (position_named p) fields ≡ Some qs → (fields ≡ map (position_name p) qs) × All (λ a. a < p.positions) qs
names_told p h fields qs e = all_told (position_named p) (position_name p) (λ a. a < p.positions) (name_told p h) fields qs e
