-- The decimal text of a number: what it looks like and what is read from it.
use Rattle.std.proofs.Common.{◌≡◌, ℕ, suc, ◌<◌, ◌≤◌, ◌^◌, List, length, length-append, refl, arith, ◌∙◌, sym, ap, true, false, get_or, Bool, not, inl, inr, if◌then◌else◌, ◌⊎◌}
use Rattle.std.specs.Prelude.{All}
use Rattle.std.specs.Fmt.{decimal}
use Rattle.std.specs.Int.{IsInRange}
use Rattle.std.specs.Str.Parse.{digits_value}
use Rattle.std.proofs.lemmas.Fmt.{decimal_by_steps_wide, length-decimal-le_wide}
use Rattle.std.proofs.lemmas.List.Elements.{All-from_get_or}
use Rattle.std.proofs.lemmas.Bool.Decides.{leb_tells}
use Rattle.exact_parts.specs.Decimal.{is_plain, Spells, number_at}
use Rattle.exact_parts.specs.declared.number.Number.{Number}
use Rattle.exact_parts.specs.declared.number.Number.TheVariants.{NotPlain, Above, Of}
use Rattle.exact_parts.proofs.Canonical.{is_text, plain_of_text}
use Rattle.exact_parts.proofs.PlainDigits.{plain_digit}

-- it is a plain decimal
pub plain-decimal : (n : ℕ) → n < 2 ^ 128 → is_plain (decimal n) ≡ true
plain-decimal n small = (plain_of_text (decimal n) n small refl).0

-- it has the number's value
pub value-decimal : (n : ℕ) → n < 2 ^ 128 → digits_value 10 (decimal n) ≡ n
value-decimal n small = (plain_of_text (decimal n) n small refl).1

-- two numbers of the same text are the same
pub decimal_tells : (m n : ℕ) → m < 2 ^ 128 → n < 2 ^ 128 → decimal m ≡ decimal n → m ≡ n
decimal_tells m n m_small n_small e = sym (value-decimal m m_small) ∙ ap (digits_value 10) e ∙ value-decimal n n_small

-- it isn't empty
pub some-decimal : (n : ℕ) → n < 2 ^ 128 → 0 < length (decimal n)
some-decimal n small = decimal_by_steps_wide (λ _ ds. 0 < length ds) (λ k lt. grind arith) (λ k ds le h. simp length-append (omega arith)) n (omega arith)

-- each of its bytes is a digit, 48 to 57
pub digit_in-decimal : (n i : ℕ) → n < 2 ^ 128 → i < length (decimal n) → IsInRange 48 57 (get_or (decimal n) i 0)
digit_in-decimal n i small lt = plain_digit (decimal n) i (plain-decimal n small) lt

pub All-decimal : (n : ℕ) → n < 2 ^ 128 → All (IsInRange 48 57) (decimal n)
All-decimal n small = All-from_get_or (IsInRange 48 57) (decimal n) 0 (λ i lt. digit_in-decimal n i small lt)

-- what a field spells is determined
pub spelled_once : (most : ℕ) (text : List ℕ) (r s : Number) → Spells most text r → Spells most text s → r ≡ s
spelled_once most text NotPlain NotPlain h k = refl
spelled_once most text NotPlain Above h k = absurd (grind (arith, h, k))
spelled_once most text NotPlain (Of n) h k = absurd (grind (arith, h, k))
spelled_once most text Above NotPlain h k = absurd (grind (arith, h, k))
spelled_once most text Above Above h k = refl
spelled_once most text Above (Of n) h k = absurd (omega (arith, h.1, k.1, k.2))
spelled_once most text (Of n) NotPlain h k = absurd (grind (arith, h, k))
spelled_once most text (Of n) Above h k = absurd (omega (arith, h.1, h.2, k.1))
spelled_once most text (Of n) (Of m) h k = ap Of (h.1 ∙ sym k.1)

by_tests : (most : ℕ) (text : List ℕ) (plain above : Bool) → is_plain text ≡ plain → ((above ≡ true) × (suc most ≤ digits_value 10 text)) ⊎ ((above ≡ false) × (digits_value 10 text < suc most)) →
    Spells most text (if not plain then NotPlain else (if above then Above else Of (digits_value 10 text)))
by_tests most text false above h k = h
by_tests most text true true h (inl k) = (h, omega (arith, k.1))
by_tests most text true true h (inr k) = absurd (let no = k.0 in cc)
by_tests most text true false h (inl k) = absurd (let no = k.0 in cc)
by_tests most text true false h (inr k) = (h, refl, omega (arith, k.1))

pub spells-number_at : (most : ℕ) (text : List ℕ) → Spells most text (number_at most text)
unfolding number_at
spells-number_at most text = by_tests most text _ _ refl (leb_tells (suc most) (digits_value 10 text))

-- a field that spells a number is its text, and the text of a number spells it
pub spelled_text : (most n : ℕ) (text : List ℕ) → most < 2 ^ 128 → Spells most text (Of n) → text ≡ decimal n
spelled_text most n text wide h = is_text text n h.0 h.1 (omega (arith, h.2))

pub decimal_spells : (most n : ℕ) → n ≤ most → most < 2 ^ 128 → Spells most (decimal n) (Of n)
decimal_spells most n le wide = (plain-decimal n (omega arith), sym (value-decimal n (omega arith)), le)

pub number_at-decimal : (most n : ℕ) → n ≤ most → most < 2 ^ 128 → number_at most (decimal n) ≡ Of n
number_at-decimal most n le wide = spelled_once most (decimal n) (number_at most (decimal n)) (Of n) (spells-number_at most (decimal n)) (decimal_spells most n le wide)

-- a number of 128 bits has 39 digits at most
pub digits_fit : (n : ℕ) → n < 2 ^ 128 → length (decimal n) ≤ 39
digits_fit n lt = length-decimal-le_wide 39 n (omega arith) (omega arith) (omega arith)
