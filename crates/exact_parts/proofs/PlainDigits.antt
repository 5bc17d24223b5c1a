-- The digits of a plain decimal, read one after the other.
use Rattle.std.proofs.Common.{◌≡◌, ℕ, ◌≤◌, ◌<◌, ◌+◌, ◌*◌, ◌^◌, Bool, true, false, cond, eqb, List, [], ◌∷◌, length, get_or, take, refl, sym, ap, subst, arith}
use Rattle.std.specs.Char.{is_ascii_digit, digit_value}
use Rattle.std.specs.Int.{IsInRange}
use Rattle.std.specs.Prelude.{◌&&◌}
use Rattle.std.specs.List.{list_all}
use Rattle.std.specs.Str.{all_ascii_digits}
use Rattle.std.specs.Str.Parse.{digits_value}
use Rattle.std.proofs.lemmas.Bool.{eqb-true}
use Rattle.std.proofs.lemmas.Int.Digits.{digits_value_more}
use Rattle.std.proofs.lemmas.Str.Parse.{digit_at, numerals_by_value, tells_all_ascii_digits, digits_value-take-le}
use Rattle.exact_parts.specs.Decimal.{is_plain}

pub list_all_digits : (xs : List ℕ) → list_all is_ascii_digit xs ≡ all_ascii_digits xs
list_all_digits [] = refl
list_all_digits (x ∷ xs) = ap (λ (b : Bool). is_ascii_digit x && b) (list_all_digits xs)

plain_first : (zeroes : Bool) (d : ℕ) (last rest : Bool) → eqb d 48 ≡ zeroes → cond zeroes last (is_ascii_digit d) && rest ≡ true → is_ascii_digit d && rest ≡ true
plain_first false d last rest e h = h
plain_first true d true rest e h = subst (λ (c : ℕ). is_ascii_digit c && rest ≡ true) (sym (eqb-true _ _ e)) h
plain_first true d false rest e h = absurd cc

plain_all : (text : List ℕ) → is_plain text ≡ true → all_ascii_digits text ≡ true
unfolding is_plain
plain_all [] h = absurd cc
plain_all (d ∷ ds) h = plain_first (eqb d 48) d (eqb (length ds) 0) (all_ascii_digits ds) refl (rw list_all_digits at h)

-- each of its bytes is a digit
pub plain_digit : (text : List ℕ) (i : ℕ) → is_plain text ≡ true → i < length text → IsInRange 48 57 (get_or text i 0)
plain_digit text i h lt =
    let own = numerals_by_value (λ ds. all_ascii_digits ds ≡ true) tells_all_ascii_digits in
    digit_at text i (own.to text (plain_all text h)) lt

-- one digit more
pub value_more : (text : List ℕ) (i n : ℕ) → n ≡ digits_value 10 (take i text) → i < length text → digits_value 10 (take (i + 1) text) ≡ n * 10 + digit_value (get_or text i 0)
value_more text i n e lt = rw e (digits_value_more 10 text i lt)

-- a front is worth no more than the whole
pub value_above : (text : List ℕ) (i : ℕ) → digits_value 10 (take i text) ≤ digits_value 10 text
value_above text i = digits_value-take-le 10 text i (omega arith)

-- a digit that no longer fits
pub value_over : (text : List ℕ) (i n most : ℕ) → n ≡ digits_value 10 (take i text) → i < length text → (n * 10 + digit_value (get_or text i 0) < 2 ^ 128 → ⊥) → most < 2 ^ 128 → most < digits_value 10 text
value_over text i n most e lt over fits = omega (arith, value_more text i n e lt, value_above text (i + 1), over)

pub ruleset plain_steps = (plain_digit, value_more, value_above, value_over)
