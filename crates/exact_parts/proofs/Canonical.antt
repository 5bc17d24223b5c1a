-- A plain decimal is the text of the number that it spells, and the text of a number is a plain decimal.
use Rattle.std.proofs.Common.{◌≡◌, ℕ, suc, zero, ◌≤◌, ◌<◌, ◌+◌, ◌*◌, ◌^◌, ◌/◌, ◌%◌, Bool, true, false, cond, eqb, List, [], ◌∷◌, ◌++◌, length, get_or, take, refl, sym, ◌∙◌, ap, subst, arith}
use Rattle.std.proofs.Math.Seq.{take-suc, take-length}
use Rattle.std.specs.Char.{is_ascii_digit, digit_value}
use Rattle.std.specs.Int.{IsInRange}
use Rattle.std.specs.Prelude.{◌&&◌}
use Rattle.std.specs.List.{list_all}
use Rattle.std.specs.Fmt.{decimal}
use Rattle.std.specs.Str.Parse.{digits_value}
use Rattle.std.proofs.lemmas.Grind.{common_steps}
use Rattle.std.proofs.lemmas.Str.{digit_value_digit}
use Rattle.std.proofs.lemmas.Fmt.{decimal_digit, decimal_step_wide, decimal_by_steps_wide}
use Rattle.std.proofs.lemmas.Int.Digits.{digits_value_push}
use Rattle.std.proofs.lemmas.Str.Parse.{digits_value-take-le}
use Rattle.exact_parts.specs.Decimal.{is_plain}
use Rattle.exact_parts.proofs.PlainDigits.{plain_digit}

-- a first digit that isn't 0, or is 0 alone
head_case : (zeroes : Bool) (d n : ℕ) (rest : Bool) → eqb d 48 ≡ zeroes → cond zeroes (eqb n 0) (is_ascii_digit d) && rest ≡ true → 0 < n → 48 < d
head_case true d zero rest e h more = absurd (omega arith)
head_case true d (suc n) rest e h more = grind (arith, common_steps)
head_case false d n rest e h more = grind (arith, common_steps)

-- the first digit is 0 only where it is alone
plain_head : (text : List ℕ) → is_plain text ≡ true → 1 < length text → 48 < get_or text 0 0
unfolding is_plain
plain_head [] h long = absurd cc
plain_head (d ∷ ds) h long = head_case (eqb d 48) d (length ds) (list_all is_ascii_digit ds) refl h (omega arith)

abbrev value : List ℕ → ℕ
value ds = digits_value 10 ds

-- a number with one digit more
decimal_more : (n c : ℕ) → 0 < n → IsInRange 48 57 c → n * 10 + digit_value c < 10 ^ 64 → decimal (n * 10 + digit_value c) ≡ decimal n ++ c ∷ []
decimal_more n c some range small =
    let d : digit_value c + 48 ≡ c = digit_value_digit c range in
    let front : (n * 10 + digit_value c) / 10 ≡ n = omega arith in
    let last : (n * 10 + digit_value c) % 10 ≡ digit_value c = omega arith in
    let glyph : 48 + digit_value c ≡ c = omega arith in
    decimal_step_wide (n * 10 + digit_value c) (omega arith) small ∙ rw (front, last, glyph) refl

decimal_one : (c : ℕ) → IsInRange 48 57 c → decimal (value (c ∷ [])) ≡ c ∷ []
decimal_one c range =
    let d : digit_value c + 48 ≡ c = digit_value_digit c range in
    let glyph : 48 + digit_value c ≡ c = omega arith in
    let one : value (c ∷ []) ≡ digit_value c = omega arith in
    ap decimal one ∙ decimal_digit (digit_value c) (omega arith) ∙ ap (λ (x : ℕ). x ∷ []) glyph

-- the front of a plain decimal is the text of the front's value
front_is : (text : List ℕ) (i : ℕ) → is_plain text ≡ true → value text < 10 ^ 64 → i < length text → 1 < length text → (decimal (value (take (suc i) text)) ≡ take (suc i) text) × (0 < value (take (suc i) text))
front_is text zero h small lt long =
    let c = get_or text 0 0 in
    let head : 48 < c = plain_head text h long in
    let range : IsInRange 48 57 c = plain_digit text 0 h lt in
    let d : digit_value c + 48 ≡ c = digit_value_digit c range in
    let one : take 1 text ≡ c ∷ [] = take-suc text 0 0 lt in
    rw one (decimal_one c range, omega arith)
front_is text (suc i) h small lt long =
    let c = get_or text (suc i) 0 in
    let range : IsInRange 48 57 c = plain_digit text (suc i) h lt in
    let before = front_is text i h small (omega arith) long in
    let one : take (suc (suc i)) text ≡ take (suc i) text ++ c ∷ [] = take-suc text (suc i) 0 lt in
    let more : value (take (suc (suc i)) text) ≡ value (take (suc i) text) * 10 + digit_value c = rw one (digits_value_push 10 (take (suc i) text) c) in
    let below : value (take (suc (suc i)) text) ≤ value text = digits_value-take-le 10 text (suc (suc i)) (omega arith) in
    (ap decimal more ∙ decimal_more (value (take (suc i) text)) c before.1 range (omega arith) ∙ ap (λ (t : List ℕ). t ++ c ∷ []) before.0 ∙ sym one, omega arith)

nothing_plain : is_plain [] ≡ true → ⊥
unfolding is_plain
nothing_plain h = grind arith

-- a plain decimal is the text of its value
pub decimal_of_plain : (text : List ℕ) → is_plain text ≡ true → value text < 10 ^ 64 → decimal (value text) ≡ text
decimal_of_plain [] h small = absurd (nothing_plain h)
decimal_of_plain (d ∷ []) h small = decimal_one d (plain_digit (d ∷ []) 0 h (omega arith))
decimal_of_plain (d ∷ e ∷ ds) h small =
    let all = front_is (d ∷ e ∷ ds) (suc (length ds)) h small (omega arith) (omega arith) in
    rw take-length at all.0

-- what holds of the text of a number, built digit by digit
abbrev IsText : ℕ → List ℕ → Type 0
IsText n ds = (is_plain ds ≡ true) × (0 < n → 48 < get_or ds 0 0) × (value ds ≡ n)

digit_glyph_is : (d : ℕ) → d < 10 → is_ascii_digit (48 + d) ≡ true
digit_glyph_is d lt = grind (arith, common_steps)

digit_glyph_value : (d : ℕ) → d < 10 → digit_value (48 + d) ≡ d
digit_glyph_value d lt = grind (arith, common_steps)

one_plain : (n : ℕ) → n < 10 → is_plain ((48 + n) ∷ []) ≡ true
unfolding is_plain
one_plain n lt = grind (arith, common_steps)

more_plain : (d : ℕ) (ds : List ℕ) (c : ℕ) → is_plain (d ∷ ds) ≡ true → 48 < d → is_ascii_digit c ≡ true → is_plain (d ∷ (ds ++ c ∷ [])) ≡ true
unfolding is_plain
more_plain d ds c h head last = grind (arith, common_steps)

text_one : (n : ℕ) → n < 10 → IsText n ((48 + n) ∷ [])
unfolding is_plain
text_one n lt = (one_plain n lt, λ some. omega arith, grind (arith, common_steps))

text_more : (n : ℕ) (ds : List ℕ) → 10 ≤ n → IsText (n / 10) ds → IsText n (ds ++ ((48 + n % 10) ∷ []))
unfolding is_plain
text_more n [] le h = absurd (grind arith)
text_more n (d ∷ ds) le h = (more_plain d ds (48 + n % 10) h.0 (h.1 (omega arith)) (digit_glyph_is (n % 10) (omega arith)), λ some. h.1 (omega arith), digits_value_push 10 (d ∷ ds) (48 + n % 10) ∙ omega (arith, h.2, digit_glyph_value (n % 10) (omega arith)))

plain_texts : (n : ℕ) → n < 10 ^ 64 → (is_plain (decimal n) ≡ true) × (value (decimal n) ≡ n)
plain_texts n small = let t = decimal_by_steps_wide IsText text_one text_more n small in (t.0, t.2)

-- the same two facts about a text of which an equation is known, below 2 to the power 128
pub is_text : (text : List ℕ) (n : ℕ) → is_plain text ≡ true → n ≡ value text → n < 2 ^ 128 → text ≡ decimal n
is_text text n h e small = sym (ap decimal e ∙ decimal_of_plain text h (omega arith))

pub plain_of_text : (text : List ℕ) (n : ℕ) → n < 2 ^ 128 → text ≡ decimal n → (is_plain text ≡ true) × (value text ≡ n)
plain_of_text text n small e = subst (λ (t : List ℕ). (is_plain t ≡ true) × (value t ≡ n)) (sym e) (plain_texts n (omega arith))

pub ruleset decimal_texts = (is_text, plain_of_text)
