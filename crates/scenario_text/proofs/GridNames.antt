-- The names of a grid's cells are all different, and each name that a set lacks goes last.
use Rattle.std.proofs.Common.{◌≡◌, ℕ, ◌+◌, ◌*◌, ◌/◌, ◌%◌, ◌<◌, ◌≤◌, ◌^◌, [], ◌∷◌, ◌++◌, map, length, None, refl, ap, ◌∙◌, arith}
use Rattle.std.specs.Fmt.{decimal}
use Rattle.std.specs.Int.{IsInRange}
use Rattle.std.specs.List.{position, range_with_len}
use Rattle.std.specs.Str.{bytes_eq}
use Rattle.std.proofs.lemmas.Bool.{false_from_ne_true}
use Rattle.std.proofs.lemmas.List.Elements.{All-weaker}
use Rattle.std.proofs.lemmas.List.FromFn.{length-map-range_with_len, get_or-map-range_with_len}
use Rattle.std.proofs.lemmas.Slice.Eq.{bytes_eq-Decides}
use Rattle.exact_parts.proofs.Decimals.{All-decimal, decimal_tells}
use Rattle.search_model.specs.Grids.{grid_name}
use Rattle.list_laws.proofs.Firsts.{position-none}
use Rattle.text_rows.specs.Lines.{HasNo}
use Rattle.text_rows.proofs.Splits.{split_once}

-- no digit is the letter between them
no_letter : (n : ℕ) → n < 2 ^ 128 → HasNo 99 (decimal n)
no_letter n small = All-weaker (IsInRange 48 57) (λ b. b ≡ 99 → ⊥) (λ b range e. absurd (omega (arith, range.0, range.1, e))) (decimal n) (All-decimal n small)

-- two cells of one name are the same
pub grid_name_tells : (cols j k : ℕ) → 1 ≤ cols → j < 2 ^ 128 → k < 2 ^ 128 → grid_name cols j ≡ grid_name cols k → j ≡ k
grid_name_tells cols j k some j_small k_small e =
    let j_row : j / cols ≤ j = omega arith in
    let k_row : k / cols ≤ k = omega arith in
    let j_col : j % cols ≤ j = omega arith in
    let k_col : k % cols ≤ k = omega arith in
    let behind : decimal (j / cols) ++ 99 ∷ decimal (j % cols) ≡ decimal (k / cols) ++ 99 ∷ decimal (k % cols) = cc in
    let parts = split_once 99 (decimal (j / cols)) (decimal (k / cols)) (decimal (j % cols)) (decimal (k % cols)) (no_letter (j / cols) (omega arith)) (no_letter (k / cols) (omega arith)) behind in
    let row : j / cols ≡ k / cols = decimal_tells (j / cols) (k / cols) (omega arith) (omega arith) parts.0 in
    let col : j % cols ≡ k % cols = decimal_tells (j % cols) (k % cols) (omega arith) (omega arith) parts.1 in
    let j_whole : cols * (j / cols) + j % cols ≡ j = omega arith in
    let k_whole : cols * (k / cols) + k % cols ≡ k = omega arith in
    let same : cols * (j / cols) + j % cols ≡ cols * (k / cols) + k % cols = rw (row, col) refl in
    omega arith

-- the name of the next cell isn't among those before it
pub grid_name-new : (cols c : ℕ) → 1 ≤ cols → c < 2 ^ 128 → position (bytes_eq (grid_name cols c)) (map (grid_name cols) (range_with_len 0 c)) ≡ None
grid_name-new cols c some small =
    let long : length (map (grid_name cols) (range_with_len 0 c)) ≡ c = length-map-range_with_len (grid_name cols) 0 c in
    position-none (bytes_eq (grid_name cols c)) (map (grid_name cols) (range_with_len 0 c)) [] (λ k below.
    ap (bytes_eq (grid_name cols c)) (get_or-map-range_with_len (grid_name cols) 0 c k k [] (omega arith) (omega arith))
    ∙ false_from_ne_true _ (λ e.
    let same : c ≡ k = grid_name_tells cols c k some small (omega arith) ((bytes_eq-Decides (grid_name cols c) (grid_name cols k)).0 e) in
    absurd (omega arith)))
