-- How long the text of rows can be.
use Rattle.std.proofs.Common.{ℕ, ◌+◌, ◌*◌, ◌≤◌, ◌≡◌, List, [], ◌∷◌, ◌++◌, length, ap, arith, All, length-append, mul-le-mul_right}
use Rattle.std.proofs.lemmas.List.Elements.{All-head, All-tail, All-weaker}
use Rattle.text_rows.specs.Rows.{text_of, spaced}
use Rattle.text_rows.proofs.RowLemmas.{join-fields, text_of-append, spaced_short}

-- a row of at most m fields of at most k bytes
abbrev pub IsShortRow : ℕ → ℕ → List (List ℕ) → Type 0
IsShortRow m k row = (length row ≤ m) × All (λ f. length f ≤ k) row

-- a row that makes a line of at most n bytes, with its line feed
abbrev pub IsShortLine : ℕ → List (List ℕ) → Type 0
IsShortLine n row = length (text_of (row ∷ [])) ≤ n

-- a line is its first field, the others with a blank before each, and the line feed
pub line_size : (f : List ℕ) (fs : List (List ℕ)) → length (text_of ((f ∷ fs) ∷ [])) ≡ length f + length (spaced fs) + 1
line_size f fs =
    let joined = ap (λ (x : List ℕ). length (x ++ 10 ∷ [])) (join-fields f fs) in
    omega (arith, joined, length-append (f ++ spaced fs) (10 ∷ []), length-append f (spaced fs))

-- a short row makes a short line
line_fits : (m k : ℕ) (row : List (List ℕ)) → IsShortRow m k row → IsShortLine (m * (k + 1) + 1) row
line_fits m k [] short = omega arith
line_fits m k (f ∷ fs) short =
    let here = All-head (λ g. length g ≤ k) f fs short.1 in
    let rest = spaced_short k fs (All-tail (λ g. length g ≤ k) f fs short.1) in
    let most = mul-le-mul_right (k + 1) short.0 in
    omega (arith, line_size f fs, here, rest, most)

-- lines of at most n bytes
pub lines_fit : (n : ℕ) (rows : List (List (List ℕ))) → All (IsShortLine n) rows → length (text_of rows) ≤ length rows * n
lines_fit n [] each = omega arith
lines_fit n (row ∷ rows) each =
    let here : IsShortLine n row = All-head (IsShortLine n) row rows each in
    let rest = lines_fit n rows (All-tail (IsShortLine n) row rows each) in
    rw (text_of-append (row ∷ []) rows, length-append (text_of (row ∷ [])) (text_of rows)) (omega (arith, here, rest))

-- rows of at most m fields of at most k bytes make a text of at most so many bytes
pub rows_fit : (m k : ℕ) (rows : List (List (List ℕ))) → All (IsShortRow m k) rows → length (text_of rows) ≤ length rows * (m * (k + 1) + 1)
rows_fit m k rows each = lines_fit (m * (k + 1) + 1) rows (All-weaker (IsShortRow m k) (IsShortLine (m * (k + 1) + 1)) (line_fits m k) rows each)
