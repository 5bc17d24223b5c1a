-- Which fault of rows is named.
use Rattle.std.proofs.Common.{ℕ, ◌+◌, ◌<◌, ◌≤◌, ◌≡◌, ◌==◌, ◌⊎◌, List, length, sym, subst, arith, if◌then◌else◌, All, Any, inl, inr}
use Rattle.std.specs.List.Sorted.{IsPermutation}
use Rattle.std.proofs.lemmas.Bool.{cases_lt}
use Rattle.std.proofs.lemmas.List.Kept.{AllPairs-from_increasing}
use Rattle.std.proofs.lemmas.List.Sorted.{length_permutation, sum_by-IsPermutation, IsPermutation-sym}
use Rattle.search_grid.specs.declared.faults.GridFault.{GridFault}
use Rattle.search_grid.specs.declared.faults.GridFault.TheVariants.{CellCount, NoMove, TooManyMoves, OutOfRange, DoubleMove, NoMemory}
use Rattle.search_grid.specs.Moves.{moves_from, IsMoveRow, IsGrid}
use Rattle.search_grid.specs.Faults.{HasSameMoves, HasDouble, HasFault, IsNotAfter, IsFirstFault, IsFirstOfRow}
use Rattle.list_laws.proofs.Ascending.{count_at-le}
use Rattle.list_laws.proofs.Reordered.{Any-permutation}

-- the order of the moves in a row makes and mends no fault
HasDouble-permutation : (xs ys : List ℕ) → IsPermutation xs ys → HasDouble xs → HasDouble ys
HasDouble-permutation xs ys same double = (double.0, rw (sum_by-IsPermutation (λ move. if move == double.0 then 1 else 0) xs ys same) double.1)

pub HasFault-same : (given made : List (List ℕ)) → HasSameMoves given made → (fault : GridFault) → HasFault given fault → HasFault made fault
HasFault-same given made same CellCount has = rw same.cells has
HasFault-same given made same (NoMove c) has = (rw same.cells has.0, rw (length_permutation _ _ (same.moves c has.0)) has.1)
HasFault-same given made same (TooManyMoves c) has = (rw same.cells has.0, rw (length_permutation _ _ (same.moves c has.0)) has.1)
HasFault-same given made same (OutOfRange c) has = (rw same.cells has.0, rw same.cells (Any-permutation _ _ _ (same.moves c has.0) has.1))
HasFault-same given made same (DoubleMove c) has = (rw same.cells has.0, HasDouble-permutation _ _ (same.moves c has.0) has.1)
HasFault-same given made same NoMemory has = has

pub HasSameMoves-sym : (given made : List (List ℕ)) → HasSameMoves given made → HasSameMoves made given
HasSameMoves-sym given made same = record { cells = sym same.cells; moves = λ c inside. IsPermutation-sym _ _ (same.moves c (rw (← same.cells) inside)) }

-- moves that are cells aren't out of range
none_out : (cells : ℕ) (row : List ℕ) → All (λ d. d < cells) row → Any (λ d. cells ≤ d) row → ⊥
none_out cells row within out =
    let here = within out.0 out.1 out.2 in
    let below : out.1 < cells = rw out.3 at here in
    omega (arith, below, out.4)

-- a right row has none of the faults of a row
module _ (cells : ℕ) (row : List ℕ) (right : IsMoveRow cells row) where
  pub not_out : Any (λ d. cells ≤ d) row → ⊥
  not_out out = none_out cells row right.within out

  pub not_double : HasDouble row → ⊥
  not_double double = omega (arith, count_at-le (λ move. move) double.0 row (AllPairs-from_increasing row right.ascending), double.1)

-- a grid has no fault
pub no_fault-of_grid : (rows : List (List ℕ)) → IsGrid rows → (fault : GridFault) → HasFault rows fault → ⊥
no_fault-of_grid rows grid CellCount (inl none) = omega (arith, grid.size.0)
no_fault-of_grid rows grid CellCount (inr many) = omega (arith, grid.size.1)
no_fault-of_grid rows grid (NoMove c) has = omega (arith, (grid.each c has.0).some, has.1)
no_fault-of_grid rows grid (TooManyMoves c) has = omega (arith, (grid.each c has.0).few, has.1)
no_fault-of_grid rows grid (OutOfRange c) has = not_out _ _ (grid.each c has.0) has.1
no_fault-of_grid rows grid (DoubleMove c) has = not_double _ _ (grid.each c has.0) has.1
no_fault-of_grid rows grid NoMemory has = has

-- a fault is not after another in the same row or a later one
not_after : (c b m n : ℕ) → c ≤ b → (b ≡ c → m ≤ n) → (c + 1 < b + 1) ⊎ ((c + 1 ≡ b + 1) × (m ≤ n))
not_after c b m n le number = elim (cases_lt c b) [
  | inl before ↦ inl (omega arith)
  | inr after ↦ let same : b ≡ c = omega arith in inr (omega arith, number same)
]

-- the fault of a row is the named one where all rows before are right
module _ (rows : List (List ℕ)) (c : ℕ) (count : (1 ≤ length rows) × (length rows ≤ 200)) (before : (k : ℕ) → k < c → IsMoveRow (length rows) (moves_from rows k)) where
  -- a row that isn't right stands no earlier
  later : (b : ℕ) → (IsMoveRow (length rows) (moves_from rows b) → ⊥) → c ≤ b
  later b wrong = elim (cases_lt b c) [ inl earlier ↦ absurd (wrong (before b earlier)) | inr le ↦ le ]

  -- and is this row, or a later one
  no_move : (b : ℕ) → HasFault rows (NoMove b) → c ≤ b
  no_move b has = later b (λ right. omega (arith, right.some, has.1))

  many : (b : ℕ) → HasFault rows (TooManyMoves b) → c ≤ b
  many b has = later b (λ right. omega (arith, right.few, has.1))

  out : (b : ℕ) → HasFault rows (OutOfRange b) → c ≤ b
  out b has = later b (λ right. not_out _ _ right has.1)

  double : (b : ℕ) → HasFault rows (DoubleMove b) → c ≤ b
  double b has = later b (λ right. not_double _ _ right has.1)

  -- no row is missing, and there aren't too many
  count_right : HasFault rows CellCount → ⊥
  count_right (inl none) = omega (arith, count.0)
  count_right (inr more) = omega (arith, count.1)

  first_NoMove : (other : GridFault) → HasFault rows other → IsNotAfter (NoMove c) other
  first_NoMove CellCount has = absurd (count_right has)
  first_NoMove (NoMove b) has = not_after c b 2 2 (no_move b has) (λ same. omega arith)
  first_NoMove (TooManyMoves b) has = not_after c b 2 3 (many b has) (λ same. omega arith)
  first_NoMove (OutOfRange b) has = not_after c b 2 4 (out b has) (λ same. omega arith)
  first_NoMove (DoubleMove b) has = not_after c b 2 5 (double b has) (λ same. omega arith)
  first_NoMove NoMemory has = absurd has

  -- the row's earlier faults don't hold
  first_TooManyMoves : 1 ≤ length (moves_from rows c) → (other : GridFault) → HasFault rows other → IsNotAfter (TooManyMoves c) other
  first_TooManyMoves some CellCount has = absurd (count_right has)
  first_TooManyMoves some (NoMove b) has = not_after c b 3 2 (no_move b has) (λ same. absurd (omega (arith, rw same at has.1)))
  first_TooManyMoves some (TooManyMoves b) has = not_after c b 3 3 (many b has) (λ same. omega arith)
  first_TooManyMoves some (OutOfRange b) has = not_after c b 3 4 (out b has) (λ same. omega arith)
  first_TooManyMoves some (DoubleMove b) has = not_after c b 3 5 (double b has) (λ same. omega arith)
  first_TooManyMoves some NoMemory has = absurd has

  first_OutOfRange : 1 ≤ length (moves_from rows c) → length (moves_from rows c) ≤ 64 → (other : GridFault) → HasFault rows other → IsNotAfter (OutOfRange c) other
  first_OutOfRange some few CellCount has = absurd (count_right has)
  first_OutOfRange some few (NoMove b) has = not_after c b 4 2 (no_move b has) (λ same. absurd (omega (arith, rw same at has.1)))
  first_OutOfRange some few (TooManyMoves b) has = not_after c b 4 3 (many b has) (λ same. absurd (omega (arith, rw same at has.1)))
  first_OutOfRange some few (OutOfRange b) has = not_after c b 4 4 (out b has) (λ same. omega arith)
  first_OutOfRange some few (DoubleMove b) has = not_after c b 4 5 (double b has) (λ same. omega arith)
  first_OutOfRange some few NoMemory has = absurd has

  first_DoubleMove : 1 ≤ length (moves_from rows c) → length (moves_from rows c) ≤ 64 → All (λ d. d < length rows) (moves_from rows c) →
      (other : GridFault) → HasFault rows other → IsNotAfter (DoubleMove c) other
  first_DoubleMove some few within CellCount has = absurd (count_right has)
  first_DoubleMove some few within (NoMove b) has = not_after c b 5 2 (no_move b has) (λ same. absurd (omega (arith, rw same at has.1)))
  first_DoubleMove some few within (TooManyMoves b) has = not_after c b 5 3 (many b has) (λ same. absurd (omega (arith, rw same at has.1)))
  first_DoubleMove some few within (OutOfRange b) has = not_after c b 5 4 (out b has) (λ same. absurd (none_out (length rows) (moves_from rows c) within (rw same at has.1)))
  first_DoubleMove some few within (DoubleMove b) has = not_after c b 5 5 (double b has) (λ same. omega arith)
  first_DoubleMove some few within NoMemory has = absurd has

  pub first_from_row : (fault : GridFault) → c < length rows → IsFirstOfRow (length rows) c (moves_from rows c) fault → IsFirstFault rows fault
  first_from_row CellCount inside named = absurd named
  first_from_row (NoMove b) inside named = rw named.0 (record { there = (inside, named.1); first = first_NoMove })
  first_from_row (TooManyMoves b) inside named = rw named.0 (record { there = (inside, named.2); first = first_TooManyMoves named.1 })
  first_from_row (OutOfRange b) inside named = rw named.0 (record { there = (inside, named.3); first = first_OutOfRange named.1 named.2 })
  first_from_row (DoubleMove b) inside named = rw named.0 (record { there = (inside, named.4); first = first_DoubleMove named.1 named.2 named.3 })
  first_from_row NoMemory inside named = absurd named

-- the same, of rows that are so many
pub first_from_rows : (rows : List (List ℕ)) (n c : ℕ) → length rows ≡ n → (1 ≤ n) × (n ≤ 200) → ((k : ℕ) → k < c → IsMoveRow n (moves_from rows k)) →
    (fault : GridFault) → c < n → IsFirstOfRow n c (moves_from rows c) fault → IsFirstFault rows fault
first_from_rows rows n c size count before fault inside named =
    let P : ℕ → Type 0 = λ m. (1 ≤ m) × (m ≤ 200) → ((k : ℕ) → k < c → IsMoveRow m (moves_from rows k)) → c < m → IsFirstOfRow m c (moves_from rows c) fault → IsFirstFault rows fault in
    subst P size (λ count before inside named. first_from_row rows c count before fault inside named) count before inside named

-- rows in order have the same first fault as before
pub IsFirstFault-same : (given made : List (List ℕ)) → HasSameMoves given made → (fault : GridFault) → IsFirstFault made fault → IsFirstFault given fault
IsFirstFault-same given made same fault first = record {
  there = HasFault-same made given (HasSameMoves-sym given made same) fault first.there;
  first = λ other has. first.first other (HasFault-same given made same other has);
}
