-- The table of what looks find of units two periods after: its rows, and which periods one block of it serves.
use Rattle.std.proofs.Common.{ℕ, ◌+◌, ◌*◌, ◌-◌, ◌<◌, ◌≤◌, ◌≡◌, List, length, slice_index, slice_index_or, refl, sym, ap, ◌∙◌, arith, inl, inr, sum_by, mul-le-mul_left, All}
use Rattle.std.specs.List.{range_with_len}
use Rattle.std.proofs.lemmas.Bool.{cases_eq}
use Rattle.std.proofs.lemmas.Nat.{mul-le}
use Rattle.std.proofs.Math.Nat.{mul-le-mul_right}
use Rattle.std.proofs.lemmas.List.Elements.{All-get_or}
use Rattle.period_rows.specs.declared.part.CellPart.{CellPart}
use Rattle.drift_chain.specs.DriftRows.{row_of, part_of}
use Rattle.sweep_table.specs.LookParts.{factor_of, misses}
use Rattle.search_model.specs.Problem.{Problem, IsProblem}
use Rattle.search_model.proofs.DriftSums.{steps_total, row_by_cells}
use Rattle.search_model.proofs.LookRows.{found_in_cells}
use Rattle.list_laws.proofs.Sums.{sum_by-range-le, sum_by-times, sum_by-range-same}
use Rattle.edge_bound.specs.Found.{one_of}
use Rattle.edge_bound.specs.Units.{IsSteady}
use Rattle.edge_bound.proofs.UnitTable.{one-within, steady_one, row_inside}
use Rattle.belief_update.specs.Found.{found_of}
use Rattle.two_look_bound.specs.Taken.{two_of, HasGone}
use Rattle.two_look_bound.specs.Rooms.{HasTwos, HasTwosBlock, HasTwosBlocks}
use Rattle.two_look_bound.proofs.TwoLooks.{found_gone}
use Rattle.edge_bound.proofs.UnitTable.{part-within}

-- What a look finds of a unit two periods after.

-- it is within the product of the denominators
pub two-within : (p : Problem) → IsProblem p → (s c b : ℕ) → c < p.cells → two_of p s c b ≤ 1000000 * (1000000 * 1000000)
two-within p sound s c b here =
    let all = range_with_len 0 p.cells in
    let most = 1000000 * 1000000 in
    let part : ℕ → ℕ = part_of p.drift (s - 1) c in
    let each = sum_by-range-le p.cells (λ d. part d * one_of p (s + 1) d b) (λ d. part d * most) (λ d lt. mul-le-mul_left (part d) (one-within p sound (s + 1) d b lt)) in
    let whole : sum_by (λ d. part d * most) all ≡ p.drift.denominator * most = sum_by-times part most all ∙ ap (λ (n : ℕ). n * most) (steps_total p sound (s - 1) c here) in
    let denominator : p.drift.denominator * most ≤ 1000000 * most = mul-le-mul_right most sound.drift.denominator.1 in
    omega (arith, each, whole, denominator)

-- the cells of a row of the drift are cells
pub row_cells : (p : Problem) → IsProblem p → (t c : ℕ) (row : List CellPart) → c < p.cells → row ≡ row_of p.drift t c → All (λ (e : CellPart). e.cell < p.cells) row
row_cells p sound t c row here is = rw is (rw sound.drift_cells at (sound.drift.each t c (omega (arith, here, sound.drift_cells))).within)

-- what comes to a cell two periods after, by the entries of the drift's row
pub gone_by_entries : (p : Problem) → IsProblem p → (s c d : ℕ) (row : List CellPart) → c < p.cells → row ≡ row_of p.drift (s - 1) c →
    sum_by (λ (e : CellPart). e.part * part_of p.drift s e.cell d) row ≡ sum_by (λ e. part_of p.drift (s - 1) c e * part_of p.drift s e d) (range_with_len 0 p.cells)
gone_by_entries p sound s c d row here is = rw is (sym (row_by_cells p.cells (λ e. part_of p.drift s e d) (row_of p.drift (s - 1) c) (row_cells p sound (s - 1) c (row_of p.drift (s - 1) c) here refl)))

-- it is within the square of the denominator
pub gone-within : (p : Problem) → IsProblem p → (s c d : ℕ) → c < p.cells → d < p.cells → sum_by (λ e. part_of p.drift (s - 1) c e * part_of p.drift s e d) (range_with_len 0 p.cells) ≤ 1000000 * 1000000
gone-within p sound s c d from to =
    let all = range_with_len 0 p.cells in
    let part : ℕ → ℕ = part_of p.drift (s - 1) c in
    let n = p.drift.denominator in
    let each = sum_by-range-le p.cells (λ e. part e * part_of p.drift s e d) (λ e. part e * n) (λ e lt. mul-le-mul_left (part e) (part-within p sound s e d lt to)) in
    let whole : sum_by (λ e. part e * n) all ≡ n * n = sum_by-times part n all ∙ ap (λ (m : ℕ). m * n) (steps_total p sound (s - 1) c from) in
    let most = mul-le _ _ _ _ sound.drift.denominator.1 sound.drift.denominator.1 in
    omega (arith, each, whole, most)

-- a look finds of that what it finds of the unit
pub two_gone : (p : Problem) → IsProblem p → (s c b : ℕ) (gone : List ℕ) → HasGone p s c gone → found_of p (s + 1) b (slice_index gone) ≡ two_of p s c b
two_gone p sound s c b gone is =
    let part : ℕ → ℕ = part_of p.drift (s - 1) c in
    let comes : ℕ → ℕ = λ d. sum_by (λ e. part e * part_of p.drift s e d) (range_with_len 0 p.cells) in
    let left : ℕ → ℕ = λ d. p.sweep.denominator - factor_of p.sweep (s + 1) b d in
    sym (found_in_cells p sound (s + 1) b (slice_index gone))
    ∙ sum_by-range-same p.cells (λ d. slice_index gone d * left d) (λ d. comes d * left d) (λ d lt. rw (is d lt) refl)
    ∙ found_in_cells p sound (s + 1) b comes
    ∙ found_gone p sound s 0 b part

-- an entry's cell is one
pub entry_cell : (p : Problem) → IsProblem p → (t c i : ℕ) (row : List CellPart) → c < p.cells → row ≡ row_of p.drift t c → i < length row → (slice_index_or row i (misses 0 0)).cell < p.cells
entry_cell p sound t c i row here is inside =
    All-get_or (λ (e : CellPart). e.cell < p.cells) row i (misses 0 0) inside (row_cells p sound t c row here is)

-- in a steady problem it is the same in all periods
steady_two : (p : Problem) → IsSteady p → (s c b : ℕ) → 2 ≤ s → s + 1 ≤ p.horizon → c < p.cells → b < p.positions → two_of p s c b ≡ two_of p 2 c b
steady_two p steady s c b first last here there =
    let row : row_of p.drift (s - 1) c ≡ row_of p.drift 1 c = steady.steps s c first (omega (arith, last)) here in
    sum_by-range-same p.cells (λ e. part_of p.drift (s - 1) c e * one_of p (s + 1) e b) (λ e. part_of p.drift 1 c e * one_of p 3 e b) (λ e cell.
    let one = steady_one p steady (s + 1) e b (omega (arith, first)) last cell there in
    let three = steady_one p steady 3 e b (omega arith) (omega (arith, first, last)) cell there in
    rw (row, one, three) Rattle.std.proofs.Common.refl)

-- a row more of a block
pub block_more : (p : Problem) (s here c : ℕ) (old new : List ℕ) →
    ((k b : ℕ) → k < c → b < p.positions → slice_index old (here + (k * p.positions + b)) ≡ two_of p s k b) →
    ((b : ℕ) → b < p.positions → slice_index new (here + c * p.positions + b) ≡ two_of p s c b) →
    ((i : ℕ) → i < here + c * p.positions → slice_index new i ≡ slice_index old i) →
    (k b : ℕ) → k < c + 1 → b < p.positions → slice_index new (here + (k * p.positions + b)) ≡ two_of p s k b
block_more p s here c old new filled row kept k b short there =
    elim (cases_eq k c) [
      | inl same ↦
          let place : here + (k * p.positions + b) ≡ here + c * p.positions + b = rw same (omega arith) in
          rw (place, same) (row b there)
      | inr apart ↦
          let before : k < c = omega (arith, short, apart) in
          kept (here + (k * p.positions + b)) (omega (arith, row_inside c p.positions k before, there)) ∙ filled k b before there
    ]

-- a block more of a table
pub blocks_more : (p : Problem) (n : ℕ) (old new : List ℕ) →
    ((m : ℕ) → m < n → HasTwosBlock p (m + 2) old (m * (p.cells * p.positions))) →
    HasTwosBlock p (n + 2) new (n * (p.cells * p.positions)) →
    ((i : ℕ) → i < n * (p.cells * p.positions) → slice_index new i ≡ slice_index old i) →
    (m : ℕ) → m < n + 1 → HasTwosBlock p (m + 2) new (m * (p.cells * p.positions))
blocks_more p n old new filled block kept m short c b here there =
    let size = p.cells * p.positions in
    elim (cases_eq m n) [
      | inl same ↦ rw same (block c b here there)
      | inr apart ↦
          let before : m < n = omega (arith, short, apart) in
          let place : m * size + (c * p.positions + b) < n * size = omega (arith, row_inside n size m before, row_inside p.cells p.positions c here, there) in
          kept (m * size + (c * p.positions + b)) place ∙ filled m before c b here there
    ]

-- a block for each period
pub twos_by_period : (p : Problem) (units : List ℕ) → HasTwosBlocks p (p.horizon - 2) units →
    HasTwos p (record { positions = p.positions; step = p.cells * p.positions; units = units })
twos_by_period p units blocks =
    let size = p.cells * p.positions in
    record {
      inside = λ s c b first last here there.
          let period : s - 2 < p.horizon - 2 = omega (arith, first, last) in
          rw blocks.size (omega (arith, row_inside (p.horizon - 2) size (s - 2) period, row_inside p.cells p.positions c here, there));
      each = λ s c b first last here there.
          let place : (s - 2) * size + c * p.positions + b ≡ (s - 2) * size + (c * p.positions + b) = omega arith in
          let back : s - 2 + 2 ≡ s = omega (arith, first) in
          let at = blocks.each (s - 2) (omega (arith, first, last)) c b here there in
          rw place (at ∙ ap (λ (u : ℕ). two_of p u c b) back);
    }

-- one block for all of them
pub twos_steady : (p : Problem) → IsSteady p → (n : ℕ) (units : List ℕ) → (3 ≤ p.horizon → 1 ≤ n) → HasTwosBlocks p n units →
    HasTwos p (record { positions = p.positions; step = 0; units = units })
twos_steady p steady n units some blocks =
    let size = p.cells * p.positions in
    record {
      inside = λ s c b first last here there.
          let one : 0 < n = omega (arith, some (omega (arith, first, last))) in
          let place : (s - 2) * 0 + c * p.positions + b ≡ c * p.positions + b = omega arith in
          rw (blocks.size, place) (omega (arith, row_inside n size 0 one, row_inside p.cells p.positions c here, there));
      each = λ s c b first last here there.
          let place : (s - 2) * 0 + c * p.positions + b ≡ 0 * size + (c * p.positions + b) = omega arith in
          let at = blocks.each 0 (omega (arith, some (omega (arith, first, last)))) c b here there in
          rw place (at ∙ sym (steady_two p steady s c b first last here there));
    }
