-- The table of what looks find of units: its rows, and which periods one block of it serves.
use Rattle.std.proofs.Common.{ℕ, ◌+◌, ◌*◌, ◌-◌, ◌<◌, ◌≤◌, ◌≡◌, List, [], ◌∷◌, length, slice_index, get_or, set, take, refl, sym, ap, ◌∙◌, arith, inl, inr, sum_by, mul-le-mul_left, get_or-set_same, get_or-set_other}
use Rattle.std.specs.List.{range_with_len}
use Rattle.std.proofs.lemmas.Bool.{cases_eq, eq-eqb}
use Rattle.std.proofs.lemmas.Nat.{mul-le}
use Rattle.std.proofs.Math.Nat.{mul-le-mul_right}
use Rattle.period_rows.specs.declared.part.CellPart.{CellPart}
use Rattle.drift_chain.specs.DriftRows.{row_of, part_of, part_in}
use Rattle.sweep_table.specs.LookParts.{look_row, factor_in, factor_of, misses}
use Rattle.search_model.specs.Problem.{Problem, IsProblem}
use Rattle.search_model.proofs.DriftSums.{steps_total}
use Rattle.search_model.proofs.LookRows.{found_in_cells, sum_own}
use Rattle.belief_update.proofs.FlowSteps.{steps_alike}
use Rattle.belief_update.proofs.RowSteps.{part_in_more_same, part_in_more_other, part_in_more_le}
use Rattle.list_laws.proofs.Sums.{sum_by-range-le, sum_by-range-part, sum_by-times}
use Rattle.belief_update.specs.Found.{found_in, found_of}
use Rattle.edge_bound.specs.Found.{one_of}
use Rattle.belief_update.specs.Flows.{IsOwn}
use Rattle.edge_bound.specs.Units.{HasUnits, HasBlock, HasBlocks, IsSteady}
use Rattle.edge_bound.proofs.Through.{found-agree}

-- What a look finds of a unit.

-- it is within the product of both denominators
pub one-within : (p : Problem) → IsProblem p → (t c b : ℕ) → c < p.cells → one_of p t c b ≤ 1000000 * 1000000
one-within p sound t c b here =
    let all = range_with_len 0 p.cells in
    let g = p.sweep.denominator in
    let part : ℕ → ℕ = part_of p.drift (t - 1) c in
    let each = sum_by-range-le p.cells (λ d. part d * (g - factor_of p.sweep t b d)) (λ d. part d * g) (λ d lt. mul-le-mul_left (part d) (omega arith)) in
    let whole : sum_by (λ d. part d * g) all ≡ p.drift.denominator * g = sum_by-times part g all ∙ ap (λ (s : ℕ). s * g) (steps_total p sound (t - 1) c here) in
    let most = mul-le _ _ _ _ sound.drift.denominator.1 sound.sweep.denominator.1 in
    omega (arith, found_in_cells p sound t b part, each, whole, most)

-- a part of a step is within the denominator
pub part-within : (p : Problem) → IsProblem p → (t c d : ℕ) → c < p.cells → d < p.cells → part_of p.drift t c d ≤ p.drift.denominator
part-within p sound t c d from to = omega (arith, sum_by-range-part p.cells (part_of p.drift t c) d to, steps_total p sound t c from)

-- of what comes to each cell of the unit a look finds that
pub one_gone : (p : Problem) → IsProblem p → (t c b : ℕ) (gone : List ℕ) → ((d : ℕ) → d < p.cells → slice_index gone d ≡ part_of p.drift (t - 1) c d) →
    found_of p t b (slice_index gone) ≡ one_of p t c b
one_gone p sound t c b gone is = found-agree p t b sound (slice_index gone) (part_of p.drift (t - 1) c) is

-- the factor of a look in its own cell, where it covers that one alone
own_factor : (p : Problem) (t b part : ℕ) → look_row p.sweep t b ≡ misses b part ∷ [] → factor_of p.sweep t b b ≡ part
unfolding factor_of factor_in
own_factor p t b part own = rw (own, eq-eqb b b refl) refl

-- and what it then finds is found there
one_own : (p : Problem) → IsProblem p → (t c b : ℕ) → IsOwn p b → one_of p t c b ≡ part_of p.drift (t - 1) c b * (p.sweep.denominator - factor_of p.sweep t b b)
one_own p sound t c b (part, own) = rw (sum_own p sound t b p.sweep refl part own (found_in p (part_of p.drift (t - 1) c)), own_factor p t b part (own t)) refl

-- by the drift's row of the cell
pub entries_give : (p : Problem) → IsProblem p → (t c b : ℕ) → IsOwn p b → (row : List CellPart) → row ≡ row_of p.drift (t - 1) c →
    part_in row b * (p.sweep.denominator - factor_of p.sweep t b b) ≡ one_of p t c b
entries_give p sound t c b own row is = rw is (sym (one_own p sound t c b own))

-- in a steady problem it is the same in all periods
pub steady_one : (p : Problem) → IsSteady p → (t c b : ℕ) → 2 ≤ t → t ≤ p.horizon → c < p.cells → b < p.positions → one_of p t c b ≡ one_of p 2 c b
steady_one p steady t c b first last here there =
    ap (λ (row : List CellPart). sum_by (found_in p (part_in row)) (look_row p.sweep t b)) (steady.steps t c first last here)
    ∙ ap (λ (row : List CellPart). sum_by (found_in p (part_of p.drift 1 c)) row) (steady.looks t b first last there)

-- where neither the drift nor the looks have rows of single periods, a problem is steady
pub steady_unchanged : (p : Problem) → p.drift.changes ≡ [] → p.sweep.changes ≡ [] → IsSteady p
unfolding look_row
steady_unchanged p steps looks = record { steps = λ t c first last here. steps_alike p.drift steps (t - 1) 1 c; looks = λ t b first last here. rw looks refl }

-- Places of a row of cells.

-- a cell's row ends within a block
pub row_inside : (cells positions c : ℕ) → c < cells → c * positions + positions ≤ cells * positions
row_inside cells positions c here =
    let rows : (c + 1) * positions ≤ cells * positions = mul-le-mul_right positions (omega (arith, here)) in
    omega (arith, rows)

-- an entry more of the drift's row of a cell: its number counts at its own cell alone, if that is a position
module _ (here positions : ℕ) (left : ℕ → ℕ) (old : List ℕ) (row : List CellPart) (i : ℕ) (e : CellPart) (inside : i < length row)
    (filled : (b : ℕ) → b < positions → slice_index old (here + b) ≡ part_in (take i row) b * left b) where
  pub entry_added : here + positions ≤ length old → (get_or row i e).cell < positions →
      (v : ℕ) → v ≡ get_or old (here + (get_or row i e).cell) 0 + (get_or row i e).part * left (get_or row i e).cell →
      (b : ℕ) → b < positions → slice_index (set old (here + (get_or row i e).cell) v) (here + b) ≡ part_in (take (i + 1) row) b * left b
  entry_added room there v is b short =
      let d = (get_or row i e).cell in
      elim (cases_eq d b) [
        | inl same ↦
            let place : here + d < length old = omega (arith, room, there) in
            rw (← same, get_or-set_same old (here + d) v 0 place, part_in_more_same row i e d inside refl) (omega (arith, is, filled d there))
        | inr apart ↦
            rw (get_or-set_other old (here + d) (here + b) v 0 (λ s. apart (omega (arith, s))), part_in_more_other row i e b inside apart) (filled b short)
      ]

  pub entry_left_out : positions ≤ (get_or row i e).cell → (b : ℕ) → b < positions → slice_index old (here + b) ≡ part_in (take (i + 1) row) b * left b
  entry_left_out past b short = rw (part_in_more_other row i e b inside (λ same. omega (arith, same, past, short))) (filled b short)

  -- what is there with an entry more is within what all entries give
  pub entry-within : (get_or row i e).cell < positions →
      get_or old (here + (get_or row i e).cell) 0 + (get_or row i e).part * left (get_or row i e).cell ≤ part_in row (get_or row i e).cell * left (get_or row i e).cell
  entry-within there =
      let d = (get_or row i e).cell in
      let more = mul-le-mul_right (left d) (part_in_more_le row i e inside) in
      omega (arith, filled d there, more)

-- a row more of a block
pub block_more : (p : Problem) (t here c : ℕ) (old new : List ℕ) →
    ((k b : ℕ) → k < c → b < p.positions → slice_index old (here + (k * p.positions + b)) ≡ one_of p t k b) →
    ((b : ℕ) → b < p.positions → slice_index new (here + c * p.positions + b) ≡ one_of p t c b) →
    ((i : ℕ) → i < here + c * p.positions → slice_index new i ≡ slice_index old i) →
    (k b : ℕ) → k < c + 1 → b < p.positions → slice_index new (here + (k * p.positions + b)) ≡ one_of p t k b
block_more p t here c old new filled row kept k b short there =
    elim (cases_eq k c) [
      | inl same ↦
          let place : here + (k * p.positions + b) ≡ here + c * p.positions + b = rw same (omega arith) in
          rw (place, same) (row b there)
      | inr apart ↦
          let before : k < c = omega (arith, short, apart) in
          kept (here + (k * p.positions + b)) (omega (arith, row_inside c p.positions k before, there)) ∙ filled k b before there
    ]

-- a block more of a table
pub blocks_more : (p : Problem) (n : ℕ) (old new : List ℕ) →
    ((m : ℕ) → m < n → HasBlock p (m + 2) old (m * (p.cells * p.positions))) →
    HasBlock p (n + 2) new (n * (p.cells * p.positions)) →
    ((i : ℕ) → i < n * (p.cells * p.positions) → slice_index new i ≡ slice_index old i) →
    (m : ℕ) → m < n + 1 → HasBlock p (m + 2) new (m * (p.cells * p.positions))
blocks_more p n old new filled block kept m short c b here there =
    let size = p.cells * p.positions in
    elim (cases_eq m n) [
      | inl same ↦ rw same (block c b here there)
      | inr apart ↦
          let before : m < n = omega (arith, short, apart) in
          let place : m * size + (c * p.positions + b) < n * size = omega (arith, row_inside n size m before, row_inside p.cells p.positions c here, there) in
          kept (m * size + (c * p.positions + b)) place ∙ filled m before c b here there
    ]

-- The whole table.

-- a block for each period
pub units_by_period : (p : Problem) (units : List ℕ) → HasBlocks p (p.horizon - 1) units →
    HasUnits p (record { positions = p.positions; step = p.cells * p.positions; units = units })
units_by_period p units blocks =
    let size = p.cells * p.positions in
    record {
      inside = λ t c b first last here there.
          let period : t - 2 < p.horizon - 1 = omega (arith, first, last) in
          rw blocks.size (omega (arith, row_inside (p.horizon - 1) size (t - 2) period, row_inside p.cells p.positions c here, there));
      each = λ t c b first last here there.
          let place : (t - 2) * size + c * p.positions + b ≡ (t - 2) * size + (c * p.positions + b) = omega arith in
          let back : t - 2 + 2 ≡ t = omega (arith, first) in
          let at = blocks.each (t - 2) (omega (arith, first, last)) c b here there in
          rw place (at ∙ ap (λ (u : ℕ). one_of p u c b) back);
    }

-- one block for all of them
pub units_steady : (p : Problem) → IsSteady p → (n : ℕ) (units : List ℕ) → (2 ≤ p.horizon → 1 ≤ n) → HasBlocks p n units →
    HasUnits p (record { positions = p.positions; step = 0; units = units })
units_steady p steady n units some blocks =
    let size = p.cells * p.positions in
    record {
      inside = λ t c b first last here there.
          let one : 0 < n = omega (arith, some (omega (arith, first, last))) in
          let place : (t - 2) * 0 + c * p.positions + b ≡ c * p.positions + b = omega arith in
          rw (blocks.size, place) (omega (arith, row_inside n size 0 one, row_inside p.cells p.positions c here, there));
      each = λ t c b first last here there.
          let place : (t - 2) * 0 + c * p.positions + b ≡ 0 * size + (c * p.positions + b) = omega arith in
          let at = blocks.each 0 (omega (arith, some (omega (arith, first, last)))) c b here there in
          rw place (at ∙ sym (steady_one p steady t c b first last here there));
    }
