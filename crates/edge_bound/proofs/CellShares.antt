-- What a look finds in each of its cells, and what it takes of the next look by that.
use Rattle.std.proofs.Common.{ℕ, zero, suc, ◌+◌, ◌*◌, ◌-◌, ◌<◌, ◌≤◌, ◌≡◌, List, map, length, slice_index, slice_index_or, set, inl, inr, refl, arith, get_or-set_same, get_or-set_other}
use Rattle.std.specs.List.Sorted.{IsStrictlyIncreasing}
use Rattle.std.proofs.Math.ListN.{length-map, get_or-map}
use Rattle.std.proofs.Math.Nat.{mul-le-mul_right}
use Rattle.std.proofs.lemmas.Bool.{cases_lt, cases_eq}
use Rattle.std.proofs.lemmas.List.Kept.{AllPairs-from_increasing}
use Rattle.std.proofs.lemmas.List.Sums.{sum_by_more_le}
use Rattle.period_rows.specs.declared.part.CellPart.{CellPart}
use Rattle.sweep_table.specs.LookParts.{look_row, misses}
use Rattle.search_model.specs.Problem.{Problem, IsProblem}
use Rattle.search_model.specs.Tracks.{whole_weight}
use Rattle.search_model.proofs.LookRows.{covered_cell, own_cell, sum_own}
use Rattle.belief_update.specs.Masses.{mass_of, looks_to}
use Rattle.belief_update.specs.Found.{found_in, found_of}
use Rattle.edge_bound.specs.Found.{one_of}
use Rattle.edge_bound.specs.After.{through, parts_after, loss_of}
use Rattle.belief_update.specs.Flows.{IsOwn}
use Rattle.edge_bound.proofs.Fitting.{found-within}

-- each number of a list that ascends is no less than its place
rises : (xs : List ℕ) → IsStrictlyIncreasing xs → (i : ℕ) → i < length xs → i ≤ slice_index xs i
rises xs up zero inside = omega arith
rises xs up (suc i) inside =
    let step : slice_index xs i < slice_index xs (suc i) = AllPairs-from_increasing xs up i (suc i) 0 (omega arith) inside in
    omega (arith, rises xs up i (omega (arith, inside)), step)

-- one place more of a list is filled
pub filled_more : (f : ℕ → ℕ) (old : List ℕ) (i v : ℕ) → i < length old → v ≡ f i → ((k : ℕ) → k < i → slice_index old k ≡ f k) →
    (k : ℕ) → k < i + 1 → slice_index (set old i v) k ≡ f k
filled_more f old i v inside is filled k short =
    elim (cases_eq k i) [
      | inl same ↦ rw (same, get_or-set_same old i v 0 inside) is
      | inr apart ↦ rw (get_or-set_other old i k v 0 apart) (filled k (omega (arith, short, apart)))
    ]

module _ (p : Problem) (sound : IsProblem p) (t a : ℕ) where
  -- a look covers no more cells than there are
  pub row_short : length (look_row p.sweep t a) ≤ p.cells
  row_short =
      let row = look_row p.sweep t a in
      let cell : CellPart → ℕ = λ e. e.cell in
      elim (cases_lt p.cells (length row)) [
        | inl long ↦
            let least = rises (map cell row) (sound.sweep.each t a).ascending p.cells (rw (length-map row cell) long) in
            let within = covered_cell p sound t a p.cells (misses 0 0) long in
            absurd (omega (arith, rw (get_or-map cell row p.cells (misses 0 0)) at least, within))
        | inr short ↦ omega (arith, short)
      ]

  -- what it finds in one cell fits
  pub share-within : (q : List ℕ) (i : ℕ) → length q < t → t ≤ p.horizon → i < length (look_row p.sweep t a) →
      found_in p (mass_of p (looks_to t q)) (slice_index_or (look_row p.sweep t a) i (misses 0 0)) ≤ whole_weight p
  share-within q i later last inside =
      omega (arith, sum_by_more_le (found_in p (mass_of p (looks_to t q))) (look_row p.sweep t a) i (misses 0 0) inside, found-within p sound q t a later last)

-- nor in parts in which all that it finds fits
pub share_parts-within : (p : Problem) (q : List ℕ) (t a parts i : ℕ) → found_of p (t - 1) a (mass_of p (looks_to (t - 1) q)) * parts ≤ whole_weight p → i < length (look_row p.sweep (t - 1) a) →
    found_in p (mass_of p (looks_to (t - 1) q)) (slice_index_or (look_row p.sweep (t - 1) a) i (misses 0 0)) * parts ≤ whole_weight p
share_parts-within p q t a parts i fits inside =
    let more = sum_by_more_le (found_in p (mass_of p (looks_to (t - 1) q))) (look_row p.sweep (t - 1) a) i (misses 0 0) inside in
    omega (arith, mul-le-mul_right parts more, fits)

module _ (p : Problem) (q : List ℕ) (t b : ℕ) where
  -- by what it finds in a cell, what it takes there of the next look
  pub share_taken : (e : CellPart) → found_in p (mass_of p (looks_to (t - 1) q)) e * parts_after p q t * one_of p t e.cell b ≡ found_in p (through p q t b) e * parts_after p q t
  share_taken e = omega arith

  -- where it covers its own cell alone
  pub own_taken : (a : ℕ) → IsProblem p → IsOwn p a → found_of p (t - 1) a (mass_of p (looks_to (t - 1) q)) * parts_after p q t * one_of p t a b ≡ loss_of p q t a b
  own_taken a sound (part, own) =
      rw (
        sum_own p sound (t - 1) a p.sweep refl part own (found_in p (mass_of p (looks_to (t - 1) q))),
        sum_own p sound (t - 1) a p.sweep refl part own (found_in p (through p q t b)),
      ) (share_taken (misses a part))

-- such a position is the number of a cell
pub own_inside : (p : Problem) (a : ℕ) → IsProblem p → IsOwn p a → a < p.cells
own_inside p a sound (part, own) = own_cell p sound 1 a p.sweep refl part own
