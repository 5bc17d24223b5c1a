-- The steps of the plain recursion over the tracks.
use Rattle.std.proofs.Common.{ℕ, suc, ◌+◌, ◌*◌, ◌-◌, ◌^◌, ◌<◌, ◌≤◌, ◌≡◌, List, [], ◌∷◌, length, get_or, drop, take, sym, arith, sum_by, All}
use Rattle.std.specs.List.{range_with_len}
use Rattle.std.proofs.lemmas.Nat.{mul-le}
use Rattle.std.proofs.Math.Nat.{pow-suc}
use Rattle.std.proofs.lemmas.List.Sums.{sum_by_more}
use Rattle.std.proofs.lemmas.List.Elements.{All-tail}
use Rattle.period_rows.specs.declared.part.CellPart.{CellPart}
use Rattle.drift_chain.specs.DriftRows.{row_of}
use Rattle.search_model.specs.Problem.{Problem, first_of, IsProblem}
use Rattle.search_model.specs.Legal.{Follows}
use Rattle.search_model.specs.Following.{look_factor, after_of}
use Rattle.list_laws.proofs.Sums.{sum_by-range_more}
use Rattle.search_model.proofs.LegalLemmas.{follows_within}
use Rattle.search_model.proofs.After.{after_of-zero, after_of-by_row, after_of-le, look_factor-le}
use Rattle.search_model.proofs.Totals.{powers_fit, after_entries-fit, missed_cells-fit}

-- what an entry of a row adds
abbrev pub entry_term : Problem → ℕ → List ℕ → ℕ → CellPart → ℕ
entry_term p t q m entry = entry.part * (look_factor p (t + 1) q entry.cell * after_of p (t + 1) entry.cell (drop 1 q) m)

-- what a first cell adds
abbrev pub first_term : Problem → List ℕ → ℕ → ℕ
first_term p q c = first_of p c * look_factor p 1 q c * after_of p 1 c (drop 1 q) (p.horizon - 1)

module _ (p : Problem) (sound : IsProblem p) where
  -- at the horizon nothing follows
  pub after_of-end : (t c : ℕ) (q : List ℕ) → t ≡ p.horizon → 1 ≡ after_of p t c q (p.horizon - t)
  after_of-end t c q e = let none : p.horizon - t ≡ 0 = omega (arith, e) in rw none (sym (after_of-zero p t c q))

  -- a look and what follows it fit
  pub next_fits : (t c : ℕ) → t < p.horizon → 1 ≤ t → c < p.cells → (q r : List ℕ) → look_factor p (t + 1) q c * after_of p (t + 1) c r (p.horizon - (t + 1)) < 2 ^ 127
  next_fits t c more some here q r =
      let m = p.horizon - (t + 1) in
      let product = mul-le _ _ _ _ (look_factor-le p sound (t + 1) q c) (after_of-le p sound m (t + 1) c here r) in
      let fits = powers_fit p sound m (suc m) (omega (arith, more)) (omega (arith, more)) in
      omega (arith, product, rw (pow-suc p.sweep.denominator m) at fits)

  -- the sum over the entries so far and the next one fits
  pub entry_fits : (t c : ℕ) → t < p.horizon → 1 ≤ t → c < p.cells → (q : List ℕ) (i : ℕ) (e : CellPart) → i < length (row_of p.drift t c) →
      sum_by (entry_term p t q (p.horizon - (t + 1))) (take i (row_of p.drift t c)) + entry_term p t q (p.horizon - (t + 1)) (get_or (row_of p.drift t c) i e) < 2 ^ 127
  entry_fits t c more some here q i e lt =
      let m = p.horizon - (t + 1) in
      let all = after_entries-fit p sound t c here q m (omega (arith, more, some)) (i + 1) in
      rw (sum_by_more (entry_term p t q m) (row_of p.drift t c) i e lt) at all

  -- the sum over all entries is what follows
  pub entries_done : (t c : ℕ) → t < p.horizon → c < p.cells → (q : List ℕ) → sum_by (entry_term p t q (p.horizon - (t + 1))) (row_of p.drift t c) ≡ after_of p t c q (p.horizon - t)
  entries_done t c more here q =
      let deep : p.horizon - t ≡ suc (p.horizon - (t + 1)) = omega (arith, more) in
      rw deep (sym (after_of-by_row p sound t c here q (p.horizon - (t + 1))))

  -- the sum over the first cells so far and the next one fits
  pub first_fits : (q : List ℕ) (c : ℕ) → c < p.cells → sum_by (first_term p q) (range_with_len 0 c) + first_term p q c < 2 ^ 127
  first_fits q c here = rw (sum_by-range_more (first_term p q) c) at (missed_cells-fit p sound q (c + 1) (omega (arith, here)))

  -- the positions of what follows the moves are positions
  pub positions_follow : (a : ℕ) → a < length p.moves → (q : List ℕ) → Follows p.moves a q → All (λ b. b < p.positions) q
  positions_follow a here q follows = rw (← sound.grid_positions) (follows_within p.moves sound.grid a here q follows)

  -- all looks but the first are positions, too
  pub later_positions : (q : List ℕ) → All (λ b. b < p.positions) q → All (λ b. b < p.positions) (drop 1 q)
  later_positions [] all = all
  later_positions (a ∷ q) all = All-tail (λ b. b < p.positions) a q all

  -- a drift row's entries are cells
  pub row_within : (t c : ℕ) → c < p.cells → All (λ entry. entry.cell < p.cells) (row_of p.drift t c)
  row_within t c here = rw (← sound.drift_cells) (sound.drift.each t c (omega (arith, here, sound.drift_cells))).within
