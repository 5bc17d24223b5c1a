-- The least walk of the greatest sum, position by position from the table.
use Rattle.std.proofs.Common.{ℕ, suc, ◌+◌, ◌-◌, ◌*◌, ◌≤◌, ◌<◌, ◌≡◌, List, [], ◌∷◌, ◌++◌, map, length, drop, slice_index, sym, refl, ap, ◌∙◌, subst, arith, Contains, append_assoc}
use Rattle.std.proofs.lemmas.List.{drop-append-le, length-append}
use Rattle.search_grid.specs.Moves.{moves_from, IsGrid}
use Rattle.search_model.specs.Bounds.{greatest}
use Rattle.search_model.specs.Order.{Starts}
use Rattle.search_model.specs.Reference.{IsLeastBest}
use Rattle.longest_walk.specs.Rows.{sums_at, IsLeastMove}
use Rattle.longest_walk.specs.Near.{IsNear}
use Rattle.longest_walk.specs.Tables.{HasSumsNear}
use Rattle.longest_walk.proofs.Steps.{sum_through}
use Rattle.longest_walk.proofs.LeastWalks.{IsLeastBest-cons}
use Rattle.longest_walk.proofs.Filling.{HasSumsOf, NearPositions, near_closed, next_entry, next_entries}

-- the least move, and then the least walk from there, for positions within reach of one after period k
pub IsLeastBest-step : (rows : List (List ℕ)) → IsGrid rows → (horizon : ℕ) (r : ℕ → ℕ → ℕ) (sums : List ℕ) (from k p a d : ℕ) (y : List ℕ) → from < length rows → k ≤ p →
    HasSumsNear rows (length rows) horizon r from k sums → p < horizon → IsNear rows (p - k) from a →
    IsLeastMove sums (p * length rows) (moves_from rows a) d →
    IsLeastBest rows r (horizon - (p + 1)) (p + 1 + 1) d y →
    IsLeastBest rows r (horizon - p) (p + 1) a (d ∷ y)
IsLeastBest-step rows grid horizon r sums from k p a d y start le filled below near step rest =
    let n : ℕ = horizon - (p + 1) in
    let long : suc n ≡ horizon - p = omega (arith, below) in
    let N : ℕ → ℕ → Type 0 = NearPositions rows from k in
    let parts = near_closed rows grid from k p a start le near in
    let later : HasSumsOf rows horizon r N p sums = λ t q after last here. filled t q (omega (arith, le, after)) last here in
    let entry : (e : ℕ) → Contains (moves_from rows a) e → slice_index sums (p * length rows + e) ≡ sum_through rows r n (p + 1) e =
    λ e move. next_entry rows grid horizon r N sums p later below e (parts.1 e move) in
    let whole : greatest (sums_at sums (p * length rows) (moves_from rows a)) ≡ greatest (map (sum_through rows r n (p + 1)) (moves_from rows a)) =
    ap greatest (next_entries rows grid horizon r N sums p later below a parts.1) in
    subst (λ m. IsLeastBest rows r m (p + 1) a (d ∷ y)) long
    (IsLeastBest-cons rows grid r n (p + 1) a d y parts.0 step.move
    (sym (entry d step.move) ∙ step.best ∙ whole)
    (λ e move same. step.least e move (entry e move ∙ same ∙ sym whole))
    rest)

-- the positions after the first ones, with one more
pub drop-pushed : (old to : List ℕ) (d : ℕ) (y : List ℕ) → Starts old to → drop (length old) (to ++ d ∷ []) ++ y ≡ drop (length old) to ++ d ∷ y
drop-pushed old to d y starts =
    let le : length old ≤ length to = rw (starts.1, length-append) (omega arith) in
    rw (drop-append-le (length old) to (d ∷ []) le, append_assoc) refl

pub Starts-pushed : (old to : List ℕ) (d : ℕ) → Starts old to → Starts old (to ++ d ∷ [])
Starts-pushed old to d starts = (starts.0 ++ d ∷ [], ap (λ xs. xs ++ d ∷ []) starts.1 ∙ append_assoc old starts.0 (d ∷ []))
