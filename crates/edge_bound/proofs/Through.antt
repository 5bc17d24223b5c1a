-- What the second of two looks finds of masses in the period of the first one, and what the first one takes of that.
use Rattle.std.proofs.Common.{ℕ, ◌+◌, ◌*◌, ◌-◌, ◌<◌, ◌≤◌, ◌≡◌, List, length, slice_index, sym, ap, ◌∙◌, arith, sum_by}
use Rattle.period_rows.specs.declared.part.CellPart.{CellPart}
use Rattle.sweep_table.specs.LookParts.{look_row, factor_of}
use Rattle.search_model.specs.Problem.{Problem, IsProblem}
use Rattle.search_model.specs.Bounds.{reward_of}
use Rattle.search_model.specs.Edge.{edge_reward_of}
use Rattle.search_model.proofs.LookRows.{found_in_cells}
use Rattle.list_laws.proofs.Sums.{sum_by-same, sum_by-range-same, sum_by-times, sum_by-plus, sum_by-exchange}
use Rattle.drift_chain.specs.DriftRows.{part_of}
use Rattle.belief_update.specs.Masses.{mass_of, looks_to}
use Rattle.belief_update.specs.Belief.{BeliefState}
use Rattle.belief_update.specs.Trails.{row_at}
use Rattle.belief_update.specs.Onward.{OnwardState, IsOnward}
use Rattle.belief_update.specs.Found.{found_in, found_of}
use Rattle.belief_update.proofs.BeliefSteps.{mass_at}
use Rattle.belief_update.proofs.OnwardRows.{belief_at}
use Rattle.edge_bound.specs.After.{mass_after_look, going_on, through, parts_after, loss_of}
use Rattle.edge_bound.proofs.Discounts.{taken_of_mass, reward_parts, edge_reward_is}

module _ (p : Problem) (t b : ℕ) where
  -- of equal masses a look finds the same
  pub found-same : (f h : ℕ → ℕ) → ((d : ℕ) → f d ≡ h d) → found_of p t b f ≡ found_of p t b h
  found-same f h same = sum_by-same (found_in p f) (found_in p h) (look_row p.sweep t b) (λ e. ap (λ (m : ℕ). m * (p.sweep.denominator - e.part)) (same e.cell))

  -- it does where they are equal in all cells
  pub found-agree : IsProblem p → (f h : ℕ → ℕ) → ((d : ℕ) → d < p.cells → f d ≡ h d) → found_of p t b f ≡ found_of p t b h
  found-agree sound f h same =
      let left : ℕ → ℕ = λ d. p.sweep.denominator - factor_of p.sweep t b d in
      sym (found_in_cells p sound t b f)
      ∙ sum_by-range-same p.cells (λ d. f d * left d) (λ d. h d * left d) (λ d here. ap (λ (m : ℕ). m * left d) (same d here))
      ∙ found_in_cells p sound t b h

  -- of the sum of two masses it finds the sum of what it finds of each
  pub found-plus : (f h : ℕ → ℕ) → found_of p t b (λ d. f d + h d) ≡ found_of p t b f + found_of p t b h
  found-plus f h =
      sum_by-same (found_in p (λ d. f d + h d)) (λ e. found_in p f e + found_in p h e) (look_row p.sweep t b) (λ e. omega arith)
      ∙ sum_by-plus (found_in p f) (found_in p h) (look_row p.sweep t b)

  -- of multiples it finds the multiple
  pub found-times : (f : ℕ → ℕ) (k : ℕ) → found_of p t b (λ d. f d * k) ≡ found_of p t b f * k
  found-times f k =
      sum_by-same (found_in p (λ d. f d * k)) (λ e. found_in p f e * k) (look_row p.sweep t b) (λ e. omega arith)
      ∙ sum_by-times (found_in p f) k (look_row p.sweep t b)

  -- of sums it finds the sum
  pub found-sum : {X : Type 0} (f : X → ℕ → ℕ) (xs : List X) → found_of p t b (λ d. sum_by (λ x. f x d) xs) ≡ sum_by (λ x. found_of p t b (f x)) xs
  found-sum f xs =
      let g = p.sweep.denominator in
      sum_by-same (found_in p (λ d. sum_by (λ x. f x d) xs)) (λ e. sum_by (λ x. f x e.cell * (g - e.part)) xs) (look_row p.sweep t b)
      (λ e. sym (sum_by-times (λ x. f x e.cell) (g - e.part) xs))
      ∙ sum_by-exchange (λ (e : CellPart) x. f x e.cell * (g - e.part)) (look_row p.sweep t b) xs

-- of the masses that are kept of a period after a prefix it finds what it finds with no look between
pub found_onward : (p : Problem) → IsProblem p → (q : List ℕ) (t b : ℕ) (o : OnwardState) (s : BeliefState) → IsOnward p q o → length q < t → t ≤ p.horizon → s ≡ row_at o.rows (t - 1) →
    found_of p t b (slice_index s.masses) ≡ found_of p t b (mass_of p (looks_to t q))
found_onward p sound q t b o s onward later last same =
    found-agree p t b sound (slice_index s.masses) (mass_of p (looks_to t q)) (mass_at p (looks_to t q) s (belief_at p q o t s onward later last same))

module _ (p : Problem) (q : List ℕ) (t b : ℕ) where
  -- what it finds of all that goes on from one cell
  through_is : (c : ℕ) → found_of p t b (λ d. going_on p q t d c) ≡ through p q t b c
  through_is c =
      let m = mass_of p (looks_to (t - 1) q) c in
      let part : ℕ → ℕ = part_of p.drift (t - 1) c in
      let swapped = found-same p t b (λ d. m * part d) (λ d. part d * m) (λ d. omega arith) in
      omega (arith, swapped, found-times p t b part m)

  -- and what it would find of what a look from a takes is what that look takes, cell by cell
  found_taken : (a : ℕ) → found_of p t b (λ d. found_of p (t - 1) a (going_on p q t d)) ≡ found_of p (t - 1) a (through p q t b)
  found_taken a =
      let g = p.sweep.denominator in
      let before = look_row p.sweep (t - 1) a in
      found-sum p t b (λ (e : CellPart) d. going_on p q t d e.cell * (g - e.part)) before
      ∙ sum_by-same (λ (e : CellPart). found_of p t b (λ d. going_on p q t d e.cell * (g - e.part))) (found_in p (through p q t b)) before
      (λ e. found-times p t b (λ d. going_on p q t d e.cell) (g - e.part) ∙ ap (λ (m : ℕ). m * (g - e.part)) (through_is e.cell))

  -- what a look from b finds after one from a in the period before, and what that one takes of it, are what it finds
  -- without that one
  pub taken_of_found : IsProblem p → length q + 2 ≤ t → (a : ℕ) →
      found_of p t b (mass_after_look p q t a) + found_of p (t - 1) a (through p q t b) ≡ found_of p t b (mass_of p (looks_to t q)) * p.sweep.denominator
  taken_of_found sound later a =
      let g = p.sweep.denominator in
      let left : ℕ → ℕ = mass_after_look p q t a in
      let taken : ℕ → ℕ = λ d. found_of p (t - 1) a (going_on p q t d) in
      let mass : ℕ → ℕ = mass_of p (looks_to t q) in
      let both = found-plus p t b left taken in
      let each = found-same p t b (λ d. left d + taken d) (λ d. mass d * g) (λ d. taken_of_mass p q t later sound a d) in
      omega (arith, both, each, found-times p t b mass g, found_taken a)

  -- so are its reward after that one and what that one takes of it
  pub taken_of_reward : IsProblem p → length q + 2 ≤ t → t ≤ p.horizon → (a : ℕ) → edge_reward_of p q t a b + loss_of p q t a b ≡ reward_of p q t b
  taken_of_reward sound later last a =
      let parts = parts_after p q t in
      let both = ap (λ (s : ℕ). s * parts) (taken_of_found sound later a) in
      omega (arith, both, edge_reward_is p sound q t a b later last, reward_parts p sound q t b later last)
