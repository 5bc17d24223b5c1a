-- What a look from a takes of the edge reward of the two looks after it, from b in period s and from c in the next one: what a and c
-- would find, less what all three would.
use Rattle.std.specs.Prelude.{ℕ, ◌≡◌, ◌+◌, ◌-◌, ◌*◌, ◌^◌, ◌<◌, List, length, slice_index, slice_index_or, sum_by}
use Rattle.std.specs.List.{range_with_len}
use Rattle.period_rows.specs.declared.part.CellPart.{CellPart}
use Rattle.drift_chain.specs.DriftRows.{part_of}
use Rattle.sweep_table.specs.LookParts.{look_row, misses}
use Rattle.search_model.specs.Problem.{Problem}
use Rattle.belief_update.specs.Masses.{mass_of, looks_to}
use Rattle.belief_update.specs.Found.{found_in, found_of}
use Rattle.longest_walk.specs.Near.{IsNear}
use Rattle.edge_bound.specs.Found.{one_of}
use Rattle.edge_bound.specs.After.{going_on}
use Rattle.edge_bound.specs.Units.{UnitTable, unit_at}

-- what a look from position c in period s + 1 finds of a unit that was in cell d two periods before
abbrev pub two_of : Problem → ℕ → ℕ → ℕ → ℕ
two_of p s d c = sum_by (λ e. part_of p.drift (s - 1) d e * one_of p (s + 1) e c) (range_with_len 0 p.cells)

-- what a look from position a in the period before s takes of the mass of cell e in period s
abbrev pub taken_to : Problem → List ℕ → ℕ → ℕ → ℕ → ℕ
taken_to p q s a e = found_of p (s - 1) a (going_on p q s e)

-- the parts of what is to come after a look in period s + 1, with the looks of the prefix, that one and the two before it
abbrev pub parts_after_two : Problem → List ℕ → ℕ → ℕ
parts_after_two p q s = p.drift.denominator ^ (p.horizon - (s + 1)) * p.sweep.denominator ^ (p.horizon - (length q + 3))

-- what comes to each cell in period s + 1 of a unit that was in cell c two periods before
abbrev pub HasGone : Problem → ℕ → ℕ → List ℕ → Type 0
HasGone p s c gone = (d : ℕ) → d < p.cells → slice_index gone d ≡ sum_by (λ e. part_of p.drift (s - 1) c e * part_of p.drift s e d) (range_with_len 0 p.cells)

-- what a look from position a in the period before s finds, in these parts
abbrev pub share_of : Problem → List ℕ → ℕ → ℕ → ℕ
share_of p q s a = found_of p (s - 1) a (mass_of p (looks_to (s - 1) q)) * parts_after_two p q s

-- what looks in period t find of a unit that was in cell c a period before, position by position
abbrev pub IsUnitRow : Problem → ℕ → ℕ → List ℕ → Type 0
IsUnitRow p t c row = (b : ℕ) → b < p.positions → slice_index row b ≡ one_of p t c b

-- what it takes of the mass of each cell in period s, in these parts
abbrev pub HasTaken : Problem → List ℕ → ℕ → ℕ → List ℕ → Type 0
HasTaken p q s a taken = (e : ℕ) → e < p.cells → slice_index taken e ≡ taken_to p q s a e * parts_after_two p q s

-- what looks from a and c would find one after the other, with none between them
abbrev pub skip_of : Problem → List ℕ → ℕ → ℕ → ℕ → ℕ
skip_of p q s a c = found_of p (s - 1) a (λ d. mass_of p (looks_to (s - 1) q) d * two_of p s d c) * parts_after_two p q s * p.sweep.denominator

-- what looks from a, b and c would find one after the other
abbrev pub joint_of : Problem → List ℕ → ℕ → ℕ → ℕ → ℕ → ℕ
joint_of p q s a b c = found_of p s b (λ e. taken_to p q s a e * one_of p (s + 1) e c) * parts_after_two p q s

-- what looks from a and b would find one after the other
abbrev pub less_of : Problem → List ℕ → ℕ → ℕ → ℕ → ℕ
less_of p q s a b = found_of p s b (taken_to p q s a) * parts_after_two p q s

-- for each entry of the row of a look from b in period s, what it would find of what the look from a takes there
abbrev pub HasLess : Problem → List ℕ → ℕ → ℕ → ℕ → List ℕ → Type 0
HasLess p q s a b less =
    (i : ℕ) → i < length (look_row p.sweep s b) → slice_index less i ≡ found_in p (taken_to p q s a) (slice_index_or (look_row p.sweep s b) i (misses 0 0)) * parts_after_two p q s

-- what looks from a and c would find, for all c within two moves of a
abbrev pub HasSkips : Problem → List ℕ → ℕ → ℕ → List ℕ → Type 0
HasSkips p q s a skips = (c : ℕ) → IsNear p.moves 2 a c → slice_index skips c ≡ skip_of p q s a c

-- the sum of some shares, one for each entry of a row, times the numbers of their cells in a table
abbrev pub weighted_sum : UnitTable → ℕ → ℕ → List CellPart → List ℕ → ℕ
weighted_sum u t b row shares = sum_by (λ i. slice_index shares i * unit_at u t (slice_index_or row i (misses 0 0)).cell b) (range_with_len 0 (length row))
