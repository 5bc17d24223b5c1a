-- The masses after a prefix and one look more.
use Rattle.std.specs.Prelude.{ℕ, ◌+◌, ◌-◌, ◌*◌, ◌^◌, List, [], ◌∷◌, ◌++◌, length, Some, None}
use Rattle.drift_chain.specs.DriftRows.{part_of}
use Rattle.search_model.specs.Problem.{Problem}
use Rattle.belief_update.specs.Masses.{mass_of, looks_to}
use Rattle.belief_update.specs.Found.{found_of}
use Rattle.edge_bound.specs.Found.{one_of}

-- the mass of cell d in period t, after the looks of a prefix, a look from position a in the period before, and no others
abbrev pub mass_after_look : Problem → List ℕ → ℕ → ℕ → ℕ → ℕ
mass_after_look p q t a d = mass_of p (looks_to (t - 2) q ++ Some a ∷ [] ++ None ∷ []) d

-- what comes to cell d in period t of the mass of cell c in the period before, with no look after the prefix
abbrev pub going_on : Problem → List ℕ → ℕ → ℕ → ℕ → ℕ
going_on p q t d c = mass_of p (looks_to (t - 1) q) c * part_of p.drift (t - 1) c d

-- what a look from position b in period t finds of the mass of cell c in the period before, with no other look after the
-- prefix
abbrev pub through : Problem → List ℕ → ℕ → ℕ → ℕ → ℕ
through p q t b c = mass_of p (looks_to (t - 1) q) c * one_of p t c b

-- the parts of what is to come after a look in period t, with the looks of the prefix, that one and the one before it, and no
-- others
abbrev pub parts_after : Problem → List ℕ → ℕ → ℕ
parts_after p q t = p.drift.denominator ^ (p.horizon - t) * p.sweep.denominator ^ (p.horizon - (length q + 2))

-- what a look from position a in the period before takes of the reward of a look from b in period t
abbrev pub loss_of : Problem → List ℕ → ℕ → ℕ → ℕ → ℕ
loss_of p q t a b = found_of p (t - 1) a (through p q t b) * parts_after p q t
