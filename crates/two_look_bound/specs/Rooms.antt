-- What contracts see of the tables of the bound that remembers two looks, and when they are right.
use Rattle.std.specs.Prelude.{ℕ, Bool, IsTrue, ◌≡◌, ◌+◌, ◌*◌, ◌<◌, ◌≤◌, List, length, slice_index}
use Rattle.search_model.specs.Problem.{Problem}
use Rattle.belief_update.specs.Flows.{IsOwn}
use Rattle.edge_bound.specs.Units.{UnitTable, place_of, unit_at}
use Rattle.two_look_bound.specs.Taken.{two_of}

-- for each period from the second to the last but one, cell and position: what a look from the position in the period after it finds
-- of a unit that was in the cell in the period before it
pub record HasTwos (p : Problem) (u : UnitTable) : Type 0 where
  pub inside : (s c b : ℕ) → 2 ≤ s → s + 1 ≤ p.horizon → c < p.cells → b < p.positions → place_of u s c b < length u.units
  pub each : (s c b : ℕ) → 2 ≤ s → s + 1 ≤ p.horizon → c < p.cells → b < p.positions → unit_at u s c b ≡ two_of p s c b

-- from a place on stand the numbers of a period, a row of positions for each cell
abbrev pub HasTwosBlock : Problem → ℕ → List ℕ → ℕ → Type 0
HasTwosBlock p s units place =
    (c b : ℕ) → c < p.cells → b < p.positions → slice_index units (place + (c * p.positions + b)) ≡ two_of p s c b

-- the numbers of so many periods from the second on stand one after the other
pub record HasTwosBlocks (p : Problem) (n : ℕ) (units : List ℕ) : Type 0 where
  pub size : length units ≡ n * (p.cells * p.positions)
  pub each : (m : ℕ) → m < n → HasTwosBlock p (m + 2) units (m * (p.cells * p.positions))

-- what looks find of units two periods after; whether each look covers its own cell alone; the sums of the pairs of two periods; and
-- rows for a look in one period: three of cells, of what it finds in each, what it takes of each a period later, and what the look
-- after it finds of that, and two of positions, of rewards, and what looks two periods later find with it
pub record TwoLookRoom : Type 0 where
  pub twos : UnitTable
  pub own : Bool
  pub sums : List ℕ
  pub rows : List ℕ

-- these tables were made for this scenario
pub record AreTablesFor (p : Problem) (e : TwoLookRoom) : Type 0 where
  pub twos : HasTwos p e.twos
  pub own : IsTrue e.own → (b : ℕ) → b < p.positions → IsOwn p b
  pub sums : length e.sums ≡ p.positions * p.positions + p.positions * p.positions
  pub rows : length e.rows ≡ p.cells + p.cells + p.cells + p.positions + p.positions
