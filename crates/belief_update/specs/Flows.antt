-- Where a unit of the target that was in one cell is, where all steps of the drift are as the first one.
use Rattle.std.specs.Prelude.{ℕ, zero, suc, [], ◌∷◌, ◌++◌, map, ◌≡◌, ◌<◌, ◌≤◌, ◌==◌, ◌+◌, ◌-◌, ◌*◌, if◌then◌else◌, List, length, take, drop, slice_index, slice_index_or, sum_by, All}
use Rattle.std.specs.List.{range_with_len}
use Rattle.drift_chain.specs.DriftRows.{row_of, part_of}
use Rattle.sweep_table.specs.LookParts.{look_row, misses}
use Rattle.search_model.specs.Problem.{Problem}
use Rattle.belief_update.specs.Belief.{BeliefState}
use Rattle.belief_update.specs.Taken.{TakenState, IsTaken, IsLater}
use Rattle.belief_update.specs.declared.flows.UnitPart.{UnitPart}
use Rattle.belief_update.specs.declared.flows.Span.{Span}

-- all steps of the drift are as the first one
abbrev pub DriftsAlike : Problem → Type 0
DriftsAlike p = (t c : ℕ) → 1 ≤ t → t < p.horizon → c < p.cells → row_of p.drift t c ≡ row_of p.drift 1 c

-- how much of a unit in cell a is in cell d after n steps
unfoldable pub unit_of : Problem → ℕ → ℕ → ℕ → ℕ
unit_of p a zero d = if d == a then 1 else 0
unit_of p a (suc n) d = sum_by (λ c. unit_of p a n c * part_of p.drift 1 c d) (range_with_len 0 p.cells)

-- how much of it entries have in cell d
unfoldable pub held_in : List UnitPart → ℕ → ℕ
held_in entries d = sum_by (λ entry. if entry.cell == d then entry.part else 0) entries

-- what is noted of a cell: an entry, where it has a mass
abbrev pub entry_of : ℕ → ℕ → List UnitPart
entry_of cell part = if part == 0 then [] else record { cell = cell; part = part } ∷ []

-- the entries have what some masses are
pub record HoldMasses (masses : List ℕ) (entries : List UnitPart) : Type 0 where
  pub cells : All (λ entry. entry.cell < length masses) entries
  pub each : (d : ℕ) → d < length masses → held_in entries d ≡ slice_index masses d

-- the entries have what a unit in cell a is after n steps
pub record HoldUnit (p : Problem) (a n : ℕ) (entries : List UnitPart) : Type 0 where
  pub cells : All (λ entry. entry.cell < p.cells) entries
  pub each : (d : ℕ) → d < p.cells → held_in entries d ≡ unit_of p a n d

-- so many times what the entries have is what so many units in cell a are after n steps
pub record HoldUnits (p : Problem) (a units n : ℕ) (entries : List UnitPart) : Type 0 where
  pub cells : All (λ entry. entry.cell < p.cells) entries
  pub each : (d : ℕ) → d < p.cells → units * held_in entries d ≡ units * unit_of p a n d

-- what contracts see of a flow: the unit after the last step that was made, the entries of all steps, and which are whose
pub record FlowState : Type 0 where
  pub unit : List ℕ
  pub entries : List UnitPart
  pub spans : List Span

-- the entries of a span
abbrev pub entries_in : List UnitPart → Span → List UnitPart
entries_in entries span = take (span.to - span.from) (drop span.from entries)

-- the span of the n-th step
abbrev pub span_of : List Span → ℕ → Span
span_of spans n = slice_index_or spans (n - 1) (record { from = 0; to = 0 })

-- the flow is of a unit in cell a, as many steps on as it has spans
pub record IsFlow (p : Problem) (a : ℕ) (f : FlowState) : Type 0 where
  pub cells : length f.unit ≡ p.cells
  pub unit : (d : ℕ) → d < p.cells → slice_index f.unit d ≡ unit_of p a (length f.spans) d
  pub order : (n : ℕ) → 1 ≤ n → n ≤ length f.spans → (span_of f.spans n).from ≤ (span_of f.spans n).to
  pub inside : (n : ℕ) → 1 ≤ n → n ≤ length f.spans → (span_of f.spans n).to ≤ length f.entries
  pub rows : (n : ℕ) → 1 ≤ n → n ≤ length f.spans → HoldUnit p a n (entries_in f.entries (span_of f.spans n))

-- the steps up to the n-th are made, where there are units that go them
abbrev pub HasStepsFor : ℕ → ℕ → FlowState → Type 0
HasStepsFor units n f = 1 ≤ units → n ≤ length f.spans

-- one look took so many units of the belief, which entries have where they are now
pub record IsUnits (p : Problem) (q r : List ℕ) (b : BeliefState) (found : ℕ) (entries : List UnitPart) (s : TakenState) : Type 0 where
  pub later : IsLater p q r b s
  pub cells : All (λ entry. entry.cell < p.cells) entries
  pub units : (c : ℕ) → c < p.cells → slice_index s.masses c ≡ found * held_in entries c

abbrev pub IsUnitsOfSome : Problem → BeliefState → ℕ → List UnitPart → Type 0
IsUnitsOfSome p b found entries = (q : List ℕ) × (r : List ℕ) × (s : TakenState) × IsUnits p q r b found entries s

-- looks from position a cover the cell of its number alone, in all periods
abbrev pub IsOwn : Problem → ℕ → Type 0
IsOwn p a = (part : ℕ) × ((t : ℕ) → look_row p.sweep t a ≡ misses a part ∷ [])

-- so many units that were in cell a, n steps on
abbrev pub units_on : Problem → ℕ → ℕ → ℕ → List ℕ
units_on p a units n = map (λ c. units * unit_of p a n c) (range_with_len 0 p.cells)

-- a look from a behind a prefix took so many units of its cell, and nothing else: what it took is these, step by step
abbrev pub IsMadeUp : Problem → List ℕ → ℕ → ℕ → Type 0
IsMadeUp p q a units =
    (n : ℕ) → length q + 1 + n ≤ p.horizon →
    IsTaken p q (q ++ a ∷ []) (record { period = length q + 1 + n; scale = p.sweep.denominator; masses = units_on p a units n })

-- a flow for each cell, where all steps of the drift are alike, or none at all
pub record AreFlows (p : Problem) (flows : List FlowState) : Type 0 where
  pub each : (a : ℕ) (none : FlowState) → a < length flows → IsFlow p a (slice_index_or flows a none)
  pub all : 1 ≤ length flows → length flows ≡ p.cells
  pub alike : 1 ≤ length flows → DriftsAlike p

-- the flow of a position's own cell is there
pub record HasOwnFlow (p : Problem) (flows : List FlowState) (a : ℕ) : Type 0 where
  pub own : IsOwn p a
  pub alike : DriftsAlike p
  pub inside : a < length flows
