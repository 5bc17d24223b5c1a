-- The code's words for names that were looked up: cells, and pairs of a cell with its part.
use Rattle.std.specs.Prelude.{ℕ, Bool, false, ◌&&◌, ◌||◌, [], ◌∷◌, is_some, ◌==◌, if◌then◌else◌, List, map, Option, Some, None, Result, Ok, Err, unwrap_or}
use Rattle.std.specs.List.{list_any}
use Rattle.scenario_text.specs.declared.kind.TextKind.{TextKind}
use Rattle.scenario_text.specs.declared.kind.TextKind.TheVariants.{BadNumber, OverLimit, UnknownName, DoubleName}
use Rattle.scenario_text.specs.declared.pair.Pair.{Pair}
use Rattle.scenario_text.specs.Fields.{number_in, cell_named}
use Rattle.exact_parts.specs.Decimal.{number_at}
use Rattle.period_rows.specs.declared.part.CellPart.{CellPart}

-- a cell's number stands among others
abbrev pub stands_in : Option ℕ → List (Option ℕ) → Bool
stands_in None cs = false
stands_in (Some c) cs = list_any (λ d. is_some d && unwrap_or d 0 == c) cs

-- a cell's number stands twice
unfoldable pub has_double : List (Option ℕ) → Bool
has_double [] = false
has_double (c ∷ cs) = stands_in c cs || has_double cs

-- the pairs of `NAME PART NAME PART ..`
unfoldable pub pairs_of : List (List ℕ) → List (List ℕ) → List Pair
pairs_of names [] = []
pairs_of names (name ∷ []) = []
pairs_of names (name ∷ part ∷ fields) = record { cell = cell_named names name; part = number_at 1000000 part } ∷ pairs_of names fields

-- their entries
abbrev pub entries_of : List Pair → List CellPart
entries_of pairs = map (λ x. record { cell = unwrap_or x.cell 0; part = number_in x.part }) pairs

-- nothing, or the first kind of fault among the numbers and the names of pairs
abbrev pub right_pairs : Bool → Bool → Bool → Bool → Result (Unit {0}) TextKind
right_pairs bad over unknown double =
    if bad then Err BadNumber else (if over then Err OverLimit else (if unknown then Err UnknownName else (if double then Err DoubleName else Ok tt)))

-- the cell or the position of a row, where neither a number nor a name of its line has a fault
abbrev pub known_owner : Option ℕ → Bool → Bool → Result ℕ TextKind
known_owner None unknown double = Err UnknownName
known_owner (Some own) unknown double = if unknown then Err UnknownName else (if double then Err DoubleName else Ok own)

-- or the first kind of fault among them
abbrev pub owner_of : Bool → Bool → Option ℕ → Bool → Bool → Result ℕ TextKind
owner_of bad over own unknown double = if bad then Err BadNumber else (if over then Err OverLimit else known_owner own unknown double)
