-- The fields of the lines with the rows of cells.
use Rattle.std.specs.Prelude.{ℕ, List, [], ◌∷◌, map, codes}
use Rattle.std.specs.List.{flat_map}
use Rattle.std.specs.Fmt.{decimal}
use Rattle.period_rows.specs.declared.part.CellPart.{CellPart}
use Rattle.search_model.specs.Names.{name_in}

-- `NAME PART NAME PART ..`
abbrev pub entry_fields : List (List ℕ) → List CellPart → List (List ℕ)
entry_fields names entries = flat_map (λ e. name_in names e.cell ∷ decimal e.part ∷ []) entries

-- `cell NAME`
abbrev pub cell_row : List ℕ → List (List ℕ)
cell_row name = codes "cell" ∷ name ∷ []

-- `moves NAME NAME ..` of a cell
abbrev pub moves_of : List (List ℕ) → ℕ → List ℕ → List (List ℕ)
moves_of names c moves = codes "moves" ∷ name_in names c ∷ map (name_in names) moves

-- `drift NAME NAME PART ..` of a cell
abbrev pub drift_of : List (List ℕ) → ℕ → List CellPart → List (List ℕ)
drift_of names c entries = codes "drift" ∷ name_in names c ∷ entry_fields names entries

-- `first NAME PART ..`
abbrev pub first_row : List (List ℕ) → List CellPart → List (List ℕ)
first_row names entries = codes "first" ∷ entry_fields names entries

-- `overlook NAME PART` of a cell
abbrev pub overlook_of : List (List ℕ) → ℕ → ℕ → List (List ℕ)
overlook_of names c part = codes "overlook" ∷ name_in names c ∷ decimal part ∷ []
